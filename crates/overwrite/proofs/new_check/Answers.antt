-- `overwrite::new_check` meets its contract. Assumes nothing.
use lib.ListN.{length-drop}
use Rattle.overwrite.proofs.Updated.{checking-start, checking-step, checking-end, rest_all}
use native.Mathlib.Omega.{arith}
use Rattle.overwrite.proofs.new_check.Goals as goal

pub loop-i-init : goal.loop-i-init
loop-i-init c = checking-start _ _ _ _ _

pub word-word-requires : goal.word-word-requires
word-word-requires c = (omega arith, omega (arith, c.args.view.now.words))

pub word_check-sum-requires : goal.word_check-sum-requires
word_check-sum-requires c = (omega arith, rw (rest_all _ _, length-drop _ _) (omega arith))

pub loop-i-preserved : goal.loop-i-preserved
loop-i-preserved c = checking-step c.loop-i.invariant c.word-word.ensures c.word_check-sum.ensures

pub returns : goal.returns
returns c = checking-end c.loop-i.invariant c.loop-i-test.false
