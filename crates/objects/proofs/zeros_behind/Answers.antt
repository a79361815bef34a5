-- `objects::zeros_behind` meets its contract. Assumes nothing.
use Prim.Native.Nat.{◌+◌}
use native.Mathlib.Omega.{arith}
use Rattle.objects.proofs.Behind.{behind-end, behind-start, behind-step, last_word}
use Rattle.objects.proofs.zeros_behind.Goals as goal

pub word-requires : goal.word-requires
word-requires c = (omega arith, omega (arith, last_word c.args.m c.requires.1))

pub loop-i-init : goal.loop-i-init
loop-i-init c =
    let k = last_word c.args.m c.requires.1 in
    behind-start _ (c.args.at + 16) c.args.m c.requires.1 (omega arith) (omega arith) (omega arith) c.word.ensures

pub loop-i-preserved : goal.loop-i-preserved
loop-i-preserved c = behind-step _ c.loop-i.bits (omega arith) (omega arith) c.word-bits.ensures c.loop-i.invariant

pub returns : goal.returns
returns c =
    let l = c.loop-i in
    behind-end _ c.args.at c.args.m l.bits (omega arith) (omega arith) l.invariant
