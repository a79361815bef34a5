-- `overwrite::touch_range` meets its contract. Assumes nothing.
use Rattle.overwrite.proofs.Ranging.{fresh-rest, fresh_start, fresh-word, ranging-start, ranging-step, ranging-end, ranging-room, ranging-staged}
use native.Mathlib.Omega.{arith}
use borrow.Author.Rules.{rules}
use Rattle.overwrite.proofs.touch_range.Goals as goal

pub loop-done-init : goal.loop-done-init
loop-done-init c = (ranging-start _ c.requires.0 c.requires.1, λ f. fresh_start (c.requires.2 f))

pub known_word-requires : goal.known_word-requires
known_word-requires c =
    let l = c.loop-done in
    (ranging-staged c.requires.0 l.invariant.0, omega arith, omega (arith, c.requires.0.words, c.requires.1.inside), λ f. fresh-word c.args.at (l.invariant.1 f) c.loop-done-test.true)

pub touch_known-n-requires : goal.touch_known-n-requires
touch_known-n-requires c =
    (ranging-room c.loop-done.invariant.0 (omega arith), λ f. fresh-word c.args.at (c.loop-done.invariant.1 f) c.loop-done-test.true)

pub loop-done-preserved : goal.loop-done-preserved
loop-done-preserved c =
    let l = c.loop-done in
    (ranging-step l.invariant.0 (omega arith) (search rules) c.known_word.ensures c.lay_word-word.ensures c.touch_known-n.ensures, λ f. fresh-rest c.args.at (l.invariant.1 f) c.loop-done-test.true c.touch_known-n.ensures)

pub returns : goal.returns
returns c = ranging-end c.loop-done.invariant.0 c.requires.1.some (omega arith)
