-- `allocate::touch_body` meets its contract. Assumes nothing.
use mathlib.Core.Path.{◌≡◌}
use Rattle.stage.proofs.Counted.{fresh-next}
use Rattle.stage.proofs.Touched.{touched_none}
use Rattle.allocate.proofs.Body.{touched-word}
use Rattle.allocate.proofs.Rows.{room_within}
use native.Mathlib.Omega.{arith}
use Rattle.allocate.proofs.touch_body.Goals as goal

pub loop-i-init : goal.loop-i-init
loop-i-init c = touched_none _ _ _ _

pub touch_known-n-requires : goal.touch_known-n-requires
touch_known-n-requires c =
    let l = c.loop-i in
    (room_within c.requires.0 c.loop-i-test.true l.invariant, λ f. fresh-next (c.requires.3 f) c.loop-i-test.true l.invariant (omega arith))

pub loop-i-preserved : goal.loop-i-preserved
loop-i-preserved c = touched-word c.loop-i.invariant c.body_word-word.ensures c.touch_known-n.ensures (omega arith) (omega arith)

pub returns : goal.returns
returns c =
    let l = c.loop-i in
    let e : c.args.words ≡ l.i = omega (arith, l.auto.i-end, c.loop-i-test.false) in
    rw e l.invariant
