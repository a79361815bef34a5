-- `allocate::touch_rest` meets its contract. Assumes nothing.
use Rattle.allocate.proofs.Placed.{free-some, touched-free, touched-left}
use native.Mathlib.Omega.{arith}
use Rattle.allocate.proofs.touch_rest.Goals as goal

pub touch_head-requires : goal.touch_head-requires
touch_head-requires c =
    let e = free-some c.args.cells (omega arith) in
    (rw e c.requires.0, c.requires.2, λ f. rw e (c.requires.3 f))

pub returns-then-cells-eq0 : goal.returns-then-cells-eq0
returns-then-cells-eq0 c = touched-left _ _ _ (omega arith)

pub returns : goal.returns
returns c = touched-free _ _ (omega arith) c.free_head-h.ensures c.touch_head.ensures
