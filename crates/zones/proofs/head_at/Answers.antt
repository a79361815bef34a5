-- `zones::head_at` meets its contract. Assumes nothing.
use native.Mathlib.Omega.{arith}
use Prim.Native.Nat.{◌%◌, ◌<◌}
use native.Mathlib.Nat.{mod-lt}
use Rattle.rules.specs.Zones.{head_at}
use Rattle.layout.proofs.Range.{size-bounds}
use Rattle.zones.proofs.Shaped.{cells-some}
use Rattle.zones.proofs.head_at.Goals as goal

pub overflow_add-result : goal.overflow_add-result
overflow_add-result c =
    let k : 0 < c.cells-cells.result = omega (arith, cells-some c.args.s, c.cells-cells.ensures.0) in
    let l : c.args.a % c.cells-cells.result < 65536 = omega (arith, mod-lt c.args.a k, c.cells-cells.ensures.1) in
    omega (arith, l, size-bounds c.args.s)

pub returns : goal.returns
unfolding head_at
returns c = rw (c.zone_at.ensures.0, c.cells-cells.ensures.0)
