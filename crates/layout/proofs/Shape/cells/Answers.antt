-- `layout::Shape::cells` meets its contract. Assumes nothing.
use mathlib.Core.Path.{refl}
use Rattle.rules.specs.Shape.{zone_cells}
use native.Mathlib.Omega.{arith}
use Rattle.layout.proofs.Range.{bounds}
use Rattle.layout.proofs.Shape.cells.Goals as goal

pub overflow_mul-result : goal.overflow_mul-result
overflow_mul-result c = omega (arith, bounds c.args.self)

pub overflow_mul-result-2 : goal.overflow_mul-result-2
overflow_mul-result-2 c = omega (arith, bounds c.args.self)

pub returns : goal.returns
unfolding zone_cells
returns c = (refl, omega (arith, bounds c.args.self))
