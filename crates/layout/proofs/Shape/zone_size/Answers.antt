-- `layout::Shape::zone_size` meets its contract. Assumes nothing.
use mathlib.Core.Path.{refl}
use native.Mathlib.Omega.{arith}
use Rattle.layout.proofs.Range.{bounds}
use Rattle.layout.proofs.Shape.zone_size.Goals as goal

pub overflow_add-result : goal.overflow_add-result
overflow_add-result c = omega (arith, bounds c.args.self)

pub overflow_mul-result : goal.overflow_mul-result
overflow_mul-result c = omega (arith, bounds c.args.self)

pub overflow_mul-result-2 : goal.overflow_mul-result-2
overflow_mul-result-2 c = omega (arith, bounds c.args.self)

pub returns : goal.returns
returns c = refl
