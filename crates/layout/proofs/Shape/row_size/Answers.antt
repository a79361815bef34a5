-- `layout::Shape::row_size` meets its contract. Assumes nothing.
use mathlib.Core.Path.{refl}
use native.Mathlib.Omega.{arith}
use Rattle.layout.proofs.Range.{bounds}
use Rattle.layout.proofs.Shape.row_size.Goals as goal

pub overflow_mul-result : goal.overflow_mul-result
overflow_mul-result c = omega (arith, bounds c.args.self)

pub returns : goal.returns
returns c = refl
