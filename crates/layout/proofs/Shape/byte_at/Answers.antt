-- `layout::Shape::byte_at` meets its contract. Assumes nothing.
use mathlib.Core.Path.{refl}
use Rattle.rules.specs.Shape.{byte_at}
use native.Mathlib.Omega.{arith}
use Rattle.layout.proofs.Range.{bounds, row-bounds}
use Rattle.layout.proofs.Shape.byte_at.Goals as goal

pub overflow_mul-result : goal.overflow_mul-result
overflow_mul-result c = omega (arith, bounds c.args.self)

pub overflow_add-result : goal.overflow_add-result
overflow_add-result c = omega (arith, bounds c.args.self)

pub overflow_mul-result-2 : goal.overflow_mul-result-2
overflow_mul-result-2 c = omega (arith, bounds c.args.self, row-bounds c.args.self c.requires.0 c.requires.1)

pub overflow_add-result-2 : goal.overflow_add-result-2
overflow_add-result-2 c = omega (arith, bounds c.args.self, row-bounds c.args.self c.requires.0 c.requires.1)

pub overflow_mul-result-3 : goal.overflow_mul-result-3
overflow_mul-result-3 c = omega (arith, bounds c.args.self)

pub overflow_mul-result-4 : goal.overflow_mul-result-4
overflow_mul-result-4 c = omega (arith, bounds c.args.self, row-bounds c.args.self c.requires.0 c.requires.1)

pub overflow_add-result-3 : goal.overflow_add-result-3
overflow_add-result-3 c = omega (arith, bounds c.args.self, row-bounds c.args.self c.requires.0 c.requires.1)

pub overflow_add-result-4 : goal.overflow_add-result-4
overflow_add-result-4 c = omega (arith, bounds c.args.self, row-bounds c.args.self c.requires.0 c.requires.1)

pub returns : goal.returns
unfolding byte_at
returns c = refl
