-- `layout::Shape::size` meets its contract. Assumes nothing.
use Rattle.rules.specs.Shape.{pool_size}
use borrow.Author.Rules.{rules}
use native.Mathlib.Omega.{arith}
use Rattle.layout.proofs.Range.{bounds, size-bounds}
use Rattle.layout.proofs.Shape.size.Goals as goal

pub overflow_add-result : goal.overflow_add-result
overflow_add-result c = omega (arith, bounds c.args.self)

pub overflow_mul-result : goal.overflow_mul-result
overflow_mul-result c = omega (arith, bounds c.args.self)

pub overflow_mul-result-2 : goal.overflow_mul-result-2
overflow_mul-result-2 c = omega (arith, bounds c.args.self)

pub overflow_add-result-2 : goal.overflow_add-result-2
overflow_add-result-2 c = omega (arith, bounds c.args.self)

pub overflow_mul-result-3 : goal.overflow_mul-result-3
unfolding pool_size
overflow_mul-result-3 c = omega (arith, (size-bounds c.args.self).1)

pub returns : goal.returns
unfolding pool_size
returns c = search rules
