-- `layout::Shape::zone_at` meets its contract. Assumes nothing.
use mathlib.Core.Path.{refl}
use Rattle.rules.specs.Shape.{zone_at}
use native.Mathlib.Omega.{arith}
use Rattle.layout.proofs.Range.{bounds, zone-at-le, zones-below}
use Rattle.layout.proofs.Shape.zone_at.Goals as goal

pub overflow_mul-result : goal.overflow_mul-result
overflow_mul-result c = omega (arith, bounds c.args.self)

pub overflow_add-result : goal.overflow_add-result
overflow_add-result c = omega (arith, bounds c.args.self)

pub overflow_mul-result-2 : goal.overflow_mul-result-2
overflow_mul-result-2 c = omega (arith, bounds c.args.self)

pub overflow_mul-result-3 : goal.overflow_mul-result-3
overflow_mul-result-3 c = omega (arith, bounds c.args.self)

pub overflow_mul-result-4 : goal.overflow_mul-result-4
overflow_mul-result-4 c = omega (arith, zones-below c.args.self c.args.z c.requires)

pub overflow_add-result-2 : goal.overflow_add-result-2
overflow_add-result-2 c = omega (arith, bounds c.args.self, zones-below c.args.self c.args.z c.requires)

pub returns : goal.returns
unfolding zone_at
returns c = (refl, zone-at-le c.args.self c.args.z c.requires)
