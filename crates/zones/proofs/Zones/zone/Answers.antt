-- `zones::Zones::zone` meets its contract. Assumes nothing.
use mathlib.Core.Path.{refl}
use Rattle.zones.proofs.Shaped.{zone-inside}
use Rattle.zones.proofs.Zones.zone.Goals as goal

pub invariant_of-result : goal.invariant_of-result
invariant_of-result c = record { zoned = zone-inside c.args.self.now.shape c.args.self.now.sized c.requires c.zone_at.ensures.0 c.cells.ensures.0 }

pub returns : goal.returns
returns c = record { view_is = refl; from_is = c.zone_at.ensures.0; cells_is = c.cells.ensures.0 }
