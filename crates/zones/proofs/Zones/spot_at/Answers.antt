-- `zones::Zones::spot_at` meets its contract. Assumes nothing.
use Rattle.layout.specs.Meaning.{shape_of}
use Rattle.stage.specs.Seen.{seen_by}
use Rattle.zones.proofs.Shaped.{address-bound, address-cell, address-zone, cells-some}
use Rattle.zones.proofs.NamedAt.{spot_in, spot_past}
use native.Mathlib.Omega.{arith}
use Rattle.zones.proofs.Zones.spot_at.Goals as goal

pub overflow_mul-self : goal.overflow_mul-self
overflow_mul-self c = omega (arith, rw (← c.cells-cells.ensures.0) at (address-bound c.args.self.now.shape))

pub returns-then-self-cells : goal.returns-then-self-cells
returns-then-self-cells c = spot_past (shape_of c.args.self.now.shape) (seen_by c.args.self.now.view) c.args.a c.cells-cells.ensures.0 c.if-self-cells.true

pub nonzero_div-a : goal.nonzero_div-a
nonzero_div-a c = omega (arith, cells-some c.args.self.now.shape, c.cells-cells.ensures.0)

pub zone-requires : goal.zone-requires
zone-requires c = address-zone c.args.self.now.shape c.cells-cells.ensures.0 c.if-self-cells.false

pub nonzero_rem-a : goal.nonzero_rem-a
nonzero_rem-a c = omega (arith, cells-some c.args.self.now.shape, c.cells-cells.ensures.0)

pub locate-requires : goal.locate-requires
locate-requires c = address-cell c.args.self.now.shape c.args.a c.cells-cells.ensures.0 c.zone.ensures.cells_is

pub returns : goal.returns
returns c = spot_in c.args.a c.cells-cells.ensures.0 c.zone.ensures c.locate.ensures
