-- `zones::Zones::object_in` meets its contract. Assumes nothing.
use Rattle.layout.specs.Meaning.{shape_of}
use Rattle.stage.specs.Seen.{seen_by}
use Rattle.zones.proofs.Shaped.{address-bound, address-cell, address-zone, cells-some}
use Rattle.zones.proofs.NamedAt.{address-named, address-past, spot-broken, spot-located}
use Rattle.std.proofs.lemmas.Result.{err_from_is_err_and}
use Rattle.runs.proofs.Going.{err-none, ok-some}
use native.Mathlib.Omega.{arith}
use Rattle.zones.proofs.Zones.object_in.Goals as goal

pub overflow_mul-self : goal.overflow_mul-self
overflow_mul-self c = omega (arith, rw (← c.cells-cells.ensures.0) at (address-bound c.args.self.now.shape))

pub returns-then-self-cells : goal.returns-then-self-cells
returns-then-self-cells c = address-past (shape_of c.args.self.now.shape) (seen_by c.args.self.now.view) c.args.a c.cells-cells.ensures.0 c.if-self-cells.true

pub returns-in_err-spot : goal.returns-in_err-spot
returns-in_err-spot c =
    let e = err-none c.args.spot c.in_err-spot.ensures.value in
    let p = err_from_is_err_and c.from_residual.result c.from_residual.ensures.1 in
    rw (p.1, p.2, e.1) (spot-broken (shape_of c.args.self.now.shape) (seen_by c.args.self.now.view) c.args.a c.cells-cells.ensures.0 c.if-self-cells.false c.requires e.0)

pub nonzero_div-a : goal.nonzero_div-a
nonzero_div-a c = omega (arith, cells-some c.args.self.now.shape, c.cells-cells.ensures.0)

pub zone-requires : goal.zone-requires
zone-requires c = address-zone c.args.self.now.shape c.cells-cells.ensures.0 c.if-self-cells.false

pub nonzero_rem-a : goal.nonzero_rem-a
nonzero_rem-a c = omega (arith, cells-some c.args.self.now.shape, c.cells-cells.ensures.0)

pub in_zone-requires : goal.in_zone-requires
in_zone-requires c =
    let d = spot-located c.args.a c.cells-cells.ensures.0 c.zone.ensures c.if-self-cells.false c.requires in
    (address-cell c.args.self.now.shape c.args.a c.cells-cells.ensures.0 c.zone.ensures.cells_is, d.spotted (ok-some _ _ c.in_ok-spot.ensures.value))

pub returns : goal.returns
returns c =
    let d = spot-located c.args.a c.cells-cells.ensures.0 c.zone.ensures c.if-self-cells.false c.requires in
    address-named c.args.a c.cells-cells.ensures.0 c.zone.ensures c.in_zone.result c.if-self-cells.false (d.whole (ok-some _ _ c.in_ok-spot.ensures.value)) c.in_zone.ensures
