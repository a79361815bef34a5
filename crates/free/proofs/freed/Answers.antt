-- `free::freed` meets its contract. Assumes nothing.
use Rattle.free.proofs.Freeing.{free-freed, free-some, free-stands, free-zone, run-some, run-stands, spot-some}
use Rattle.free.proofs.freed.Goals as goal

pub unwrap-spot-requires : goal.unwrap-spot-requires
unwrap-spot-requires c = spot-some c.args.zones.now.shape _ c.args.a c.in_ok-object_in.ensures.passed c.spot_at-found.ensures

pub unwrap-run-requires : goal.unwrap-run-requires
unwrap-run-requires c = run-some c.args.zones.now.shape _ c.args.a c.in_ok-object_in.ensures.passed c.spot_at-found.ensures c.unwrap-spot.ensures

pub nonzero_div-a : goal.nonzero_div-a
nonzero_div-a c = free-some c.args.zones.now.shape c.cells-cells.ensures.0

pub zone-zone-requires : goal.zone-zone-requires
zone-zone-requires c = free-zone c.args.zones.now.shape c.args.zones.now.view c.args.zones.now.sized c.args.a c.in_ok-object_in.ensures.passed c.cells-cells.ensures.0

pub nonzero_rem-a : goal.nonzero_rem-a
nonzero_rem-a c = free-some c.args.zones.now.shape c.cells-cells.ensures.0

pub joined-place-requires : goal.joined-place-requires
joined-place-requires c =
    let e = c.in_ok-object_in.ensures.passed in
    free-stands c.args.zones.now.shape c.args.zones.now.view c.args.zones.now.sized c.args.a e c.cells-cells.ensures.0 c.zone-zone.ensures c.unwrap-run.result
    (run-stands c.args.zones.now.shape _ c.args.a e c.spot_at-found.ensures c.unwrap-spot.ensures c.unwrap-run.ensures)

pub returns : goal.returns
returns c = free-freed c.args.zones.now.shape c.args.zones.now.view c.args.zones.now.sized c.args.a c.in_ok-object_in.ensures.passed c.cells-cells.ensures.0 c.zone-zone.ensures c.joined-place.ensures
