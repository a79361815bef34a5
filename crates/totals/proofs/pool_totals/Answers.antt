-- `totals::pool_totals` meets its contract. Assumes nothing.
use native.Mathlib.Omega.{arith}
use Rattle.layout.proofs.Range.{bounds}
use Rattle.zones.proofs.Shaped.{cells-small, zone-of}
use Rattle.totals.proofs.TotallingZones.{zone-small, zones-end, zones-small, zones-start, zones-step}
use Rattle.totals.proofs.pool_totals.Goals as goal

pub loop-z-init : goal.loop-z-init
loop-z-init c = let e = c.default-totals.ensures in zones-start _ _ (e.0, e.1.0, e.1.1)

pub zone_totals-requires : goal.zone_totals-requires
zone_totals-requires c = omega (arith, cells-small c.args.pool.now.shape, (zone-of c.committed-zones.ensures.shape c.zone.ensures).cells_is)

pub plus-totals-requires : goal.plus-totals-requires
plus-totals-requires c =
    (zones-small c.loop-z.invariant (bounds c.args.pool.now.shape).zones-high, zone-small (omega (arith, cells-small c.args.pool.now.shape, (zone-of c.committed-zones.ensures.shape c.zone.ensures).cells_is)) c.zone_totals.ensures)

pub loop-z-preserved : goal.loop-z-preserved
loop-z-preserved c =
    let e = zone-of c.committed-zones.ensures.shape c.zone.ensures in
    zones-step c.loop-z.invariant c.loop-z-test.true c.committed-zones.ensures.view e (omega (arith, cells-small c.args.pool.now.shape, e.cells_is)) c.zone_totals.ensures c.plus-totals.ensures

pub returns : goal.returns
returns c = zones-end c.loop-z.invariant c.loop-z-test.false (bounds c.args.pool.now.shape).zones-high
