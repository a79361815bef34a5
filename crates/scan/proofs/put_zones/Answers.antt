-- `scan::put_zones` meets its contract. Assumes nothing.
use native.Mathlib.Omega.{arith}
use Rattle.layout.proofs.Range.{bounds}
use Rattle.zones.proofs.Shaped.{cells-small, zone-of}
use Rattle.scan.proofs.ListingZones.{place-small, zones-put, zones-start, zones-step}
use Rattle.scan.proofs.put_zones.Goals as goal

pub loop-z-init : goal.loop-z-init
loop-z-init c = zones-start _ _ _

pub loop-z-preserved : goal.loop-z-preserved
loop-z-preserved c = zones-step c.loop-z.invariant c.loop-z-test.true c.committed-zones.ensures.view (zone-of c.committed-zones.ensures.shape c.zone.ensures) c.put_zone.ensures

pub put_zone-requires : goal.put_zone-requires
put_zone-requires c =
    let n = cells-small c.args.pool.now.shape in
    let e = (zone-of c.committed-zones.ensures.shape c.zone.ensures).cells_is in
    (omega (arith, place-small c.args.pool.now c.loop-z.invariant c.requires.0, n, e), omega (arith, (bounds c.args.pool.now.shape).zones-high, c.loop-z-test.true), omega (arith, n, e))

pub returns : goal.returns
returns c = zones-put c.args.pool.now c.requires.1 c.loop-z.invariant c.loop-z-test.false
