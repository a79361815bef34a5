-- `scrub::count_pool` meets its contract. Assumes nothing.
use Rattle.layout.proofs.Range.{bounds}
use Rattle.zones.proofs.Shaped.{cells-small, zone-of}
use Rattle.scrub.proofs.CountingZones.{zones-end, zones-start, zones-step}
use Rattle.scrub.proofs.Counting.{one-if}
use native.Mathlib.Omega.{arith}
use Rattle.scrub.proofs.count_pool.Goals as goal

pub loop-z-init : goal.loop-z-init
loop-z-init c = zones-start _ _

pub overflow_add-objects : goal.overflow_add-objects
overflow_add-objects c =
    omega (arith, c.loop-z.invariant.objects.few, c.loop-z.invariant.within, (bounds c.args.pool.now.shape).zones-high, c.count_zone-tally.ensures.few, cells-small c.args.pool.now.shape, (zone-of c.committed-zones.ensures.shape c.zone.ensures).cells_is)

pub overflow_add-damaged : goal.overflow_add-damaged
overflow_add-damaged c =
    omega (arith, c.loop-z.invariant.damaged.few, c.loop-z.invariant.within, (bounds c.args.pool.now.shape).zones-high, c.count_zone-tally.ensures.fewer, cells-small c.args.pool.now.shape, (zone-of c.committed-zones.ensures.shape c.zone.ensures).cells_is)

pub loop-z-preserved : goal.loop-z-preserved
loop-z-preserved c =
    let e = zone-of c.committed-zones.ensures.shape c.zone.ensures in
    zones-step c.loop-z.invariant c.loop-z-test.true c.committed-zones.ensures.view e (omega (arith, cells-small c.args.pool.now.shape, e.cells_is)) c.count_zone-tally.ensures (one-if _ c.from-broken.ensures)

pub returns : goal.returns
returns c = zones-end c.loop-z.invariant c.loop-z-test.false c.wrong_columns.ensures
