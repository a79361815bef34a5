-- `tags::look_up` meets its contract. Assumes nothing.
use mathlib.Core.Path.{◌∙◌}
use native.Mathlib.Omega.{arith}
use Rattle.std.proofs.lemmas.Result.{err_from_is_err_and}
use Rattle.zones.proofs.Shaped.{zone-of}
use Rattle.tags.proofs.ScanningZones.{addresses-small, hit-found, zones-broken, zones-end, zones-start, zones-step}
use Rattle.tags.proofs.look_up.Goals as goal

pub loop-z-init : goal.loop-z-init
loop-z-init c = zones-start _ _ _ _

pub overflow_mul-z : goal.overflow_mul-z
overflow_mul-z c = omega (arith, addresses-small c.args.pool.now.shape c.loop-z-test.true (zone-of c.committed-zones.ensures.shape c.zone-zone.ensures))

pub scan_zone-requires : goal.scan_zone-requires
scan_zone-requires c = addresses-small c.args.pool.now.shape c.loop-z-test.true (zone-of c.committed-zones.ensures.shape c.zone-zone.ensures)

pub returns-in_err-hit : goal.returns-in_err-hit
returns-in_err-hit c =
    let p = err_from_is_err_and c.from_residual.result c.from_residual.ensures.1 in
    rw (p.1, p.2) (zones-broken c.loop-z.invariant c.loop-z-test.true c.committed-zones.ensures.view (zone-of c.committed-zones.ensures.shape c.zone-zone.ensures) c.in_err-hit.ensures)

pub loop-z-preserved : goal.loop-z-preserved
loop-z-preserved c = zones-step c.loop-z.invariant c.loop-z-test.true c.committed-zones.ensures.view (zone-of c.committed-zones.ensures.shape c.zone-zone.ensures) c.in_ok-hit.ensures

pub returns : goal.returns
returns c = hit-found c.loop-z.hit ∙ zones-end c.loop-z.invariant c.loop-z-test.false
