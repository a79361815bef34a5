-- `totals::zone_totals` meets its contract. Assumes nothing.
use native.Mathlib.Omega.{arith}
use Rattle.runs.proofs.Going.{going-took}
use Rattle.totals.proofs.Totalling.{run_small, totalling-broken, totalling-end, totalling-start, totalling-step, totals-small}
use Rattle.totals.proofs.zone_totals.Goals as goal

pub loop-met-init : goal.loop-met-init
loop-met-init c = let e = c.default-totals.ensures in totalling-start c.runs-met-items.ensures c.into_iter-met-iterator.ensures.into_iter_gives (e.0, e.1.0, e.1.1)

pub returns-in_default : goal.returns-in_default
returns-in_default c = totalling-broken c.loop-met.invariant c.in-Some.ensures.steps c.in_default.is

pub run_totals-requires : goal.run_totals-requires
run_totals-requires c =
    let d = (going-took c.loop-met.invariant.objects.going c.in-Some.ensures.steps c.in-Some-met.is).passed in omega (arith, d.within, d.some)

pub plus-totals-requires : goal.plus-totals-requires
plus-totals-requires c =
    let k = going-took c.loop-met.invariant.objects.going c.in-Some.ensures.steps c.in-Some-met.is in
    (totals-small c.loop-met.invariant c.requires, run_small c.requires k c.run_totals.ensures)

pub loop-met-preserved : goal.loop-met-preserved
loop-met-preserved c =
    let k = going-took c.loop-met.invariant.objects.going c.in-Some.ensures.steps c.in-Some-met.is in
    totalling-step c.loop-met.invariant k c.run_totals.ensures c.plus-totals.ensures

pub returns : goal.returns
returns c = totalling-end c.loop-met.invariant c.in-None.ensures.steps
