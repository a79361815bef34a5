-- `scan::put_zone` meets its contract. Assumes nothing.
use native.Mathlib.Omega.{arith}
use Rattle.runs.proofs.Rest.{zoned-seen}
use Rattle.runs.proofs.Going.{going-took}
use Rattle.scrub.proofs.Counting.{object-there}
use Rattle.scan.proofs.Listing.{listing-broken, listing-end, listing_start, listing_step}
use Rattle.scan.proofs.put_zone.Goals as goal

pub loop-met-init : goal.loop-met-init
loop-met-init c = listing_start _ _ c.runs-met-items.ensures c.into_iter-met-iterator.ensures.into_iter_gives

pub returns-in_default : goal.returns-in_default
returns-in_default c = listing-broken c.loop-met.invariant c.in-Some.ensures.steps c.in_default.is c.put_broken.ensures

pub put_run-requires : goal.put_run-requires
put_run-requires c =
    let i = c.loop-met.invariant in
    let k = going-took i.going c.in-Some.ensures.steps c.in-Some-met.is in
    let d = k.passed in
    let l = d.within in
    let n = d.some in (
      record { place = omega (arith, i.adds.put.most, k.here); zone = c.requires.1; cell = omega arith },
      omega arith,
      omega arith,
      λ e. object-there (zoned-seen c.args.zone.now) d e,
    )

pub overflow_add-cell : goal.overflow_add-cell
overflow_add-cell c = let k = going-took c.loop-met.invariant.going c.in-Some.ensures.steps c.in-Some-met.is in omega (arith, k.passed.within)

pub loop-met-preserved : goal.loop-met-preserved
loop-met-preserved c = listing_step c.loop-met.invariant (going-took c.loop-met.invariant.going c.in-Some.ensures.steps c.in-Some-met.is) c.put_run.ensures

pub returns : goal.returns
returns c = listing-end c.loop-met.invariant c.in-None.ensures.steps
