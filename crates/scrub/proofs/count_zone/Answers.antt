-- `scrub::count_zone` meets its contract. Assumes nothing.
use mathlib.Core.Path.{refl}
use Rattle.runs.proofs.Rest.{zoned-seen}
use Rattle.runs.proofs.Going.{going-broken, going-cell, going-end, going_start, going-step, going-took}
use Rattle.scrub.proofs.Counting.{object-there, one-if, tallied, tallies-step}
use native.Mathlib.Omega.{arith}
use Rattle.scrub.proofs.count_zone.Goals as goal

pub loop-met-init : goal.loop-met-init
loop-met-init c = (going_start c.runs-met-items.ensures c.into_iter-met-iterator.ensures.into_iter_gives refl, omega arith, omega arith)

pub returns-in_default : goal.returns-in_default
returns-in_default c =
    let i = c.loop-met.invariant in
    tallied c.loop-met.met-iterator.cell (going-broken i.0 c.in-Some.ensures.steps c.in_default.is) (omega (arith, i.1, i.0.walking.within)) (omega (arith, i.2, i.0.walking.within))

pub is_damaged-requires : goal.is_damaged-requires
is_damaged-requires c =
    let d = (going-took c.loop-met.invariant.0 c.in-Some.ensures.steps c.in-Some-met.is).passed in
    (omega (arith, d.within, d.some), λ e. object-there (zoned-seen c.args.zone.now) d e)

pub loop-met-preserved : goal.loop-met-preserved
loop-met-preserved c =
    let i = c.loop-met.invariant in
    let k = going-took i.0 c.in-Some.ensures.steps c.in-Some-met.is in
    let o = one-if _ c.from-objects.ensures in
    let d = one-if _ c.from-damaged.ensures in
    let n = going-cell k in (
      going-step i.0 k (tallies-step _ _ k.passed o.0 c.is_damaged.ensures d.0),
      omega (arith, i.1, o.1, n, k.passed.some),
      omega (arith, i.2, d.1, n, k.passed.some),
    )

pub returns : goal.returns
returns c =
    let i = c.loop-met.invariant in
    tallied c.loop-met.met-iterator.cell (going-end i.0 c.in-None.ensures.steps) (omega (arith, i.1, i.0.walking.within)) (omega (arith, i.2, i.0.walking.within))
