-- `zones::Zones::search` meets its contract. Assumes nothing.
use mathlib.Core.Path.{refl}
use native.Mathlib.Omega.{arith}
use Rattle.std.proofs.lemmas.Result.{err_from_is_err_and}
use Rattle.runs.proofs.Going.{going-end, going-err, going-judged, going-ok, going_start, going-step}
use Rattle.zones.proofs.Searching.{fit_or, inside-broken, inside-end, inside-hit, inside-pass, outside-end, outside-hit, outside-refused, outside-start, outside-step}
use Rattle.zones.proofs.Zones.search.Goals as goal

pub search-init : goal.search-init
search-init c = (outside-start _ _ _, refl)

pub loop-met-init : goal.loop-met-init
loop-met-init c = (going_start c.runs-met-items.ensures c.into_iter-met-iterator.ensures.into_iter_gives refl, c.search.invariant.1)

pub returns-in_err-run : goal.returns-in_err-run
returns-in_err-run c =
    let e = going-err c.loop-met.invariant.0 _ c.in-Some.ensures.steps c.in_err-run.ensures.value in
    let p = err_from_is_err_and c.from_residual.result c.from_residual.ensures.1 in
    rw (p.1, p.2, e.1) (outside-refused c.search.invariant.0 (omega (arith, c.search-test.true)) c.searched-zone.ensures (inside-broken _ _ e.0))

pub overflow_add-run : goal.overflow_add-run
overflow_add-run c =
    let k = going-ok c.loop-met.invariant.0 _ c.in-Some.ensures.steps c.in_ok-run.ensures.value in omega (arith, k.passed.within)

pub whole_from-requires : goal.whole_from-requires
whole_from-requires c =
    let k = going-ok c.loop-met.invariant.0 _ c.in-Some.ensures.steps c.in_ok-run.ensures.value in omega (arith, k.passed.within)

pub returns-then-not-whole_from : goal.returns-then-not-whole_from
returns-then-not-whole_from c =
    let g = c.loop-met.invariant.0 in
    let k = going-ok g _ c.in-Some.ensures.steps c.in_ok-run.ensures.value in
    outside-refused c.search.invariant.0 (omega (arith, c.search-test.true)) c.searched-zone.ensures
    (going-judged (fit_or _ _) (going-step g k (inside-hit _ k.passed c.fits.ensures c.if-fits.true)) k.left c.whole_from.ensures c.if-not-whole_from.true)

pub loop-met-preserved : goal.loop-met-preserved
loop-met-preserved c =
    let g = c.loop-met.invariant in
    let k = going-ok g.0 _ c.in-Some.ensures.steps c.in_ok-run.ensures.value in
    (going-step g.0 k (inside-pass _ k.passed c.fits.ensures c.if-fits.false), g.1)

pub search-preserved : goal.search-preserved
search-preserved c =
    let g = c.loop-met.invariant in (
      outside-step c.search.invariant.0 (omega (arith, c.search-test.true)) c.searched-zone.ensures (inside-end _ _ (going-end g.0 c.in-None.ensures.steps)),
      g.1,
    )

pub returns-after-search : goal.returns-after-search
returns-after-search c = rw c.search.invariant.1 (outside-end c.search.invariant.0 c.search-test.false)

pub returns-else-not-whole_from : goal.returns-else-not-whole_from
returns-else-not-whole_from c =
    let g = c.loop-met.invariant.0 in
    let k = going-ok g _ c.in-Some.ensures.steps c.in_ok-run.ensures.value in
    outside-hit c.search.invariant.0 (omega (arith, c.search-test.true)) c.searched-zone.ensures
    (going-judged (fit_or _ _) (going-step g k (inside-hit _ k.passed c.fits.ensures c.if-fits.true)) k.left c.whole_from.ensures c.if-not-whole_from.false)
