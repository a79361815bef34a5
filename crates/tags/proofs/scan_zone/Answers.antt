-- `tags::scan_zone` meets its contract. Assumes nothing.
use Rattle.std.proofs.lemmas.Result.{err_from_is_err_and}
use Rattle.runs.proofs.Going.{going-end, going-err, going-ok, going_start, going-step}
use Rattle.tags.proofs.Scanning.{scans-broken, scans-end, scans-start, scans-step}
use Rattle.tags.proofs.scan_zone.Goals as goal

pub loop-met-init : goal.loop-met-init
loop-met-init c = going_start c.runs-met-items.ensures c.into_iter-met-iterator.ensures.into_iter_gives (scans-start _ _ _ _ _)

pub returns-in_err-run : goal.returns-in_err-run
returns-in_err-run c =
    let e = going-err c.loop-met.invariant _ c.in-Some.ensures.steps c.in_err-run.ensures.value in
    let p = err_from_is_err_and c.from_residual.result c.from_residual.ensures.1 in
    rw (p.1, p.2, e.1) (scans-broken _ _ _ _ _ e.0)

pub loop-met-preserved : goal.loop-met-preserved
loop-met-preserved c =
    let k = going-ok c.loop-met.invariant _ c.in-Some.ensures.steps c.in_ok-run.ensures.value in
    going-step c.loop-met.invariant k (λ w. rw c.or-hit.ensures (scans-step _ _ _ _ k.passed _ c.hit_at.ensures w))

pub returns : goal.returns
returns c = scans-end _ _ _ _ _ (going-end c.loop-met.invariant c.in-None.ensures.steps)
