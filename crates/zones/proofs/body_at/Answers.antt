-- `zones::body_at` meets its contract. Assumes nothing.
use native.Mathlib.Omega.{arith}
use Rattle.std.proofs.lemmas.Result.{err_from_is_err_and}
use Rattle.zones.proofs.BodyAt.{body_below, body-found, body-low, body_refused, body-within}
use Rattle.zones.proofs.body_at.Goals as goal

pub returns-in_err-object : goal.returns-in_err-object
returns-in_err-object c =
    let p = err_from_is_err_and c.from_residual.result c.from_residual.ensures.1 in
    rw (p.1, p.2) (body_refused c.args.pool.now c.committed.ensures.shape c.committed.ensures.view c.args.a c.in_err-object.field-0.0 c.in_err-object.ensures, tt)

pub head_at-requires : goal.head_at-requires
head_at-requires c = body_below c.args.pool.now c.committed.ensures.shape c.committed.ensures.view c.args.a _ c.in_ok-object.ensures

pub overflow_add-result : goal.overflow_add-result
overflow_add-result c = omega (arith, body-low c.args.pool.now c.committed.ensures.shape c.committed.ensures.view c.args.a _ c.in_ok-object.ensures c.head_at.ensures)

pub returns : goal.returns
returns c =
    (body-found c.args.pool.now c.committed.ensures.shape c.committed.ensures.view c.args.a _ c.in_ok-object.ensures c.head_at.ensures, body-within c.args.pool.now c.committed.ensures.shape c.committed.ensures.view c.args.a _ c.in_ok-object.ensures c.head_at.ensures)
