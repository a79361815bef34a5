-- `pool::look_for` meets its contract. Assumes nothing.
use mathlib.Core.Path.{sym}
use Rattle.std.proofs.lemmas.Result.{err_from_is_err_and}
use Rattle.pool.proofs.Looking.{look-found, look-refused}
use Rattle.pool.proofs.look_for.Goals as goal

pub returns-in_err-pool : goal.returns-in_err-pool
returns-in_err-pool c =
    let p = err_from_is_err_and c.from_residual.result c.from_residual.ensures.1 in
    rw (p.1, p.2) (look-refused _ _ _ (sym c.in_err-pool.ensures.shape), tt)

pub returns : goal.returns
returns c =
    let b = rw c.in_ok-pool.ensures.bytes at c.body_at.ensures in
    (look-found _ c.in_ok-pool.pool.shape _ (sym c.in_ok-pool.ensures.shape) b.0, b.1)
