-- `pool::look_up` meets its contract. Assumes nothing.
use mathlib.Core.Path.{sym}
use Rattle.std.proofs.lemmas.Result.{err_from_is_err_and}
use Rattle.pool.proofs.LookingUp.{look-up-found, look-up-refused}
use Rattle.pool.proofs.look_up.Goals as goal

pub returns-in_err-pool : goal.returns-in_err-pool
returns-in_err-pool c =
    let p = err_from_is_err_and c.from_residual.result c.from_residual.ensures.1 in
    rw (p.1, p.2) (look-up-refused _ _ _ _ (sym c.in_err-pool.ensures.shape))

pub returns : goal.returns
returns c = look-up-found _ _ _ c.in_ok-pool.pool.shape (sym c.in_ok-pool.ensures.shape) (rw c.in_ok-pool.ensures.bytes at c.look_up.ensures)
