-- `pool::scrub` meets its contract. Assumes nothing.
use mathlib.Core.Path.{sym}
use Rattle.std.proofs.lemmas.Result.{err_from_is_err_and}
use Rattle.pool.proofs.Scrubbing.{scrub-counted, scrub-refused}
use Rattle.pool.proofs.scrub.Goals as goal

pub returns-in_err-pool : goal.returns-in_err-pool
returns-in_err-pool c =
    let p = err_from_is_err_and c.from_residual.result c.from_residual.ensures.1 in
    rw (p.1, p.2) (scrub-refused _ _ (sym c.in_err-pool.ensures.shape))

pub returns : goal.returns
returns c = scrub-counted _ c.in_ok-pool.pool.shape (sym c.in_ok-pool.ensures.shape) (rw c.in_ok-pool.ensures.bytes at c.count_pool.ensures)
