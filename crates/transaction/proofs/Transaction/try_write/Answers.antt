-- `transaction::Transaction::try_write` meets its contract. Assumes nothing.
use mathlib.Core.Path.{sym}
use native.Mathlib.Omega.{arith}
use Rattle.std.proofs.lemmas.Result.{err_from_is_err_and}
use Rattle.layout.proofs.Opening.{answer-refused}
use Rattle.transaction.proofs.Calls.{call-judged, call-meets, refused-back, staged-back}
use Rattle.transaction.proofs.Transaction.try_write.Goals as goal

pub returns-in_err-pool : goal.returns-in_err-pool
returns-in_err-pool c =
    let p = err_from_is_err_and c.from_residual.result c.from_residual.ensures.1 in
    rw (p.1, p.2) (refused-back _ _ _ (call-meets _ _) c.in_err-pool.field-0.0 (answer-refused _ _ _ (sym c.in_err-pool.ensures.shape)))

pub write-requires : goal.write-requires
write-requires c =
    call-judged _ _ _ c.in_ok-pool.pool.shape (sym c.in_ok-pool.ensures.shape) c.in_ok-pool.ensures.bytes (λ i. omega (arith, c.slice_known-1.given i))

pub returns : goal.returns
returns c = staged-back _ _ _ c.in_ok-pool.pool.shape (sym c.in_ok-pool.ensures.shape) c.in_ok-pool.ensures.bytes _ _ c.write.ensures
