-- `transaction::Transaction::try_commit` meets its contract. Assumes nothing.
use mathlib.Core.Path.{sym}
use Rattle.std.proofs.lemmas.Result.{err_from_is_err_and}
use Rattle.layout.proofs.Opening.{answer-refused}
use Rattle.transaction.proofs.Calls.{refused-back, start-meets, started-back}
use Rattle.transaction.proofs.Transaction.try_commit.Goals as goal

pub returns-in_err-ready : goal.returns-in_err-ready
returns-in_err-ready c =
    let p = err_from_is_err_and c.from_residual.result c.from_residual.ensures.1 in
    rw (p.1, p.2) (refused-back _ _ _ (start-meets _) c.in_err-ready.field-0.0 (answer-refused _ _ _ (sym c.in_err-ready.ensures.shape)))

pub returns : goal.returns
returns c = started-back _ _ _ c.in_ok-ready.field-0.shape (sym c.in_ok-ready.ensures.shape) _ c.start.ensures
