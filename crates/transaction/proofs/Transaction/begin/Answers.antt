-- `transaction::Transaction::begin` meets its contract. Assumes nothing.
use mathlib.Core.Path.{sym}
use Rattle.transaction.proofs.Calls.{begin-long, begin-refused, begin-taken}
use Rattle.transaction.proofs.Transaction.begin.Goals as goal

pub id-requires : goal.id-requires
id-requires c = begin-long _ c.in-Ok.field-0.shape (sym c.in-Ok.ensures.shape)

pub returns-in-Ok : goal.returns-in-Ok
returns-in-Ok c = begin-taken _ c.in-Ok.field-0.shape _ (sym c.in-Ok.ensures.shape) c.id.ensures c.fresh.ensures

pub returns-in-Err : goal.returns-in-Err
returns-in-Err c = begin-refused _ _ (sym c.in-Err.ensures.shape) c.unusable.ensures c.refused.ensures
