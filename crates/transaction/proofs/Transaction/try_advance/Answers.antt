-- `transaction::Transaction::try_advance` meets its contract. Assumes nothing.
use mathlib.Core.Path.{sym}
use mathlib.Core.List.{[], append-nil}
use Rattle.std.proofs.lemmas.Result.{err_from_is_err_and}
use Rattle.rules.specs.Calls.{record_tests}
use Rattle.record.specs.Meaning.{given}
use Rattle.layout.proofs.Opening.{answer-refused}
use Rattle.transaction.proofs.Calls.{pool-opened, record-passed, refused-back, advance-meets, stepped-back}
use Rattle.transaction.proofs.Transaction.try_advance.Goals as goal

pub returns-in_err-s : goal.returns-in_err-s
returns-in_err-s c =
    let p = err_from_is_err_and c.from_residual.result c.from_residual.ensures.1 in
    rw (p.1, p.2) (refused-back _ _ _ (advance-meets _).2 c.in_err-s.field-0.0 (answer-refused _ _ _ (sym c.in_err-s.ensures)))

pub advance-requires : goal.advance-requires
advance-requires c =
    let a = c.args in
    let g = given a.pool.now a.staging.now a.self.txn in
    let q = sym (append-nil (record_tests g)) in
    (pool-opened g (record_tests g) [] q c.in_ok-s.s (sym c.in_ok-s.ensures), record-passed g (record_tests g) [] q c.in_ok-s.s (sym c.in_ok-s.ensures))

pub returns : goal.returns
returns c = stepped-back _ _ c.advance.ensures
