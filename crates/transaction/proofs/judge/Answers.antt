-- `transaction::judge` meets its contract. Assumes nothing.
use mathlib.Core.Path.{sym, ap, ◌∙◌}
use mathlib.Core.List.{[], append-nil}
use Rattle.std.proofs.lemmas.Result.{err_from_is_err_and}
use Rattle.rules.specs.Calls.{record_tests}
use Rattle.layout.specs.Meaning.{opened}
use Rattle.record.specs.Meaning.{given}
use Rattle.transaction.proofs.Calls.{judged_same, pool-refused, record-good, record-refused}
use Rattle.transaction.proofs.judge.Goals as goal

pub returns-in_err-pool : goal.returns-in_err-pool
returns-in_err-pool c =
    let a = c.args in
    let g = given a.pool.now a.staging.now a.txn in
    let p = err_from_is_err_and c.from_residual.result c.from_residual.ensures.1 in
    rw (p.1, p.2) (pool-refused g (record_tests g) [] (sym (append-nil (record_tests g))) _ (sym c.in_err-pool.ensures.shape))

pub judge-requires : goal.judge-requires
judge-requires c = ap opened c.in_ok-pool.ensures.bytes ∙ sym c.in_ok-pool.ensures.shape

pub returns-in_err-judge : goal.returns-in_err-judge
returns-in_err-judge c =
    let a = c.args in
    let g = given a.pool.now a.staging.now a.txn in
    let p = err_from_is_err_and c.from_residual-in_err-judge.result c.from_residual-in_err-judge.ensures.1 in
    rw (p.1, p.2) (record-refused g (record_tests g) [] (sym (append-nil (record_tests g))) _ (judged_same c.in_ok-pool.ensures.bytes _ _ c.in_err-judge.ensures))

pub returns : goal.returns
returns c =
    let a = c.args in
    let g = given a.pool.now a.staging.now a.txn in
    record-good g (record_tests g) [] (sym (append-nil (record_tests g))) c.in_ok-pool.pool.shape (sym c.in_ok-pool.ensures.shape) (judged_same c.in_ok-pool.ensures.bytes _ _ c.in_ok-judge.ensures)
