-- `transaction::ready` meets its contract. Assumes nothing.
use mathlib.Core.Path.{refl, sym, ap, ◌∙◌}
use Rattle.std.proofs.lemmas.Result.{err_from_is_err_and}
use Rattle.layout.specs.Meaning.{opened}
use Rattle.record.specs.Meaning.{given}
use Rattle.transaction.proofs.Calls.{pool-refused, ready_same, record-good, record-refused}
use Rattle.transaction.proofs.ready.Goals as goal

pub returns-in_err-pool : goal.returns-in_err-pool
returns-in_err-pool c =
    let a = c.args in
    let p = err_from_is_err_and c.from_residual.result c.from_residual.ensures.1 in
    rw (p.1, p.2) (record { shape = pool-refused (given a.bytes.now a.staging.now a.txn) _ _ refl _ (sym c.in_err-pool.ensures.shape); bytes = tt })

pub ready-requires : goal.ready-requires
ready-requires c = ap opened c.in_ok-pool.ensures.bytes ∙ sym c.in_ok-pool.ensures.shape

pub returns-in_err-ready : goal.returns-in_err-ready
returns-in_err-ready c =
    let a = c.args in
    let p = err_from_is_err_and c.from_residual-in_err-ready.result c.from_residual-in_err-ready.ensures.1 in
    let e = ready_same c.in_ok-pool.ensures.bytes a.staging.now a.txn c.in_err-ready.ensures in
    rw (p.1, p.2) (record { shape = record-refused (given a.bytes.now a.staging.now a.txn) _ _ refl _ e; bytes = tt })

pub returns : goal.returns
returns c =
    let a = c.args in
    let o = c.in_ok-pool in
    record { shape = record-good (given a.bytes.now a.staging.now a.txn) _ _ refl o.pool.shape (sym o.ensures.shape) (ready_same o.ensures.bytes _ _ c.in_ok-ready.ensures); bytes = o.ensures.bytes }
