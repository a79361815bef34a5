-- `record::ready` meets its contract. Assumes nothing.
use mathlib.Core.Path.{sym}
use Rattle.std.proofs.lemmas.Result.{err_from_is_err_and}
use Rattle.record.proofs.Judging.{ready-closed, ready-good, ready_refused, ready-sealed}
use Rattle.record.proofs.ready.Goals as goal

pub returns-in_err-judge : goal.returns-in_err-judge
returns-in_err-judge c =
    let p = err_from_is_err_and c.from_residual.result c.from_residual.ensures.1 in
    rw (p.1, p.2) (ready_refused _ c.in_err-judge.ensures)

pub returns-then-not-live : goal.returns-then-not-live
returns-then-not-live c = ready-closed _ c.requires (sym c.in_ok-judge.ensures) c.live.ensures c.if-not-live.true

pub returns-then-not-seals_zero : goal.returns-then-not-seals_zero
returns-then-not-seals_zero c = ready-sealed _ c.requires (sym c.in_ok-judge.ensures) c.live.ensures c.if-not-live.false c.seals_zero.ensures c.if-not-seals_zero.true

pub returns : goal.returns
returns c = ready-good _ c.requires (sym c.in_ok-judge.ensures) c.live.ensures c.if-not-live.false c.seals_zero.ensures c.if-not-seals_zero.false
