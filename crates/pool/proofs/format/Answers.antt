-- `pool::format` meets its contract. Assumes nothing.
use Rattle.std.proofs.lemmas.Result.{err_from_is_err_and}
use Rattle.pool.proofs.Formatting.{format-taken, format-id, format-length, format-range}
use Rattle.pool.proofs.format.Goals as goal

pub returns-in_err-s : goal.returns-in_err-s
returns-in_err-s c =
    let p = err_from_is_err_and c.from_residual.result c.from_residual.ensures.1 in
    rw (p.1, p.2) (format-range _ _ _ _ _ c.in_err-s.field-0.0 c.in_err-s.ensures.result_value)

pub returns-then-id-eq0 : goal.returns-then-id-eq0
returns-then-id-eq0 c = format-id _ _ _ _ _ c.if-id-eq0.true

pub returns-then-pool-size : goal.returns-then-pool-size
returns-then-pool-size c = format-length _ _ _ _ _ c.in_ok-s.s c.in_ok-s.ensures.result_value _ c.if-id-eq0.false c.size.ensures c.if-pool-size.true

pub returns : goal.returns
returns c = format-taken _ _ _ _ _ c.in_ok-s.s c.in_ok-s.ensures.result_value _ c.if-id-eq0.false c.size.ensures _ c.if-pool-size.false c.fill.ensures
