-- `pool_log::quiet` meets its contract. Assumes nothing.
use mathlib.Core.Path.{sym, ap, ◌∙◌}
use Rattle.std.proofs.lemmas.Result.{err_from_is_err_and}
use Rattle.layout.specs.Meaning.{shape_of}
use Rattle.rules.specs.Seals.{unsealed}
use Rattle.pool_log.proofs.Opening.{quiet-good, quiet-refused, quiet-sealed}
use Rattle.pool_log.proofs.quiet.Goals as goal

pub returns-then-not-seals_zero : goal.returns-then-not-seals_zero
returns-then-not-seals_zero c =
    let p = c.in_ok-pool in
    record { shape = quiet-sealed _ p.pool.shape _ (sym p.ensures.shape) (c.seals_zero.ensures ∙ ap (unsealed (shape_of p.pool.shape)) p.ensures.bytes) c.if-not-seals_zero.true; bytes = tt }

pub returns : goal.returns
returns c =
    let p = c.in_ok-pool in
    record { shape = quiet-good _ p.pool.shape _ (sym p.ensures.shape) (c.seals_zero.ensures ∙ ap (unsealed (shape_of p.pool.shape)) p.ensures.bytes) c.if-not-seals_zero.false; bytes = p.ensures.bytes }

pub returns-in_err-pool : goal.returns-in_err-pool
returns-in_err-pool c =
    let p = err_from_is_err_and c.from_residual.result c.from_residual.ensures.1 in
    rw (p.1, p.2) (record { shape = quiet-refused _ _ (sym c.in_err-pool.ensures.shape); bytes = tt })
