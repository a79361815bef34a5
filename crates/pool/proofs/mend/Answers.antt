-- `pool::mend` meets its contract. Assumes nothing.
use mathlib.Core.Path.{sym}
use Rattle.std.proofs.lemmas.Result.{err_from_is_err_and}
use Rattle.layout.proofs.Opening.{open-shaped}
use Rattle.pool.proofs.Mending.{mend-taken, mend-refused}
use Rattle.pool.proofs.mend.Goals as goal

pub returns-in_err-s : goal.returns-in_err-s
returns-in_err-s c =
    let p = err_from_is_err_and c.from_residual.result c.from_residual.ensures.1 in
    rw (p.1, p.2) (mend-refused _ c.in_err-s.field-0.0 (sym c.in_err-s.ensures))

pub copy_header-requires : goal.copy_header-requires
copy_header-requires c = open-shaped _ _ (sym c.in_ok-s.ensures)

pub returns : goal.returns
returns c = mend-taken _ c.in_ok-s.s _ (sym c.in_ok-s.ensures) c.copy_header.ensures
