-- `allocate::free_run` meets its contract. Assumes nothing.
use mathlib.Core.Logic.{inl, inr}
use Rattle.allocate.proofs.Fitting.{fits-found, fits-none}
use native.Mathlib.Omega.{arith}
use Rattle.allocate.proofs.free_run.Goals as goal
use Rattle.allocate.proofs.free_run.Goals.{then-m-eq0-via-then-m-eq0, then-m-eq0-via-else-m-eq0+then-m-gt-BODY}

pub returns-then-m-eq0 : goal.returns-then-m-eq0
returns-then-m-eq0 c =
    fits-none _ _ _ (elim c.then-m-eq0.branch [
      | then-m-eq0-via-then-m-eq0 w ↦ inl (omega (arith, w.if-m-eq0.true))
      | then-m-eq0-via-else-m-eq0+then-m-gt-BODY w ↦ inr (omega (arith, w.if-m-gt-BODY.true))
    ])

pub returns : goal.returns
returns c = fits-found _ _ _ c.search.result c.if-m-eq0.false c.if-m-gt-BODY.false c.cells_for.ensures.0 c.search.ensures
