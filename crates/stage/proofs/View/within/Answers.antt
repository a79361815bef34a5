-- `stage::View::within` meets its contract. Assumes nothing.
use mathlib.Core.Path.{refl}
use Rattle.stage.proofs.Index.{indexed-none}
use Rattle.stage.proofs.Views.{tidy-none}
use Rattle.stage.proofs.View.within.Goals as goal

pub invariant_of-result-clause-tidy : goal.invariant_of-result-clause-tidy
invariant_of-result-clause-tidy c = tidy-none _

pub invariant_of-result-clause-indexed : goal.invariant_of-result-clause-indexed
invariant_of-result-clause-indexed c = indexed-none _ _

pub returns : goal.returns
returns c = record { pool = refl; staging = refl; asked = rw c.if-entries_in-ne0.false at c.entries_in.ensures }
