-- `heads::Head::free_ok` meets its contract. Assumes nothing.
use mathlib.Core.Path.{sym, ◌∙◌}
use borrow.Author.Tests.{eqb-false, eqb-true}
use borrow.Author.Rules.{rules}
use Rattle.heads.proofs.HeadWords.{free-empty, free_other, free-same}
use Rattle.heads.proofs.Head.free_ok.Goals as goal
use Rattle.heads.proofs.Head.free_ok.Goals.{then-n-ne0, else-n-ne0}

pub returns-then-self-n : goal.returns-then-self-n
returns-then-self-n c =
    elim c.if-n-ne0.branch [
      | then-n-ne0 w ↦ free-same _ _ (search rules) (search rules) c.cells-n.ensures.0 w.if-n-ne0.true (eqb-true _ _ (sym w.value-is ∙ c.if-self-n.true)) c.checked.ensures
      | else-n-ne0 w ↦ let q = rw w.if-n-ne0.false at w.value-is in let t = c.if-self-n.true in cc
    ]

pub returns-else-self-n : goal.returns-else-self-n
returns-else-self-n c =
    elim c.if-n-ne0.branch [
      | then-n-ne0 w ↦ c.if-self-n.false ∙ free_other _ _ (search rules) c.cells-n.ensures.0 (eqb-false _ _ (sym w.value-is ∙ c.if-self-n.false))
      | else-n-ne0 w ↦ c.if-self-n.false ∙ free-empty _ _ c.cells-n.ensures.0 w.if-n-ne0.false
    ]
