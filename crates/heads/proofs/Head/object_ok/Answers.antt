-- `heads::Head::object_ok` meets its contract. Assumes nothing.
use mathlib.Core.Path.{◌∙◌}
use borrow.Author.Rules.{rules}
use native.Mathlib.Omega.{arith}
use Rattle.std.proofs.lemmas.Bool.Decides.{nat_tests}
use Rattle.heads.proofs.HeadWords.{object-outside, object-same}
use Rattle.heads.proofs.Head.object_ok.Goals as goal

pub returns-then-contains : goal.returns-then-contains
returns-then-contains c = object-same _ _ (search rules) c.body-m.ensures.0 (search rules) (search rules) c.object_first.ensures

pub returns-else-contains : goal.returns-else-contains
returns-else-contains c = c.if-contains.false ∙ object-outside _ _ c.body-m.ensures.0 (λ g l. let h = c.if-contains.ensures.cases in grind (arith, nat_tests))
