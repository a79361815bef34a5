-- `stage::append` meets its contract. Assumes nothing.
use Rattle.stage.proofs.Touched.{touched-new}
use borrow.Author.Rules.{rules}
use Rattle.stage.proofs.append.Goals as goal

pub returns : goal.returns
returns c =
    touched-new c.requires.0 (search rules) (search rules) c.requires.1 c.store64.ensures c.store64-2.ensures
