-- `heads::cells_for` meets its contract. Assumes nothing.
use Rattle.rules.specs.Runs.{cells_for}
use borrow.Author.Rules.{rules}
use Rattle.heads.proofs.cells_for.Goals as goal

pub returns : goal.returns
unfolding cells_for
returns c = search rules
