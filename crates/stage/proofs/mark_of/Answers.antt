-- `stage::mark_of` meets its contract. Assumes nothing.
use Rattle.stage.specs.Index.{mark_of}
use borrow.Author.Rules.{rules}
use Rattle.stage.proofs.mark_of.Goals as goal

pub returns : goal.returns
unfolding mark_of
returns c = search rules
