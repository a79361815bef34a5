-- `words::load8` meets its contract. Assumes nothing.
use borrow.Author.Rules.{rules}
use Rattle.words.proofs.Fields.{loaded_byte}
use Rattle.words.proofs.load8.Goals as goal

pub returns : goal.returns
returns c = loaded_byte _ _ c.from.ensures (search rules)
