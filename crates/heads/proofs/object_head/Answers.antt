-- `heads::object_head` meets its contract. Assumes nothing.
use Rattle.heads.proofs.HeadWords.{object-made}
use borrow.Author.Rules.{rules}
use Rattle.heads.proofs.object_head.Goals as goal

pub returns : goal.returns
returns c = object-made (search rules) (search rules) c.object_first.ensures c.checked.ensures
