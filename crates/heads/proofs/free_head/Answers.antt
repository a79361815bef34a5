-- `heads::free_head` meets its contract. Assumes nothing.
use Rattle.heads.proofs.HeadWords.{free-made}
use borrow.Author.Rules.{rules}
use Rattle.heads.proofs.free_head.Goals as goal

pub returns : goal.returns
returns c = free-made (search rules) c.checked.ensures
