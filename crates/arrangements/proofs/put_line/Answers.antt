-- `arrangements::put_line` meets its contract. Assumes nothing.
use borrow.Author.Rules.{rules}
use Rattle.arrangements.proofs.Printing.{line-adds}
use Rattle.arrangements.proofs.put_line.Goals as goal

pub returns : goal.returns
returns c = search (rules, line-adds)
