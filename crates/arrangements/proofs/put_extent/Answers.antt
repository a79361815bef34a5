-- `arrangements::put_extent` meets its contract. Assumes nothing.
use borrow.Author.Rules.{rules}
use Rattle.arrangements.proofs.Printing.{free-adds, object-adds}
use Rattle.arrangements.proofs.put_extent.Goals as goal

pub returns-then-free : goal.returns-then-free
returns-then-free c = search (rules, free-adds)

pub returns-else-free : goal.returns-else-free
returns-else-free c = search (rules, object-adds)
