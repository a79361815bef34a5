-- `layout::opened::id` meets its contract. Assumes nothing.
use Rattle.rules.specs.Header.{page_at, valid_header}
use Rattle.layout.proofs.Opening.{id-copy, id-equal, id-header}
use borrow.Author.Rules.{rules}
use Rattle.layout.proofs.opened.id.Goals as goal

pub returns-then-first-copy : goal.returns-then-first-copy
unfolding page_at
returns-then-first-copy c = search (rules, id-equal)

pub returns-then-valid : goal.returns-then-valid
unfolding valid_header page_at
returns-then-valid c = search (rules, id-header)

pub returns : goal.returns
unfolding valid_header page_at
returns c = search (rules, id-copy)
