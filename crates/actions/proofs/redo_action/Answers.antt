-- `actions::redo_action` meets its contract. Assumes nothing.
use Rattle.actions.proofs.Actions.{redo-barrier-out, redo-data-out, redo-parity-out, redo-parity-ready, redo-seal-out}
use borrow.Author.Rules.{rules}
use Rattle.actions.proofs.redo_action.Goals as goal

pub returns-then-k-n : goal.returns-then-k-n
returns-then-k-n c = search (rules, redo-data-out)

pub returns-then-k-n-2 : goal.returns-then-k-n-2
returns-then-k-n-2 c = search (rules, redo-barrier-out)

pub parity_action-requires : goal.parity_action-requires
parity_action-requires c = search (rules, redo-parity-ready)

pub returns-then-k-n-3 : goal.returns-then-k-n-3
returns-then-k-n-3 c = search (rules, redo-parity-out)

pub returns : goal.returns
returns c = search (rules, redo-seal-out)
