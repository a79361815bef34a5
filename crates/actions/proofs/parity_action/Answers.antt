-- `actions::parity_action` meets its contract. Assumes nothing.
use Rattle.actions.proofs.Actions.{parity-worked}
use borrow.Author.Rules.{rules}
use Rattle.actions.proofs.parity_action.Goals as goal

pub returns : goal.returns
returns c = search (rules, parity-worked)
