-- `actions::data_action` meets its contract. Assumes nothing.
use Rattle.actions.proofs.Actions.{data-loaded}
use borrow.Author.Rules.{rules}
use Rattle.actions.proofs.data_action.Goals as goal

pub returns : goal.returns
returns c = search (rules, data-loaded)
