-- `actions::commit_action` meets its contract. Assumes nothing.
use Rattle.actions.proofs.Actions.{commit-log-out, commit-redo-out, commit-seal-out, ready-later}
use borrow.Author.Rules.{rules}
use Rattle.actions.proofs.commit_action.Goals as goal

pub returns-then-k-n : goal.returns-then-k-n
returns-then-k-n c = search (rules, commit-log-out)

pub returns-then-m-lt4 : goal.returns-then-m-lt4
returns-then-m-lt4 c = search (rules, commit-seal-out)

pub redo_action-requires : goal.redo_action-requires
redo_action-requires c = search (rules, ready-later)

pub returns : goal.returns
returns c = search (rules, commit-redo-out)
