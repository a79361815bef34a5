-- `actions::Action::answer` meets its contract. Assumes nothing.
use Rattle.actions.proofs.Action.answer.Goals as goal

pub returns-in-Store : goal.returns-in-Store
returns-in-Store c = rw c.in-Store.is

pub returns-in-Barrier : goal.returns-in-Barrier
returns-in-Barrier c = rw c.in-Barrier.is
