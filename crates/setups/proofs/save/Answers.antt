-- `setups::save` meets its contract. Assumes nothing.
use Rattle.setups.specs.Setups.{unsaved}
use Rattle.setups.proofs.save.Goals as goal

pub returns-in-Err : goal.returns-in-Err
unfolding unsaved
returns-in-Err c = rw c.unusable.ensures c.in-Err.ensures
