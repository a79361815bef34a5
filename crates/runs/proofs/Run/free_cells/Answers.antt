-- `runs::Run::free_cells` meets its contract. Assumes nothing.
use Rattle.runs.specs.Spotted.{free_of}
use Rattle.runs.proofs.Run.free_cells.Goals as goal

pub returns-then-self : goal.returns-then-self
unfolding free_of
returns-then-self c = rw c.if-self.true

pub returns-else-self : goal.returns-else-self
unfolding free_of
returns-else-self c = rw c.if-self.false
