-- `recovery::told` meets its contract. Assumes nothing.
use borrow.Author.Tests.{eq-eqb, ne_eqb}
use Rattle.recovery.specs.Advanced.{replied}
use Rattle.recovery.proofs.told.Goals as goal

pub returns-then-k-n : goal.returns-then-k-n
unfolding replied
returns-then-k-n c = rw (← c.steps_of-n.ensures, eq-eqb _ _ c.if-k-n.true)

pub returns : goal.returns
unfolding replied
returns c = rw (← c.steps_of-n.ensures, ne_eqb _ _ c.if-k-n.false, c.answer.ensures)
