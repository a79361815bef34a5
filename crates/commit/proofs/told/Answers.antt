-- `commit::told` meets its contract. Assumes nothing.
use Rattle.commit.proofs.Committing.{told-last, told_more}
use Rattle.commit.proofs.told.Goals as goal

pub returns-then-k-n : goal.returns-then-k-n
returns-then-k-n c = let s = c.args in rw c.in_phase.ensures (told-last s.txn s.action _ _ c.if-k-n.true)

pub returns : goal.returns
returns c = let s = c.args in rw (c.answer.ensures, c.in_phase-2.ensures) (told_more s.txn s.action s.k s.n c.if-k-n.false)
