-- `commit::start` meets its contract. Assumes nothing.
use Rattle.commit.proofs.Committing.{start_none, start-some}
use Rattle.commit.proofs.start.Goals as goal

pub returns-then-txn-eq0 : goal.returns-then-txn-eq0
returns-then-txn-eq0 c = rw c.in_phase.ensures (start_none c.args.txn c.if-txn-eq0.true)

pub returns : goal.returns
returns c = rw c.in_phase-2.ensures (start-some c.args.txn c.if-txn-eq0.false)
