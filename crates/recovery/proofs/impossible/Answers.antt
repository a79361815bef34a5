-- `recovery::impossible` meets its contract. Assumes nothing.
use Rattle.recovery.proofs.Stepping.{finished-impossible}
use Rattle.recovery.proofs.impossible.Goals as goal

pub returns-in-Finished : goal.returns-in-Finished
returns-in-Finished c = let a = c.args in finished-impossible a.pool.now.shape _ _ _ _ c.in-Finished.is c.many.ensures
