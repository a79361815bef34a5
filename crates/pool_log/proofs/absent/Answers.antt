-- `pool_log::absent` meets its contract. Assumes nothing.
use Rattle.pool_log.proofs.Targets.{absent-placed}
use Rattle.pool_log.proofs.absent.Goals as goal

pub returns : goal.returns
returns c = let a = c.args in absent-placed a.p.now a.at a.n a.t _ c.entry_index.ensures _ c.is_none.ensures
