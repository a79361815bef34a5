-- `pool_c::recoveries::pool_recover` meets its contract. Assumes nothing.
use Rattle.pool_c.proofs.Fits.{recovery-start-fits}
use Rattle.pool_c.proofs.After.{recovery-after-fits}
use Rattle.pool_c.proofs.recoveries.pool_recover.Goals as goal

pub encoded-requires : goal.encoded-requires
encoded-requires c = recovery-after-fits c.start.result _ c.start.ensures (recovery-start-fits _)
