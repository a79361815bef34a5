-- `pool_c::tagged::pool_save` meets its contract. Assumes nothing.
use Rattle.pool_c.proofs.Fits.{save-fits}
use Rattle.pool_c.proofs.After.{transaction-after-fits}
use Rattle.pool_c.proofs.tagged.pool_save.Goals as goal

pub encoded-requires : goal.encoded-requires
encoded-requires c = transaction-after-fits c.save.result _ _ c.save.ensures (save-fits _ _ _ _)
