-- `pool_c::recoveries::pool_recover_advance` meets its contract. Assumes nothing.
use Rattle.std.proofs.Common.{rules}
use Rattle.powercut.specs.Recovery.{recovery_on}
use Rattle.pool_c.proofs.Fits.{recovery-advance-fits}
use Rattle.pool_c.proofs.After.{recovered-fits}
use Rattle.pool_c.proofs.recoveries.pool_recover_advance.Goals as goal

pub encoded-requires : goal.encoded-requires
encoded-requires c =
    recovered-fits recovery_on c.args.recovery c.from.result c.advance.result _ _ c.from.ensures c.advance.ensures recovery-advance-fits (search rules) (search rules)
