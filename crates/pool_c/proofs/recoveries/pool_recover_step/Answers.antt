-- `pool_c::recoveries::pool_recover_step` meets its contract. Assumes nothing.
use Rattle.std.proofs.Common.{rules}
use Rattle.powercut.specs.Recovery.{recovery_step}
use Rattle.pool_c.proofs.Fits.{recovery-step-fits}
use Rattle.pool_c.proofs.After.{recovered-fits}
use Rattle.pool_c.proofs.recoveries.pool_recover_step.Goals as goal

pub encoded-requires : goal.encoded-requires
encoded-requires c =
    recovered-fits recovery_step c.args.recovery c.from.result c.step.result _ _ c.from.ensures c.step.ensures recovery-step-fits (search rules) (search rules)
