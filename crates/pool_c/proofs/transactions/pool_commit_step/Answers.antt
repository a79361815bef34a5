-- `pool_c::transactions::pool_commit_step` meets its contract. Assumes nothing.
use Rattle.std.proofs.Common.{rules}
use Rattle.powercut.specs.Commit.{commit_step}
use Rattle.pool_c.proofs.Fits.{step_fits}
use Rattle.pool_c.proofs.After.{after-fits}
use Rattle.pool_c.proofs.transactions.pool_commit_step.Goals as goal

pub encoded-requires : goal.encoded-requires
encoded-requires c = search (rules, after-fits commit_step, step_fits)
