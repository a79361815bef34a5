-- `pool_c::transactions::pool_commit_advance` meets its contract. Assumes nothing.
use Rattle.std.proofs.Common.{rules}
use Rattle.powercut.specs.Commit.{commit_on}
use Rattle.pool_c.proofs.Fits.{advance-fits}
use Rattle.pool_c.proofs.After.{after-fits}
use Rattle.pool_c.proofs.transactions.pool_commit_advance.Goals as goal

pub encoded-requires : goal.encoded-requires
encoded-requires c = search (rules, after-fits commit_on, advance-fits)
