-- `pool_c::transactions::pool_commit` meets its contract. Assumes nothing.
use Rattle.std.proofs.Common.{rules}
use Rattle.powercut.specs.Commit.{commit_start}
use Rattle.pool_c.proofs.Fits.{start_fits}
use Rattle.pool_c.proofs.After.{after-fits}
use Rattle.pool_c.proofs.transactions.pool_commit.Goals as goal

pub encoded-requires : goal.encoded-requires
encoded-requires c = search (rules, after-fits commit_start, start_fits)
