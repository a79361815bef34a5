-- `pool_c::transactions::pool_allocate` meets its contract. Assumes nothing.
use Rattle.std.proofs.Common.{rules}
use Rattle.pool_c.proofs.After.{call-after-fits}
use Rattle.pool_c.proofs.transactions.pool_allocate.Goals as goal

pub encoded-requires : goal.encoded-requires
encoded-requires c = search (rules, call-after-fits)
