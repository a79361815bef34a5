-- `pool_c::transactions::pool_begin` meets its contract. Assumes nothing.
use Rattle.pool_c.proofs.After.{begin-after-fits}
use Rattle.pool_c.proofs.transactions.pool_begin.Goals as goal

pub encoded-requires : goal.encoded-requires
encoded-requires c = begin-after-fits _ c.begin.result c.begin.ensures
