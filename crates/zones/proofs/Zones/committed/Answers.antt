-- `zones::Zones::committed` meets its contract. Assumes nothing.
use Rattle.zones.proofs.Shaped.{pool-words}
use Rattle.zones.proofs.Zones.committed.Goals as goal

pub committed-requires : goal.committed-requires
committed-requires c = pool-words c.args.pool.now
