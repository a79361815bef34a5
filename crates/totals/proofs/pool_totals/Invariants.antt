-- `totals::pool_totals` meets its contract. Assumes nothing.
use Rattle.layout.specs.Meaning.{shape_of}
use Rattle.totals.proofs.TotallingZones.{TotallingZones}
use Rattle.totals.proofs.pool_totals.Given as goal

abbrev pub invariant-loop-z : goal.invariant-loop-z
invariant-loop-z l = TotallingZones (shape_of l.pool.shape) l.pool.bytes.now l.z l.totals.objects l.totals.bytes l.totals.free
