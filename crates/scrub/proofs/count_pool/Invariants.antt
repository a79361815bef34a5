-- `scrub::count_pool` meets its contract. Assumes nothing.
use Rattle.layout.specs.Meaning.{shape_of}
use Rattle.scrub.proofs.CountingZones.{CountingZones}
use Rattle.scrub.proofs.count_pool.Given as goal

abbrev pub invariant-loop-z : goal.invariant-loop-z
invariant-loop-z l = CountingZones (shape_of l.pool.shape) l.pool.bytes.now l.z l.objects l.damaged l.broken
