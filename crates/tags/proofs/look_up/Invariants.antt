-- `tags::look_up` meets its contract. Assumes nothing.
use Rattle.layout.specs.Meaning.{shape_of}
use Rattle.tags.specs.Found.{slot_of}
use Rattle.tags.proofs.ScanningZones.{ScanningZones}
use Rattle.tags.proofs.look_up.Given as goal

abbrev pub invariant-loop-z : goal.invariant-loop-z
invariant-loop-z l = ScanningZones (shape_of l.pool.shape) l.pool.bytes.now l.tag l.from l.z (slot_of l.hit)
