-- `scan::put_zones` meets its contract. Assumes nothing.
use Rattle.layout.specs.Meaning.{shape_of}
use Rattle.scan.proofs.ListingZones.{ListingZones}
use Rattle.scan.proofs.put_zones.Given as goal

abbrev pub invariant-loop-z : goal.invariant-loop-z
invariant-loop-z l = ListingZones (shape_of l.pool.shape) l.pool.bytes.now l.initial.text l.text l.z
