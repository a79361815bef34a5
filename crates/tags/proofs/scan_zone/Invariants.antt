-- `tags::scan_zone` meets its contract. Assumes nothing.
use Rattle.runs.specs.Taken.{walk_by}
use Rattle.runs.proofs.Going.{Going}
use Rattle.tags.specs.Found.{hits_from, slot_of}
use Rattle.tags.proofs.Scanning.{scans}
use Rattle.tags.proofs.scan_zone.Given as goal

abbrev pub invariant-loop-met : goal.invariant-loop-met
invariant-loop-met l = Going (scans l.tag l.from l.base (slot_of l.hit)) (hits_from l.tag l.from (slot_of l.fn.before) l.base (walk_by l.zone)) l.zone l.met-iterator
