-- `scan::put_zone` meets its contract. Assumes nothing.
use Rattle.scan.proofs.Listing.{Listing}
use Rattle.scan.proofs.put_zone.Given as goal

abbrev pub invariant-loop-met : goal.invariant-loop-met
invariant-loop-met l = Listing l.zone l.z l.initial.text l.text l.met-iterator l.cell
