-- `scrub::count_zone` meets its contract. Assumes nothing.
use Prim.Native.Nat.{◌≤◌}
use Rattle.runs.specs.Taken.{walk_by}
use Rattle.runs.proofs.Going.{Going}
use Rattle.scrub.proofs.Counting.{tallies}
use Rattle.scrub.proofs.count_zone.Given as goal

abbrev pub invariant-loop-met : goal.invariant-loop-met
invariant-loop-met l =
    Going (tallies l.objects l.damaged) (tallies 0 0 0 (walk_by l.zone)) l.zone l.met-iterator
    × (l.objects ≤ l.met-iterator.cell) × (l.damaged ≤ l.met-iterator.cell)
