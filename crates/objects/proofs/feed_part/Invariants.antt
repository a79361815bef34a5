-- `objects::feed_part` meets its contract. Assumes nothing.
use Prim.Native.Nat.{◌+◌, ◌-◌, ◌*◌}
use Rattle.stage.specs.Seen.{seen_by}
use Rattle.objects.proofs.Feeding.{Feeding}
use Rattle.objects.proofs.feed_part.Given as goal

abbrev pub invariant-loop-i : goal.invariant-loop-i
invariant-loop-i l = Feeding l.initial.sums.low l.initial.sums.high (seen_by l.view) l.from l.n l.sums.low l.sums.high (l.from + 8 * l.i) (l.n - 8 * l.i)
