-- `overwrite::touch_range` meets its contract. Assumes nothing.
use Prim.Native.Nat.{◌+◌, ◌-◌}
use mathlib.Core.Path.{◌≡◌}
use mathlib.Core.Bool.{true}
use lib.ListN.{length}
use Rattle.overwrite.specs.Range.{RangeFresh}
use Rattle.overwrite.proofs.Ranging.{Ranging}
use Rattle.overwrite.proofs.touch_range.Given as goal

abbrev pub invariant-loop-done : goal.invariant-loop-done
invariant-loop-done l = Ranging l.pool l.initial.staging l.count l.at l.bytes l.staging l.n l.done × (l.fresh ≡ true → RangeFresh l.staging l.n (l.at + l.done) (length l.bytes - l.done))

abbrev pub decreases-loop-done : goal.decreases-loop-done
decreases-loop-done l = length l.bytes - l.done
