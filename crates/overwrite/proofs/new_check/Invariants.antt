-- `overwrite::new_check` meets its contract. Assumes nothing.
use Prim.Native.Nat.{◌-◌}
use lib.ListN.{length}
use Rattle.stage.specs.Seen.{seen_by}
use Rattle.overwrite.proofs.Updated.{Checking}
use Rattle.overwrite.proofs.new_check.Given as goal

abbrev pub invariant-loop-i : goal.invariant-loop-i
invariant-loop-i l = Checking l.check l.left (seen_by l.view) l.at l.bytes l.sum l.i

abbrev pub decreases-loop-i : goal.decreases-loop-i
decreases-loop-i l = length l.bytes - l.i
