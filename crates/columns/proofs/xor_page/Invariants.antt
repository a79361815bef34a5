-- `columns::xor_page` meets its contract. Assumes nothing.
use Prim.Native.Nat.{◌-◌}
use mathlib.Core.Path.{◌≡◌}
use lib.ListN.{length}
use Rattle.columns.proofs.Storing.{Storing}
use Rattle.columns.specs.Column.{xored}
use Rattle.columns.proofs.xor_page.Given as goal

abbrev pub invariant-loop-i : goal.invariant-loop-i
invariant-loop-i l = (l.i-end ≡ length l.initial.sum) × Storing l.initial.sum 0 (xored l.initial.sum l.pool l.at) l.sum l.i

abbrev pub decreases-loop-i : goal.decreases-loop-i
decreases-loop-i l = length l.initial.sum - l.i
