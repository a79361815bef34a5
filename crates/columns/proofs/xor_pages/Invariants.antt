-- `columns::xor_pages` meets its contract. Assumes nothing.
use Prim.Native.Nat.{◌-◌, ◌≤◌}
use mathlib.Core.Path.{◌≡◌}
use lib.ListN.{length}
use Rattle.rules.specs.Repair.{tab_from}
use Rattle.columns.specs.Column.{other_byte}
use Rattle.columns.proofs.xor_pages.Given as goal

abbrev pub invariant-loop-k : goal.invariant-loop-k
invariant-loop-k l =
    (l.k ≤ l.rows) × (length l.sum ≡ length l.initial.sum) × (l.sum ≡ tab_from 0 (length l.initial.sum) (other_byte l.pool l.at l.stride l.k l.without))

abbrev pub decreases-loop-k : goal.decreases-loop-k
decreases-loop-k l = l.rows - l.k
