-- `repair::repair_pages` meets its contract. Assumes nothing.
use Prim.Native.Nat.{◌≤◌}
use mathlib.Core.Path.{◌≡◌}
use lib.ListN.{length}
use Rattle.layout.specs.Meaning.{shape_of}
use Rattle.repair.proofs.Repaired.{Repairing}
use Rattle.repair.proofs.repair_pages.Given as goal

abbrev pub invariant-loop-k : goal.invariant-loop-k
invariant-loop-k l =
    (l.k ≤ length l.lost) × (l.k-end ≡ length l.lost) × (length l.pool ≡ length l.initial.pool) × Repairing (shape_of l.s) l.initial.pool l.lost l.k l.pool l.altered
