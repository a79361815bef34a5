-- `saving::recover` meets its contract: what is left to do gives the whole. Assumes nothing.
use mathlib.Core.Path.{◌≡◌}
use Prim.Native.Nat.{◌-◌, ◌≤◌}
use lib.ListN.{length}
use Rattle.recovery.specs.Meaning.{after_of}
use Rattle.saving.specs.Recovering.{recovered, recovery_from}
use Rattle.saving.proofs.recover.Given as goal

abbrev pub invariant-loop : goal.invariant-loop
invariant-loop l = (length l.pool ≡ length l.initial.pool) × (l.counter ≤ 3) × (recovery_from (3 - l.counter) (after_of l.last l.pool) ≡ recovered l.initial.pool)
