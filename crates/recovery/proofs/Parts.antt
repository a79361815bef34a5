-- A part of a recovery is a part of its step list. Assumes nothing.
use Prim.Native.Nat.{ℕ, ◌+◌}
use mathlib.Core.Path.{◌≡◌}
use mathlib.Core.List.{List}
use Rattle.rules.specs.Shape.{Shape}
use Rattle.powercut.specs.Log.{Log, log_at}
use Rattle.powercut.specs.Steps.{Remedy, clear, recovery_steps, redo, replay}
use Rattle.powercut.specs.Advance.{recovery_barrier, redo_barrier}
use Rattle.pool_log.specs.Targets.{read}
use Rattle.actions.specs.Parts.{PartMade}

module _ (sh : Shape) (p q : List ℕ) (w : Remedy) (k r : ℕ) where
  pub replay-part : (b n : ℕ) (l : Log) → b ≡ log_at sh l → w ≡ replay l n → PartMade sh (redo sh (read p (b + 16) n)) k (redo_barrier n k) p q r → PartMade sh (recovery_steps sh p w) k (recovery_barrier w k) p q r
  unfolding recovery_steps recovery_barrier read
  replay-part b n l f e h = rw e (rw f at h)

  pub clear-part : w ≡ clear → PartMade sh (recovery_steps sh p clear) k 2 p q r → PartMade sh (recovery_steps sh p w) k (recovery_barrier w k) p q r
  unfolding recovery_barrier
  clear-part e h = rw e h
