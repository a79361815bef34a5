-- A recovery made call after call, as a caller makes it: it stops at done or at a refusal. Assumes nothing.
use Rattle.std.specs.Prelude.{ℕ, zero, suc, true, cond, ◌≡◌, List}
use Rattle.rules.specs.Plan.{Call}
use Rattle.rules.specs.Calls.{AllTyped}
use Rattle.rules.specs.Sound.{Sound}
use Rattle.powercut.specs.Power.{State, view}
use Rattle.powercut.specs.Recovery.{RecoveryAfter, recovery_on, recovery_start}
use Rattle.powercut.specs.WholeRun.{Run, cut_off, resuming}
use Rattle.powercut.specs.Claim.{End}
use Rattle.saving.specs.Saving.{is_done, is_end}

-- At most n calls more, each up to the next barrier, from what the last call answered and left.
unfoldable pub recovery_from : ℕ → RecoveryAfter → RecoveryAfter
recovery_from zero x = x
recovery_from (suc n) x = cond (is_end x.answer) x (recovery_from n (recovery_on x.pool x.recovery))

-- The start of a recovery, and at most three calls: no recovery has more than three parts.
unfoldable pub recovered : List ℕ → RecoveryAfter
recovered p = recovery_from 3 (recovery_start p)

-- The end of a recovery of the pool that a cut of a run left, at state s: done; the run goes on to it; and the pool is at an end, all new if
-- a seal had reached memory, else all old.
pub record AfterCut (pool staging : List ℕ) (ks : List Call) (s : State) (x : RecoveryAfter) : Type 0 where
  pub over : is_done x.answer ≡ true
  pub state : State
  pub run : Run pool staging ks (resuming x.recovery) state
  pub left : view state ≡ x.pool
  pub end : End pool staging ks state s.reached

-- What holds of a recovery driven to its end.
pub record Recovers (p : List ℕ) (x : RecoveryAfter) : Type 0 where
  -- of every pool: it ends, done or refused
  pub exact : x ≡ recovered p
  pub ends : is_end x.answer ≡ true
  -- of a pool that a run of requirement 3 leaves at a cut
  pub after-cut : (pool staging : List ℕ) (ks : List Call) → Sound pool → AllTyped ks → (s : State) → Run pool staging ks cut_off s → view s ≡ p
      → AfterCut pool staging ks s x
