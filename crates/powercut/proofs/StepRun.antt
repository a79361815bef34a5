-- A run of a commit and its recoveries by step numbers alone, over any shape, and the claim about its ends that proofs/StepRunClaim proves.
-- Assumes nothing.
use mathlib.Core.Path.{◌≡◌}
use mathlib.Core.Logic.{◌≢◌, ◌⊎◌}
use mathlib.Core.Bool.{Bool, true, false}
use mathlib.Core.List.{List, [], Sublistᴰ}
use Prim.Native.Nat.{ℕ, suc, ◌+◌, ◌*◌, ◌^◌, ◌≤◌, ◌<◌}
use lib.ListN.{length, get_or}
use Rattle.rules.specs.Words.{Bytes, word}
use Rattle.rules.specs.Shape.{Shape, entry_limit, log_a, log_b, pool_size}
use Rattle.rules.specs.Staging.{Store, good_targets}
use Rattle.rules.specs.Parity.{Parity}
use Rattle.powercut.specs.Log.{Log, count_in, log_at, valid}
use Rattle.powercut.specs.Steps.{Remedy, barrier, commit_steps, neither, nothing, recovery_steps, redo, remedy, replay}
use Rattle.powercut.specs.Power.{State, act, keep, view}
use Rattle.powercut.specs.Claim.{SameData, staged_or_old}

-- so many steps of the commit, or of a recovery, are made; or the power is off
pub data Position : Type 0 where
  at_commit : ℕ → Position
  at_cut : Position
  at_recovery : Remedy → ℕ → Position

module _ (sh : Shape) (es : List Store) where
  pub data StepRun (p₀ : List ℕ) : Position → State → Type 0 where
    begin : StepRun p₀ (at_commit 0) (record { base = p₀; pend = []; reached = false })
    step : {k : ℕ} {s : State} → StepRun p₀ (at_commit k) s → k < length (commit_steps sh es)
        → StepRun p₀ (at_commit (suc k)) (act sh es (get_or (commit_steps sh es) k barrier) s)
    cut : {k : ℕ} {s : State} {kept : List Store} → StepRun p₀ (at_commit k) s → Sublistᴰ kept s.pend → StepRun p₀ at_cut (keep sh es s kept)
    recover : {s : State} → StepRun p₀ at_cut s → remedy sh (view s) ≢ neither → StepRun p₀ (at_recovery (remedy sh (view s)) 0) s
    again : {q : Remedy} {k : ℕ} {s : State} → StepRun p₀ (at_recovery q k) s → k < length (recovery_steps sh (view s) q)
        → StepRun p₀ (at_recovery q (suc k)) (act sh es (get_or (recovery_steps sh (view s) q) k barrier) s)
    cut_again : {q : Remedy} {k : ℕ} {s : State} {kept : List Store} → StepRun p₀ (at_recovery q k) s → Sublistᴰ kept s.pend
        → StepRun p₀ at_cut (keep sh es s kept)

module _ (sh : Shape) where
  -- the bytes of a pool of this shape, both seals zero, parity right
  pub record Clean (p : List ℕ) : Type 0 where
    pub length-is : length p ≡ pool_size sh
    pub bytes : Bytes p
    pub seal_a : word p (log_a sh) ≡ 0
    pub seal_b : word p (log_b sh) ≡ 0
    pub right : Parity sh p

  -- staged entries
  pub record Entries (es : List Store) : Type 0 where
    pub few : length es ≤ entry_limit
    pub good : good_targets sh es ≡ true
    pub vals : (i : ℕ) → (get_or es i (record { at = 0; val = 0 })).val < 2 ^ 64

  -- at an end nothing hangs on a later cut, the pool is clean, and its data rows are all old or all new
  pub record Ended (p₀ : List ℕ) (es : List Store) (s : State) (new : Bool) : Type 0 where
    pub behind : s.pend ≡ []
    pub clean : Clean (view s)
    pub same : SameData sh (view s) (staged_or_old new p₀ es)

  pub record Claim (p₀ : List ℕ) (es : List Store) : Type 0 where
    pub uncut : (s : State) → StepRun sh es p₀ (at_commit (length (commit_steps sh es))) s → Ended p₀ es s true
    pub recovered : (s : State) (q : Remedy) (k : ℕ) → StepRun sh es p₀ (at_recovery q k) s → k ≡ length (recovery_steps sh (view s) q) → Ended p₀ es s s.reached
    pub never-refused : (s : State) → StepRun sh es p₀ at_cut s → remedy sh (view s) ≢ neither
    -- a recovery finds nothing to do, or replays a log with all entries
    pub remedies : (s : State) (q : Remedy) (k : ℕ) → StepRun sh es p₀ (at_recovery q k) s → (q ≡ nothing) ⊎ ((l : Log) × (q ≡ replay l (length es)))
    -- after a cut there is nothing to do, or a seal has reached memory
    pub sealed : (s : State) → StepRun sh es p₀ at_cut s → (remedy sh (view s) ≡ nothing) ⊎ (s.reached ≡ true)
    -- a replay has the same steps at every moment
    pub replays : (s : State) (l : Log) (n k : ℕ) → StepRun sh es p₀ (at_recovery (replay l n) k) s → recovery_steps sh (view s) (replay l n) ≡ redo sh es
    -- while a recovery stores data or parity, its log is valid with its count
    pub log-kept : (s : State) (l : Log) (n k : ℕ) → StepRun sh es p₀ (at_recovery (replay l n) k) s → k < 2 * n + 2
        → (valid sh (view s) (log_at sh l) ≡ true) × (count_in (word (view s) (log_at sh l)) ≡ n)
