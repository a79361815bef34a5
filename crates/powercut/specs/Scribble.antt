-- A scribbled log (A.10): the fault that cuts the power also overwrites one log, once, after the commit's cut and before the first recovery.
-- Every recovery that ends still leaves the pool sound, all old or all new by the other log alone, and 22 is never met. Assumes nothing.
use Rattle.std.specs.Prelude.{◌≡◌, ◌⊎◌, Bool, false, ◌&&◌, ◌||◌, ℕ, suc, ◌+◌, ◌*◌, ◌≤◌, ◌<◌, eqb, length, get_or}
use mathlib.Core.List.{List, [], ◌∷◌, Sublistᴰ}
use Rattle.rules.specs.Words.{Bytes, word}
use Rattle.rules.specs.Shape.{Shape}
use Rattle.rules.specs.Header.{shape_in}
use Rattle.rules.specs.Staging.{Store, Transaction}
use Rattle.rules.specs.Plan.{Call}
use Rattle.rules.specs.Calls.{AllTyped}
use Rattle.rules.specs.Sound.{Sound}
use Rattle.powercut.specs.Log.{Log, from_a, from_b, log_at, seal_of, valid}
use Rattle.powercut.specs.Steps.{Step, barrier, parity, store}
use Rattle.powercut.specs.Power.{State, keep, view}
use Rattle.powercut.specs.Commit.{commit_next}
use Rattle.powercut.specs.Recovery.{Recovery, finished, recovering, recovery_list, recovery_next, recovery_start, recovery_step}
use Rattle.powercut.specs.WholeRun.{Accepted, Holds, Makes, Run, cut_off, entries, holding, meets, resuming}
use Rattle.powercut.specs.Claim.{End, EndsIn, StepTaken, n}

-- Each log's other one.
unfoldable pub other : Log → Log
other from_a = from_b
other from_b = from_a

-- Log l of the pool p is overwritten, which leaves q: any bytes of its eight pages have any values, every other byte is as in p; and its seal
-- is zero or the log is not valid.
pub record Overwritten (sh : Shape) (l : Log) (p q : List ℕ) : Type 0 where
  pub size : length q ≡ length p
  pub bytes : Bytes q
  pub outside : (i : ℕ) → (i < log_at sh l) ⊎ (log_at sh l + 8 * sh.page ≤ i) → get_or q i 0 ≡ get_or p i 0
  pub lost : (word q (log_at sh l) ≡ 0) ⊎ (valid sh q (log_at sh l) ≡ false)

module _ (sh : Shape) (es : List Store) (l : Log) where
  -- A store of the seal of the commit of these entries into log l.
  unfoldable pub is_seal_in : Store → Bool
  is_seal_in x = eqb x.at (log_at sh l) && eqb x.val (seal_of es)

  abbrev pub any_seal_in : List Store → Bool
  any_seal_in [] = false
  any_seal_in (x ∷ xs) = is_seal_in x || any_seal_in xs

  -- The step is a barrier, and it passes such a store.
  abbrev pub passes_seal_in : Step → State → Bool
  passes_seal_in (store x) s = false
  passes_seal_in (parity e) s = false
  passes_seal_in barrier s = any_seal_in s.pend

module _ (pool staging : List ℕ) (ks : List Call) where
  -- A call of the run passes a store of that commit's seal into log l.
  unfoldable pub passes : Log → {s s' : State} {h h' : Holds} → Makes pool staging ks h s h' s' → Bool
  passes l (Makes.commit f) = false
  passes l (Makes.step {t} {s} f) = passes_seal_in (shape_in pool) (entries pool staging ks) l (commit_next (meets pool staging ks s t)) s
  passes l (Makes.recover f) = false
  passes l (Makes.again {r} {s} f) = passes_seal_in (shape_in pool) (entries pool staging ks) l (recovery_next (view s) r) s

  -- That commit's seal in log l has reached memory: a barrier has passed a store of it, or a cut has kept one. That it was cleared since does
  -- not matter.
  unfoldable pub reached_in : Log → {h : Holds} {s : State} → Run pool staging ks h s → Bool
  reached_in l Run.begin = false
  reached_in l (Run.next r m) = reached_in l r || passes l m
  reached_in l (Run.cut {kept = kept} r k) = reached_in l r || any_seal_in (shape_in pool) (entries pool staging ks) l kept
  reached_in l (Run.cut_again {kept = kept} r k) = reached_in l r || any_seal_in (shape_in pool) (entries pool staging ks) l kept

  -- Recoveries from the power-off state s₀: each started anew, call after call, and cuts.
  pub data Resumed (s₀ : State) : Holds → State → Type 0 where
    begin : Resumed s₀ cut_off s₀
    next : {h h' : Holds} {s s' : State} → Resumed s₀ h s → Makes pool staging ks h s h' s' → Resumed s₀ h' s'
    cut_again : {r : Recovery} {s : State} {kept : List Store} → Resumed s₀ (resuming r) s → Sublistᴰ kept s.pend
        → Resumed s₀ cut_off (keep (shape_in pool) (entries pool staging ks) s kept)

  -- The next step of a recovery of m steps, of which k are made, is not refused.
  abbrev pub Taken : Recovery → State → ℕ → ℕ → Type 0
  Taken r s k m =
      StepTaken pool staging ks (recovery_step (view s) r).answer (recovery_step (view s) r).pool s (recovery_next (view s) r) k (recovery_list (view s) r) m

  -- What recoveries from s₀ do: the fields of requirement 3 that speak of recoveries.
  pub record Recoveries (s₀ : State) (is_new : Bool) : Type 0 where
    -- One that ends leaves the pool sound, all new or all old.
    pub recovered : (r : Recovery) (s : State) → Resumed s₀ (resuming r) s → r.phase ≡ finished → End pool staging ks s is_new
    -- After any cut one starts, so 22 is not met; it is done at once or has steps.
    pub restarts : (s : State) → Resumed s₀ cut_off s
        → Accepted (recovery_start (view s)).answer
        × (((recovery_start (view s)).recovery.phase ≡ finished) ⊎ ((recovery_start (view s)).recovery.phase ≡ recovering 0))
    -- It clears both seals, in 3 steps, or replays the other log, in 2n + 5, and meets no refusal until its end.
    pub resumes : (r : Recovery) (s : State) (k : ℕ) → Resumed s₀ (resuming r) s → r.phase ≡ recovering k → Taken r s k 3 ⊎ Taken r s k (2 * n pool staging ks + 5)
    -- So one that is not cut ends: from every cut state, its start and none, 3 or 2n + 5 steps.
    pub recovers : (s : State) → Resumed s₀ cut_off s
        → EndsIn pool staging ks (suc 0) cut_off s ⊎ (EndsIn pool staging ks (suc 3) cut_off s ⊎ EndsIn pool staging ks (suc (2 * n pool staging ks + 5)) cut_off s)

  -- The state that the cut leaves, and one with the pool q in place of its own.
  abbrev pub left : State → List Store → State
  left s kept = keep (shape_in pool) (entries pool staging ks) s kept

  abbrev pub scribbled : State → List ℕ → State
  scribbled s q = record { base = q; pend = []; reached = s.reached }

-- ONE LOG OVERWRITTEN: a commit up to any moment, a cut that keeps any of the stores pending, and log l of the pool that it leaves overwritten,
-- which leaves q. Recoveries from there end with all new if that commit's seal in the other log had reached memory by the cut, else all old.
abbrev pub ScribbledLog : Type 0
ScribbledLog = (pool staging : List ℕ) (ks : List Call) → Sound pool → AllTyped ks
    → (t : Transaction) (s : State) (kept : List Store) (r : Run pool staging ks (holding t) s) (k : Sublistᴰ kept s.pend) (l : Log) (q : List ℕ)
    → Overwritten (shape_in pool) l (left pool staging ks s kept).base q
    → Recoveries pool staging ks (scribbled pool staging ks (left pool staging ks s kept) q) (reached_in pool staging ks (other l) (Run.cut r k))
