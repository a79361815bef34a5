-- The calls that go up to the next barrier, `commit_on` and `recovery_on`: what they do, for all inputs; and that a run by them is a run of
-- requirement 3, also where the power is cut inside one. Assumes nothing.
use Rattle.std.specs.Prelude.{◌≡◌, cond, ℕ, suc, ◌+◌, ◌-◌, ◌*◌, ◌≤◌, ◌<◌, leb, length, take, drop}
use mathlib.Core.List.{List, [], ◌∷◌, Sublistᴰ}
use Rattle.rules.specs.Header.{shape_in}
use Rattle.rules.specs.Staging.{Store, Transaction, committing, with_phase}
use Rattle.rules.specs.Answer.{After, Answer, Given, address, done, passed, refused, started, stored, taken}
use Rattle.rules.specs.Plan.{Call}
use Rattle.rules.specs.Calls.{AllTyped}
use Rattle.rules.specs.Sound.{Sound}
use Rattle.powercut.specs.Steps.{Remedy, Step, barrier, clear, neither, nothing, replay, steps_made}
use Rattle.powercut.specs.Power.{State, act, keep, view}
use Rattle.powercut.specs.Commit.{commit_list, commit_on, commit_step, next_phase, place_in, step_answer}
use Rattle.powercut.specs.Recovery.{Recovery, RecoveryAfter, done_steps, next_progress, recovering, recovery_list, recovery_on, recovery_step, with_progress}
use Rattle.powercut.specs.WholeRun.{Accepted, Holds, Makes, Run, at_first, cut_off, entries, holding, made, meets, resuming}

-- Steps i + 1 to j of a list.
unfoldable pub between : ℕ → ℕ → List Step → List Step
between i j xs = take (j - i) (drop i xs)

-- ---- For all inputs.

-- How many steps stand before the barrier that ends the part of step k + 1. Parts 3 to 5 have n + 1, n + 1 and 3 steps; parts 1 and 2 have
-- 4n + 1 and 3.
unfoldable pub redo_barrier : ℕ → ℕ → ℕ
redo_barrier n k = cond (leb k n) n (cond (leb k (2 * n + 1)) (2 * n + 1) (2 * n + 4))

unfoldable pub commit_barrier : ℕ → ℕ → ℕ
commit_barrier n k = cond (leb k (4 * n)) (4 * n) (cond (leb k (4 * n + 3)) (4 * n + 3) (4 * n + 4 + redo_barrier n (k - (4 * n + 4))))

unfoldable pub recovery_barrier : Remedy → ℕ → ℕ
recovery_barrier (replay l n) k = redo_barrier n k
recovery_barrier clear k = 2
recovery_barrier nothing k = 0
recovery_barrier neither k = 0

-- Steps k + 1 to e + 1 of the list made, the last of which is a barrier: the number answered is that of the last step made.
unfoldable pub commit_made : Given → ℕ → ℕ → After
commit_made g k e = record {
  answer = step_answer e (length (commit_list g)) barrier;
  left = record {
    pool = steps_made (shape_in g.pool) (between k (suc e) (commit_list g)) g.pool;
    staging = g.staging;
    txn = with_phase g.txn (next_phase e (length (commit_list g)));
  };
}

unfoldable pub recovery_made : List ℕ → Recovery → ℕ → ℕ → RecoveryAfter
recovery_made p r k e = record {
  answer = step_answer e (length (recovery_list p r)) barrier;
  pool = steps_made (shape_in p) (between k (suc e) (recovery_list p r)) p;
  recovery = with_progress r (next_progress e (length (recovery_list p r)));
}

-- Only the first step can be refused, and then nothing is changed; else all steps of the part that are left are made, and no other.
pub record CommitAdvances (g : Given) : Type 0 where
  pub refuses : (n : ℕ) → (commit_step g).answer ≡ refused n → commit_on g ≡ record { answer = refused n; left = g }
  pub makes : (k : ℕ) → g.txn.phase ≡ committing k → Accepted (commit_step g).answer → commit_on g ≡ commit_made g k (commit_barrier g.txn.count k)

pub record RecoveryAdvances (p : List ℕ) (r : Recovery) : Type 0 where
  pub refuses : (n : ℕ) → (recovery_step p r).answer ≡ refused n → recovery_on p r ≡ record { answer = refused n; pool = p; recovery = r }
  pub makes : (k : ℕ) → r.phase ≡ recovering k → Accepted (recovery_step p r).answer → recovery_on p r ≡ recovery_made p r k (recovery_barrier r.work k)

-- The call makes at most so many steps, as the part it stands in says.
pub record PartSizes (n k : ℕ) : Type 0 where
  pub entries : k ≤ 4 * n → suc (commit_barrier n k) - k ≤ 4 * n + 1
  pub seals : 4 * n < k → k ≤ 4 * n + 3 → suc (commit_barrier n k) - k ≤ 3
  pub data-words : 4 * n + 3 < k → k ≤ 5 * n + 4 → suc (commit_barrier n k) - k ≤ n + 1
  pub parity : 5 * n + 4 < k → k ≤ 6 * n + 5 → suc (commit_barrier n k) - k ≤ n + 1
  pub clears : 6 * n + 5 < k → k < 6 * n + 9 → suc (commit_barrier n k) - k ≤ 3

-- ---- Requirement 3.

-- The number of the step answered.
unfoldable pub number_in : Answer → ℕ
number_in (address a) = 0
number_in taken = 0
number_in started = 0
number_in (stored k) = k
number_in (passed k) = k
number_in (done k) = k
number_in (refused n) = 0

module _ (pool staging : List ℕ) (ks : List Call) where
  abbrev given : State → Transaction → Given
  given s t = meets pool staging ks s t

  -- Steps one after the other, each store pending until a barrier or a cut.
  unfoldable pub acts : List Step → State → State
  acts [] s = s
  acts (x ∷ xs) s = acts xs (act (shape_in pool) (entries pool staging ks) x s)

  -- After step j of the list, in a call given the transaction t, or the recovery r, and the state s.
  abbrev pub in_commit : Transaction → State → ℕ → State
  in_commit t s j = acts (between (place_in t.phase) j (commit_list (given s t))) s

  abbrev pub in_recovery : Recovery → State → ℕ → State
  in_recovery r s j = acts (between (done_steps r.phase) j (recovery_list (view s) r)) s

  -- A moment inside a call that is not refused: after its steps up to j, none and all included.
  pub data Moment : Holds → State → State → Type 0 where
    commits : {t : Transaction} {s : State} {j : ℕ} → Accepted (commit_on (given s t)).answer → j ≤ number_in (commit_on (given s t)).answer → Moment (holding t) s (in_commit t s j)
    recovers : {r : Recovery} {s : State} {j : ℕ} → Accepted (recovery_on (view s) r).answer → j ≤ number_in (recovery_on (view s) r).answer → Moment (resuming r) s (in_recovery r s j)

  -- A run by these calls, by starts and, between them, single steps (`Makes`): such a call makes all steps up to the number answered; and a
  -- cut can come inside it.
  pub data RunOn : Holds → State → Type 0 where
    begin : RunOn (holding (made pool staging ks).left.txn) (at_first pool staging ks)
    next : {h h' : Holds} {s s' : State} → RunOn h s → Makes pool staging ks h s h' s' → RunOn h' s'
    on : {t : Transaction} {s : State} → RunOn (holding t) s → Accepted (commit_on (given s t)).answer
        → RunOn (holding (commit_on (given s t)).left.txn) (in_commit t s (number_in (commit_on (given s t)).answer))
    again : {r : Recovery} {s : State} → RunOn (resuming r) s → Accepted (recovery_on (view s) r).answer
        → RunOn (resuming (recovery_on (view s) r).recovery) (in_recovery r s (number_in (recovery_on (view s) r).answer))
    cut : {t : Transaction} {s : State} {kept : List Store} → RunOn (holding t) s → Sublistᴰ kept s.pend → RunOn cut_off (keep (shape_in pool) (entries pool staging ks) s kept)
    cut_again : {r : Recovery} {s : State} {kept : List Store} → RunOn (resuming r) s → Sublistᴰ kept s.pend → RunOn cut_off (keep (shape_in pool) (entries pool staging ks) s kept)
    cut_inside : {h : Holds} {s s' : State} {kept : List Store} → RunOn h s → Moment h s s' → Sublistᴰ kept s'.pend → RunOn cut_off (keep (shape_in pool) (entries pool staging ks) s' kept)

  -- REQUIREMENT 3 for these calls
  pub record AdvanceRun : Type 0 where
    -- A run by these calls is a run: all that requirement 3 says of its ends and its cuts holds of it.
    pub runs : {h : Holds} {s : State} → RunOn h s → Run pool staging ks h s
    -- Every moment inside such a call is a state of the run.
    pub moments : {h : Holds} {s s' : State} → Run pool staging ks h s → Moment h s s' → (h' : Holds) × Run pool staging ks h' s'
    -- A call meets no refusal until the end.
    pub commits : (t : Transaction) (s : State) (k : ℕ) → Run pool staging ks (holding t) s → t.phase ≡ committing k → Accepted (commit_on (given s t)).answer
    pub recovers : (r : Recovery) (s : State) (k : ℕ) → Run pool staging ks (resuming r) s → r.phase ≡ recovering k → Accepted (recovery_on (view s) r).answer
    -- The pool that it leaves is the one that the next call meets.
    pub commit-leaves : (t : Transaction) (s : State) → Run pool staging ks (holding t) s → Accepted (commit_on (given s t)).answer
        → (commit_on (given s t)).left ≡ given (in_commit t s (number_in (commit_on (given s t)).answer)) (commit_on (given s t)).left.txn
    pub recovery-leaves : (r : Recovery) (s : State) → Run pool staging ks (resuming r) s → Accepted (recovery_on (view s) r).answer
        → (recovery_on (view s) r).pool ≡ view (in_recovery r s (number_in (recovery_on (view s) r).answer))

abbrev pub AdvanceRuns : Type 0
AdvanceRuns = (pool staging : List ℕ) (ks : List Call) → Sound pool → AllTyped ks → AdvanceRun pool staging ks
