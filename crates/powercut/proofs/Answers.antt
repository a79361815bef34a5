-- The answers of commit and recovery: what one that is no refusal tells, and which tests passed make it none. Assumes nothing.
use mathlib.Core.Path.{◌≡◌, refl, ap, ap₂, ◌∙◌}
use mathlib.Core.Logic.{◌≢◌}
use mathlib.Core.Bool.{true, false, not, ◌&&◌, ◌||◌}
use mathlib.Core.Option.{Option, none, some}
use mathlib.Core.List.{List, ◌++◌}
use Prim.Native.Nat.{ℕ, zero, suc, ◌+◌, ◌*◌, ◌≤◌, ◌<◌}
use native.Mathlib.Omega.{arith}
use lib.Dec.{eqb, ltb}
use lib.ListN.{length, get_or}
use borrow.Author.Tests.{eq-eqb, eqb-true, le-ltb, lt-ltb, ltb-true}
use Rattle.rules.specs.Words.{word}
use Rattle.rules.specs.Shape.{Shape, entry_limit}
use Rattle.rules.specs.Test.{first}
use Rattle.rules.specs.Header.{id_in, open_tests, shape_in}
use Rattle.rules.specs.Staging.{Phase, Store, closed, committing, entries_at, good_targets, impossible, past_commit, with_phase}
use Rattle.rules.specs.Answer.{After, Given, conclude, is_refused}
use Rattle.rules.specs.Plan.{Call}
use Rattle.rules.specs.Calls.{call, live_tests, record_tests}
use Rattle.rules.proofs.Bool.{or-false, split}
use Rattle.rules.proofs.Test.{Passed, first-passed, not-not, passed_first, passed-join, passed-left, passed-right}
use Rattle.rules.proofs.Taken.{plan_in}
use Rattle.powercut.specs.Log.{Log, count_in, log_at, valid}
use Rattle.powercut.specs.Steps.{Remedy, Step, barrier, clear, neither, nothing, parity, recovery_steps, remedy, replay, step_pool, store}
use Rattle.powercut.specs.Commit.{commit_list, commit_next, commit_start, commit_step, commit_tests, made_answer, next_phase, place_in, start_answer, start_phase, step_answer}
use Rattle.powercut.specs.Recovery.{Progress, Recovery, RecoveryAfter, conclude_recovery, count_above, done_steps, finished, impossible_recovery, is_recovering, log_lost, next_progress, recovering, recovery_list, recovery_next, recovery_start, recovery_step, recovery_tests, start_recovery, with_progress}
use Rattle.powercut.specs.WholeRun.{Accepted}
use Rattle.powercut.proofs.StepCount.{recovery-few}

-- ---- what an answer that is no refusal tells

pub accepted-none : (g : Given) (r : Option ℕ) (a : After) → Accepted (conclude g r a).answer → r ≡ none
unfolding conclude is_refused
accepted-none g none a f = refl
accepted-none g (some n) a f = absurd (let z : ◌≡◌ {A = ℕ} 0 1 = cc in omega arith)

pub concluded : (g : Given) (r : Option ℕ) (a : After) → Accepted (conclude g r a).answer → conclude g r a ≡ a
unfolding conclude
concluded g r a f = ap (λ (o : Option ℕ). conclude g o a) (accepted-none g r a f)

-- a call that is not refused answers as its plan
pub call-answer : (g : Given) (k : Call) → Accepted (call g k).answer → (call g k).answer ≡ (plan_in g k).answer
unfolding call
call-answer g k f = ap (λ (x : After). x.answer) (concluded g _ _ f)

accepted-recovery-none : (p : List ℕ) (x : Recovery) (r : Option ℕ) (a : RecoveryAfter) → Accepted (conclude_recovery p x r a).answer → r ≡ none
unfolding conclude_recovery is_refused
accepted-recovery-none p x none a f = refl
accepted-recovery-none p x (some n) a f = absurd (let z : ◌≡◌ {A = ℕ} 0 1 = cc in omega arith)

pub start_none : (g : Given) → Accepted (commit_start g).answer → first (record_tests g ++ live_tests g) ≡ none
unfolding commit_start
start_none g f = accepted-none g _ _ f

pub step-none : (g : Given) → Accepted (commit_step g).answer → first (commit_tests g) ≡ none
unfolding commit_step
step-none g f = accepted-none g _ _ f

pub recover-none : (p : List ℕ) → Accepted (recovery_start p).answer → first (open_tests p) ≡ none
unfolding recovery_start
recover-none p f = accepted-recovery-none p _ _ _ f

pub again-none : (p : List ℕ) (r : Recovery) → Accepted (recovery_step p r).answer → first (recovery_tests p r) ≡ none
unfolding recovery_step
again-none p r f = accepted-recovery-none p r _ _ f

-- with k steps made, a recovery is possible
pub record Possible (sh : Shape) (p : List ℕ) (w : Remedy) (k : ℕ) : Type 0 where
  pub count : count_above w ≡ false
  pub place : k < length (recovery_steps sh p w)
  pub log : log_lost sh p w k ≡ false

pub recovery-possible : (sh : Shape) (p : List ℕ) (w : Remedy) (f : Progress) → is_recovering f ≡ true → impossible_recovery sh p w f ≡ false → Possible sh p w (done_steps f)
unfolding impossible_recovery
recovery-possible sh p w f i e =
    let k : ℕ = done_steps f in
    let n : ℕ = length (recovery_steps sh p w) in
    let a = or-false (count_above w) _ e in
    let b : (true && (not (ltb k n) || log_lost sh p w k)) ≡ false = rw i at a.1 in
    let c = or-false (not (ltb k n)) (log_lost sh p w k) b in
    record { count = a.0; place = ltb-true k n (not-not (ltb k n) c.0); log = c.1 }

pub again-possible : (p : List ℕ) (r : Recovery) → first (recovery_tests p r) ≡ none
    → Passed (open_tests p) × (is_recovering r.phase ≡ true) × Possible (shape_in p) p r.work (done_steps r.phase) × (r.id ≡ id_in p)
unfolding recovery_tests
again-possible p r e =
    let t = first-passed _ e in
    let q = passed-right (open_tests p) _ t in
    let i = not-not (is_recovering r.phase) q.1.1.0 in
    (passed-left (open_tests p) _ t, i, recovery-possible (shape_in p) p r.work r.phase i q.0, eqb-true r.id (id_in p) (not-not (eqb r.id (id_in p)) q.1.0))

-- the step is one of its list, which has at most 259
pub again-inside : (p : List ℕ) (r : Recovery) → first (recovery_tests p r) ≡ none → (done_steps r.phase < length (recovery_list p r)) × (length (recovery_list p r) ≤ 259)
unfolding recovery_list
again-inside p r e = let q = (again-possible p r e).2 in (q.place, recovery-few (shape_in p) p r.work q.count)

-- what the record is then
pub start_left : (g : Given) → first (record_tests g ++ live_tests g) ≡ none → (commit_start g).left.txn ≡ with_phase g.txn (start_phase g.txn.count)
unfolding commit_start conclude
start_left g e = rw e

pub step_left : (g : Given) → Accepted (commit_step g).answer → (commit_step g).left.txn ≡ with_phase g.txn (next_phase (place_in g.txn.phase) (length (commit_list g)))
unfolding commit_step conclude
step_left g f = rw (step-none g f)

pub again-left : (p : List ℕ) (r : Recovery) → Accepted (recovery_step p r).answer
    → (recovery_step p r).recovery ≡ with_progress r (next_progress (done_steps r.phase) (length (recovery_list p r)))
unfolding recovery_step conclude_recovery
again-left p r f = rw (again-none p r f)

pub next-is : (g : Given) (k : ℕ) (l : List Step) → g.txn.phase ≡ committing k → commit_list g ≡ l → commit_next g ≡ get_or l k barrier
unfolding commit_next place_in
next-is g k l e m = ap₂ (λ (l : List Step) (j : ℕ). get_or l j barrier) m (ap place_in e)

pub place_is : (f : Phase) (k : ℕ) → f ≡ committing k → place_in f ≡ k
unfolding place_in
place_is f k e = ap place_in e

pub again-next : (p : List ℕ) (r : Recovery) (k : ℕ) (l : List Step) → r.phase ≡ recovering k → recovery_list p r ≡ l → recovery_next p r ≡ get_or l k barrier
unfolding recovery_next done_steps
again-next p r k l e m = ap₂ (λ (l : List Step) (j : ℕ). get_or l j barrier) m (ap done_steps e)

pub list-is : (p : List ℕ) (r : Recovery) (sh : Shape) → shape_in p ≡ sh → recovery_list p r ≡ recovery_steps sh p r.work
unfolding recovery_list
list-is p r sh e = ap (λ (x : Shape). recovery_steps x p r.work) e

pub done-is : (f : Progress) (k : ℕ) → f ≡ recovering k → done_steps f ≡ k
unfolding done_steps
done-is f k e = ap done_steps e

-- ---- and when an answer is no refusal

pub start-not-refused : (n : ℕ) → is_refused (start_answer n) ≡ false
unfolding is_refused start_answer
start-not-refused zero = refl
start-not-refused (suc n) = refl

pub answer-not-refused : (k n : ℕ) (x : Step) → is_refused (step_answer k n x) ≡ false
unfolding is_refused step_answer
answer-not-refused k n x = split (eqb (suc k) n) (λ e. rw e) (λ e. rw e (made-not-refused x))
  where
    made-not-refused : (x : Step) → is_refused (made_answer (suc k) x) ≡ false
    made-not-refused (store e) = unfold made_answer in refl
    made-not-refused (parity e) = unfold made_answer in refl
    made-not-refused barrier = unfold made_answer in refl

pub accepted-start : (g : Given) → Passed (record_tests g ++ live_tests g) → Accepted (commit_start g).answer
unfolding commit_start conclude
accepted-start g p = rw (passed_first (record_tests g ++ live_tests g) p) (start-not-refused g.txn.count)

pub accepted-step : (g : Given) → Passed (commit_tests g) → Accepted (commit_step g).answer × ((commit_step g).left.pool ≡ step_pool (shape_in g.pool) (commit_next g) g.pool)
unfolding commit_step conclude
accepted-step g p =
    let e = passed_first (commit_tests g) p in
    (rw e (answer-not-refused (place_in g.txn.phase) (length (commit_list g)) (commit_next g)), rw e)

recovery-not-refused : (p : List ℕ) (q : Remedy) → q ≢ neither → is_refused (start_recovery p q).answer ≡ false
unfolding start_recovery is_refused
recovery-not-refused p (replay l n) h = refl
recovery-not-refused p clear h = refl
recovery-not-refused p nothing h = refl
recovery-not-refused p neither h = absurd (h refl)

pub accepted-recovery : (p : List ℕ) → Passed (open_tests p) → remedy (shape_in p) p ≢ neither
    → Accepted (recovery_start p).answer × ((recovery_start p).recovery ≡ (start_recovery p (remedy (shape_in p) p)).recovery)
unfolding recovery_start conclude_recovery
accepted-recovery p o h =
    let t : first (open_tests p) ≡ none = passed_first (open_tests p) o in
    (rw t (recovery-not-refused p (remedy (shape_in p) p) h), rw t)

pub accepted-again : (p : List ℕ) (r : Recovery) → Passed (recovery_tests p r) → Accepted (recovery_step p r).answer × ((recovery_step p r).pool ≡ step_pool (shape_in p) (recovery_next p r) p)
unfolding recovery_step conclude_recovery
accepted-again p r o =
    let e = passed_first (recovery_tests p r) o in
    (rw e (answer-not-refused (done_steps r.phase) (length (recovery_list p r)) (recovery_next p r)), rw e)

pub not-impossible : (sh x : Shape) (es : List Store) (st : List ℕ) (n : ℕ) (f : Phase) → x ≡ sh → entries_at st 0 n ≡ es → n ≤ entry_limit → past_commit n f ≡ false → good_targets sh es ≡ true
    → impossible x st n f ≡ false
unfolding impossible
not-impossible sh x es st n f q e k p g = rw (le-ltb entry_limit n k, p) (ap₂ (λ (y : Shape) (l : List Store). not (good_targets y l)) q e ∙ ap not g)

-- a log is not lost where it is not judged, or still valid with its count
pub log-past : (sh : Shape) (p : List ℕ) (l : Log) (n k : ℕ) → ltb k (2 * n + 2) ≡ false → log_lost sh p (replay l n) k ≡ false
unfolding log_lost
log-past sh p l n k i = rw i

pub log-there : (sh : Shape) (p : List ℕ) (l : Log) (n k : ℕ) → ltb k (2 * n + 2) ≡ true → valid sh p (log_at sh l) ≡ true → count_in (word p (log_at sh l)) ≡ n → log_lost sh p (replay l n) k ≡ false
unfolding log_lost
log-there sh p l n k i v c = rw (i, v, eq-eqb (count_in (word p (log_at sh l))) n c)

pub count_small : (n : ℕ) (l : Log) → n ≤ entry_limit → count_above (replay l n) ≡ false
unfolding count_above
count_small n l h = le-ltb entry_limit n h

pub again-passed : (p : List ℕ) (r : Recovery) (k : ℕ) → Passed (open_tests p) → r.phase ≡ recovering k → count_above r.work ≡ false → k < length (recovery_list p r)
    → log_lost (shape_in p) p r.work k ≡ false → r.id ≡ id_in p → Passed (recovery_tests p r)
unfolding recovery_tests impossible_recovery is_recovering done_steps recovery_list
again-passed p r k o e a i d b =
    passed-join (open_tests p) _ o (rw (a, e, lt-ltb k (length (recovery_steps (shape_in p) p r.work)) i, d), (rw (eq-eqb r.id (id_in p) b), (rw e, tt)))

-- the phase after a step
pub progress-end : (k n : ℕ) → eqb (suc k) n ≡ true → next_progress k n ≡ finished
unfolding next_progress
progress-end k n e = rw (e, next_progress)

pub progress-on : (k n : ℕ) → eqb (suc k) n ≡ false → next_progress k n ≡ recovering (suc k)
unfolding next_progress
progress-on k n e = rw (e, next_progress)

pub phase-end : (k n : ℕ) → eqb (suc k) n ≡ true → next_phase k n ≡ closed
unfolding next_phase
phase-end k n e = rw (e, next_phase)

pub phase-on : (k n : ℕ) → eqb (suc k) n ≡ false → next_phase k n ≡ committing (suc k)
unfolding next_phase
phase-on k n e = rw (e, next_phase)
