-- A commit up to the next barrier (`commit_on`), for all inputs: only its first step can be refused, and it makes all steps of the part that are
-- left, and no other (`commit-advances`). Assumes nothing.
use Prim.Native.Nat.{ℕ, zero, suc, ◌+◌, ◌*◌, ◌≤◌, ◌<◌}
use mathlib.Core.Path.{◌≡◌, refl, sym, ap, ap₂, ◌∙◌, subst}
use mathlib.Core.Logic.{⊎_elim}
use mathlib.Core.Bool.{true, false}
use mathlib.Core.Option.{none}
use mathlib.Core.List.{List}
use native.Mathlib.Nat.{eq-or-lt_of_le}
use native.Mathlib.Omega.{arith}
use lib.Dec.{eqb, ltb}
use lib.ListN.{length, get_or}
use borrow.Author.Tests.{eq-eqb, eqb-true, leb-false, lt-leb, ltb-false, ne_eqb}
use Rattle.rules.specs.Shape.{Shape, entry_limit, staging_size}
use Rattle.rules.specs.Test.{first}
use Rattle.rules.specs.Header.{id_in, open_tests, shape_in}
use Rattle.rules.specs.Staging.{Phase, closed, commit_length, committing, entries_at, good_targets, impossible, live, past_commit, with_phase}
use Rattle.rules.specs.Answer.{After, Answer, Given, conclude, is_refused, stored}
use Rattle.rules.specs.Calls.{entries_in, record_tests}
use Rattle.rules.proofs.Bool.{or-false, split}
use Rattle.rules.proofs.Test.{Passed, first-passed, not-not, passed_first, passed-join, passed-left, passed-right}
use Rattle.rules.proofs.Header.{SameHeaders, id_same, passed-good, shape_same, tests_same}
use Rattle.rules.proofs.Transaction.{entries-count}
use Rattle.powercut.specs.Steps.{Step, barrier, commit_steps, step_pool, steps_made}
use Rattle.powercut.specs.Commit.{commit_list, commit_more, commit_next, commit_on, commit_step, commit_tests, is_committing, is_stored, next_phase, place_in, step_answer}
use Rattle.powercut.specs.WholeRun.{Accepted}
use Rattle.powercut.specs.Requirements.{KeepsGiven}
use Rattle.powercut.specs.Advance.{CommitAdvances, between, commit_barrier, commit_made}
use Rattle.powercut.proofs.Between.{made-here, made-next}
use Rattle.powercut.proofs.Parts.{answer-barrier, answer-stored, commit-ends, commit-high, commit-low, commit-stays, commit-store}
use Rattle.powercut.proofs.Answers.{answer-not-refused, not-impossible, phase-on, place_is, step-none}
use Rattle.powercut.proofs.RunMatches.{commit-some, list_length}
use Rattle.powercut.proofs.Untouched.{commit-from, headers-untouched, step-untouched}
use Rattle.powercut.proofs.Refusals.{refused-is, step-refused}

-- ---- at most m steps more

more-stops : (m : ℕ) (x : After) → is_stored x.answer ≡ false → commit_more m x ≡ x
unfolding commit_more
more-stops zero x h = refl
more-stops (suc m) x h = rw h

more-goes : (m : ℕ) (x : After) → is_stored x.answer ≡ true → commit_more (suc m) x ≡ commit_more m (commit_step x.left)
unfolding commit_more
more-goes m x h = rw h

-- ---- what an accepted step tells

record Committing (g : Given) (k : ℕ) : Type 0 where
  phase : g.txn.phase ≡ committing k
  opens : Passed (open_tests g.pool)
  room : ltb (length g.staging) staging_size ≡ false
  few : g.txn.count ≤ entry_limit
  inside : k < commit_length g.txn.count
  targets : good_targets (shape_in g.pool) (entries_in g) ≡ true
  id : g.txn.id ≡ id_in g.pool

pub accepted-place : (g : Given) → Accepted (commit_step g).answer → (k : ℕ) × (g.txn.phase ≡ committing k)
unfolding commit_tests
accepted-place g f = go g.txn.phase (not-not (is_committing g.txn.phase) (passed-right (record_tests g) _ (first-passed (commit_tests g) (step-none g f))).0)
  where
    go : (p : Phase) → is_committing p ≡ true → (k : ℕ) × (p ≡ committing k)
    go live h = unfold is_committing in (0, cc)
    go (committing k) h = (k, refl)
    go closed h = unfold is_committing in (0, cc)

accepted-committing : (g : Given) (k : ℕ) → g.txn.phase ≡ committing k → Accepted (commit_step g).answer → Committing g k
unfolding commit_tests record_tests impossible entries_in
accepted-committing g k e f =
    let r = passed-left (record_tests g) _ (first-passed (commit_tests g) (step-none g f)) in
    let q = passed-right (open_tests g.pool) _ r in
    let a = or-false (ltb entry_limit g.txn.count) _ q.1.0 in
    let b = or-false (past_commit g.txn.count g.txn.phase) _ a.1 in
    record {
      phase = e;
      opens = passed-left (open_tests g.pool) _ r;
      room = q.0;
      few = ltb-false entry_limit g.txn.count a.0;
      inside = leb-false (commit_length g.txn.count) k (unfold past_commit in (rw e at b.0));
      targets = not-not (good_targets (shape_in g.pool) (entries_at g.staging 0 g.txn.count)) b.1;
      id = eqb-true g.txn.id (id_in g.pool) (not-not (eqb g.txn.id (id_in g.pool)) q.1.1.0);
    }

-- ---- a step

abbrev sh : Given → Shape
sh g = shape_in g.pool

abbrev step_at : Given → ℕ → Step
step_at g k = get_or (commit_list g) k barrier

-- after a call on g: the answer, the pool and the phase
abbrev after : Given → Answer → List ℕ → Phase → After
after g a p f = record { answer = a; left = record { pool = p; staging = g.staging; txn = with_phase g.txn f } }

-- what the step after step k + 1 is given
abbrev next : Given → ℕ → Given
next g k = record { pool = step_pool (sh g) (step_at g k) g.pool; staging = g.staging; txn = with_phase g.txn (committing (suc k)) }

module _ (g : Given) (k : ℕ) (c : Committing g k) where
  abbrev n : ℕ
  n = g.txn.count

  abbrev m : ℕ
  m = length (commit_list g)

  -- how many steps stand before the part's barrier
  abbrev e : ℕ
  e = commit_barrier n k

  count-is : length (entries_in g) ≡ n
  unfolding entries_in
  count-is = entries-count g.staging 0 n

  some : 0 < length (entries_in g)
  some = let a = (commit-some n k c.inside).0 in let b = count-is in omega arith

  list-is : m ≡ commit_length n
  unfolding commit_list
  list-is = list_length (sh g) (entries_in g) ∙ ap commit_length count-is

  long : m ≡ 6 * n + 9
  long = list-is ∙ (commit-some n k c.inside).1

  in_list : k < m
  in_list = let a = list-is in let l = c.inside in omega arith

  low : k ≤ e
  low = commit-low n k (let a = in_list in let b = long in omega arith)

  high : e < m
  high = let a = commit-high n k in let b = long in omega arith

  same_end : commit_barrier (length (entries_in g)) k ≡ e
  same_end = ap (λ (n : ℕ). commit_barrier n k) count-is

  -- the headers stay, so the next step meets the same shape and the same list
  next-headers : SameHeaders (next g k).pool g.pool
  unfolding commit_list
  next-headers =
      headers-untouched g.pool (next g k).pool c.opens
      (step-untouched (sh g) _ (step_at g k) g.pool (commit-from (sh g) (passed-good g.pool c.opens) (entries_in g) c.targets k))

  next-shape : sh (next g k) ≡ sh g
  next-shape = shape_same (next g k).pool g.pool next-headers

  next-list : commit_list (next g k) ≡ commit_list g
  unfolding commit_list entries_in
  next-list = ap (λ (s : Shape). commit_steps s (entries_in g)) next-shape

  next-committing : suc k < m → Committing (next g k) (suc k)
  unfolding entries_in
  next-committing l = record {
    phase = refl;
    opens = subst Passed (sym (tests_same (next g k).pool g.pool next-headers)) c.opens;
    room = c.room;
    few = c.few;
    inside = let a = list-is in omega arith;
    targets = ap (λ (s : Shape). good_targets s (entries_in g)) next-shape ∙ c.targets;
    id = c.id ∙ sym (id_same (next g k).pool g.pool next-headers);
  }

  module _ (o : first (commit_tests g) ≡ none) where
    step_is : commit_step g ≡ after g (step_answer k m (step_at g k)) (step_pool (sh g) (step_at g k) g.pool) (next_phase k m)
    unfolding commit_step conclude commit_next
    step_is = rw (o, place_is g.txn.phase k c.phase)

    -- the part's barrier is the last step made
    last_made : (i : ℕ) → k ≡ e → commit_more i (commit_step g) ≡ commit_made g k e
    unfolding commit_list commit_made
    last_made i q =
        let h : step_at g k ≡ barrier = ap (step_at g) (q ∙ sym same_end) ∙ commit-ends (sh g) (entries_in g) some k in
        let p = made-next (sh g) k (suc k) (commit_list g) g.pool (omega arith) in_list ∙ made-here (sh g) (suc k) (commit_list g) _ in
        more-stops i (commit_step g) (ap (λ (y : After). is_stored y.answer) step_is ∙ ap (λ (y : Step). is_stored (step_answer k m y)) h ∙ answer-barrier k m)
        ∙ step_is
        ∙ ap₂ (λ (y : Step) (p : List ℕ). after g (step_answer k m y) p (next_phase k m)) h (sym p)
        ∙ ap (commit_made g k) q

    -- a store before it is followed by the next step
    store-made : (i : ℕ) → k < e → commit_more (suc i) (commit_step g) ≡ commit_more i (commit_step (next g k))
    unfolding commit_list
    store-made i q =
        let h = commit-store (sh g) (entries_in g) some k (let a = same_end in omega arith) in
        let l : suc k < m = (let a = high in omega arith) in
        more-goes i (commit_step g) (ap (λ (y : After). is_stored y.answer) step_is ∙ answer-stored k m (step_at g k) l h)
        ∙ ap (λ (y : After). commit_more i (commit_step y.left)) step_is
        ∙ ap (λ (f : Phase). commit_more i (commit_step (after g (stored k) (next g k).pool f).left)) (phase-on k m (ne_eqb (suc k) m (λ d. omega arith)))

  next-made : k < e → commit_made (next g k) (suc k) (commit_barrier n (suc k)) ≡ commit_made g k e
  unfolding commit_made
  next-made q =
      ap (commit_made (next g k) (suc k)) (commit-stays n k q)
      ∙ ap₂ (λ (l : List Step) (s : Shape). after g (step_answer e (length l) barrier) (steps_made s (between (suc k) (suc e) l) (next g k).pool) (next_phase e (length l))) next-list next-shape
      ∙ ap (λ (p : List ℕ). after g (step_answer e m barrier) p (next_phase e m)) (sym (made-next (sh g) k (suc e) (commit_list g) g.pool (omega arith) in_list))

-- ---- all steps up to the barrier

-- from the second step on no test refuses
later-passes : (g : Given) (k : ℕ) → Committing g (suc k) → first (commit_tests g) ≡ none
unfolding commit_tests record_tests entries_in is_committing place_in past_commit
later-passes g k c =
    let past : past_commit g.txn.count g.txn.phase ≡ false = rw c.phase (lt-leb (commit_length g.txn.count) (suc k) c.inside) in
    let possible = not-impossible (sh g) (sh g) (entries_in g) g.staging g.txn.count g.txn.phase refl refl c.few past c.targets in
    passed_first (commit_tests g)
    (passed-join (record_tests g) _ (passed-join (open_tests g.pool) _ c.opens (c.room, (possible, (rw (eq-eqb g.txn.id (id_in g.pool) c.id), tt)))) (rw c.phase, (rw (c.phase, ne_eqb (suc k) 0 (λ e. omega arith)), tt)))

all_made : (i k : ℕ) (g : Given) (c : Committing g k) → first (commit_tests g) ≡ none → i + suc k ≡ length (commit_list g) → commit_more i (commit_step g) ≡ commit_made g k (e g k c)
all_made zero k g c o l = last_made g k c o 0 (let a = low g k c in let b = high g k c in omega arith)
all_made (suc i) k g c o l = ⊎_elim (last_made g k c o (suc i))
    (λ q. let h = next-committing g k c (let a = high g k c in omega arith) in
    store-made g k c o i q
    ∙ all_made i (suc k) (next g k) h (later-passes (next g k) k h) (let a = ap length (next-list g k c) in omega arith)
    ∙ next-made g k c q) (eq-or-lt_of_le (low g k c))

-- THE CALL UP TO THE NEXT BARRIER
pub commit-advances : (g : Given) → CommitAdvances g
unfolding commit_on is_refused is_stored
commit-advances g = record {
  refuses = λ n e. more-stops _ (commit_step g) (ap is_stored e) ∙ ap₂ (λ (a : Answer) (h : Given). record { answer = a; left = h }) e (step-refused g (ap is_refused e));
  makes = λ k e f.
      let c = accepted-committing g k e f in
      all_made _ k g c (step-none g f) (let a = in_list g k c in let b = place_is g.txn.phase k e in omega arith);
}

made-accepted : (g : Given) (k e : ℕ) → Accepted (commit_made g k e).answer
unfolding commit_made
made-accepted g k e = answer-not-refused e (length (commit_list g)) barrier

-- the call is accepted where its first step is
pub commit-on-accepted : (g : Given) → Accepted (commit_on g).answer → Accepted (commit_step g).answer
unfolding is_refused
commit-on-accepted g f = split (is_refused (commit_step g).answer)
    (λ h. let w = refused-is (commit_step g).answer h in
    let e = ap (λ (x : After). is_refused x.answer) ((commit-advances g).refuses w.0 w.1) in
    let z : ◌≡◌ {A = ℕ} 0 1 = cc in
    absurd (omega arith))
    (λ h. h)

-- a refused call leaves pool, staging and record as given
pub commit-on-refused : (g : Given) → KeepsGiven g (commit_on g)
commit-on-refused g r = split (is_refused (commit_step g).answer)
    (λ h. let w = refused-is (commit_step g).answer h in ap (λ (x : After). x.left) ((commit-advances g).refuses w.0 w.1))
    (λ f. let w = accepted-place g f in
    let a = ap (λ (x : After). is_refused x.answer) ((commit-advances g).makes w.0 w.1 f) in
    let b = made-accepted g w.0 (commit_barrier g.txn.count w.0) in
    let z : ◌≡◌ {A = ℕ} 0 1 = cc in
    absurd (omega arith))
