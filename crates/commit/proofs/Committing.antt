-- The ways out of a commit's start, of its step, and of all steps up to the next barrier. Assumes nothing.
use Prim.Native.Nat.{ℕ, zero, suc, ◌+◌, ◌*◌, ◌≤◌, ◌<◌}
use mathlib.Core.Path.{◌≡◌, refl, sym, ap, ◌∙◌}
use mathlib.Core.Bool.{Bool, true, false}
use mathlib.Core.Option.{none, some}
use mathlib.Core.List.{List}
use Rattle.std.proofs.Common.{Ok}
use native.Mathlib.Numerals.{add-one}
use native.Mathlib.Omega.{arith}
use lib.Dec.{eqb}
use lib.ListN.{length, get_or}
use borrow.Author.Tests.{eq-eqb, leb-false, ne_eqb}
use Rattle.rules.specs.Shape.{Shape as PoolShape, entry_limit}
use Rattle.rules.specs.Header.{shape_in}
use Rattle.rules.specs.Test.{first}
use Rattle.rules.specs.Seals.{unsealed}
use Rattle.rules.specs.Staging.{commit_length, committing, entries_at, past_commit, with_phase}
use Rattle.rules.specs.Answer.{After, Given, conclude, refused}
use Rattle.rules.specs.Calls.{entries_in, record_tests}
use Rattle.rules.proofs.Bool.{split}
use Rattle.rules.proofs.Test.{first-right}
use Rattle.rules.proofs.Transaction.{entries-count}
use Rattle.powercut.specs.Steps.{Step, barrier, commit_steps, step_pool}
use Rattle.powercut.specs.Commit.{commit_list, commit_next, commit_on, commit_step, commit_tests, is_committing, made_answer, next_phase, place_in, step_answer}
use Rattle.powercut.specs.Advance.{commit_barrier, commit_made}
use Rattle.powercut.specs.WholeRun.{Accepted}
use Rattle.powercut.proofs.CommitOn.{commit-advances}
use Rattle.powercut.proofs.Answers.{answer-not-refused}
use Rattle.answers.specs.declared.Answer.TheVariants.{Done, Started}
use Rattle.powercut.proofs.RunMatches.{list_length}
use Rattle.layout.specs.Meaning.{good, opened}
use Rattle.pool_log.specs.Targets.{read}
use Rattle.actions.specs.declared.Action.{Action}
use Rattle.actions.specs.declared.Action.TheVariants.{Barrier}
use Rattle.actions.specs.Actions as Steps
use Rattle.actions.specs.Parts.{PartMade}
use Rattle.actions.proofs.Steps.{commit-step, computed-answer, computed-pool, ready-staged, told-answer}
use Rattle.record.specs.declared.Phase as Code
use Rattle.record.specs.declared.Phase.TheVariants.{Closed, Committing, Open}
use Rattle.record.specs.declared.Record.{Record}
use Rattle.record.specs.Meaning.{given, in_phase, phase_of}
use Rattle.record.proofs.Judging.{record-passed, record-possible, record-room, record-shape, record-shaped}
use Rattle.commit.specs.declared.Stepped.{Stepped}
use Rattle.commit.specs.Stepped.{after_of, started_with, stepped_to, turn_tests}

-- ---- the start

module _ (t : Record) where
  pub start_none : t.count ≡ 0 → record { answer = Done 0; txn = in_phase t Closed } ≡ started_with t
  unfolding started_with
  start_none e = rw (eq-eqb t.count 0 e)

  pub start-some : (t.count ≡ 0 → ⊥) → record { answer = Started; txn = in_phase t (Committing 0) } ≡ started_with t
  unfolding started_with
  start-some e = rw (ne_eqb t.count 0 e)

-- ---- what a step answers

module _ (t : Record) (a : Action) (k n : ℕ) where
  pub told-last : k ≡ n → record { answer = Done n; txn = in_phase t Closed } ≡ stepped_to t a k n
  unfolding stepped_to
  told-last e = rw (eq-eqb k n e)

  pub told_more : (k ≡ n → ⊥) → record { answer = Steps.told_of k a; txn = in_phase t (Committing k) } ≡ stepped_to t a k n
  unfolding stepped_to
  told_more e = rw (ne_eqb k n e)

-- ---- the number of steps

pub entry-there : (n : ℕ) {k : ℕ} → k < commit_length n → 1 ≤ n
unfolding commit_length
entry-there zero h = absurd (omega arith)
entry-there (suc n) h = omega arith

pub steps-few : (n : ℕ) → n ≤ entry_limit → commit_length n ≤ 771
unfolding commit_length
steps-few zero h = omega arith
steps-few (suc n) h = omega arith

-- ---- the step made, and the part made

list-is : (sh : PoolShape) (st : List ℕ) (n : ℕ) {N : ℕ} → N ≡ commit_length n → N ≡ length (commit_steps sh (entries_at st 0 n))
list-is sh st n f = f ∙ ap commit_length (sym (entries-count st 0 n)) ∙ sym (list_length sh (entries_at st 0 n))

-- step suc k of the commit of the entries staged, made
unfoldable made_of : PoolShape → Given → ℕ → After
made_of sh g k =
    let xs : List Step = commit_steps sh (entries_at g.staging 0 g.txn.count) in
    let x : Step = get_or xs k barrier in
    record {
      answer = step_answer k (length xs) x;
      left = record { pool = step_pool sh x g.pool; staging = g.staging; txn = with_phase g.txn (next_phase k (length xs)) };
    }

module _ (sh : PoolShape) (p st : List ℕ) (t : Record) (k : ℕ) where
  made : (a : Action) (q : List ℕ) (r : Stepped) (m N : ℕ) → Steps.Computed (Steps.commit_action sh p st t.count k) m a → q ≡ Steps.applied a p → N ≡ commit_length t.count
      → r ≡ stepped_to t a (k + 1) N → after_of t (Ok r) q st ≡ made_of sh (given p st t) k
  unfolding made_of stepped_to step_answer next_phase
  made a q r m N c e f h =
      let x : Step = get_or (commit_steps sh (entries_at st 0 t.count)) k barrier in
      let l : N ≡ length (commit_steps sh (entries_at st 0 t.count)) = list-is sh st t.count f in
      rw (h, e, add-one k, computed-pool sh p x _ a m c (commit-step sh p st t.count k), ← l)
      (split (eqb (suc k) N) (λ y. rw y) (λ y. rw (y, told-answer (suc k) a, computed-answer sh p x _ a m (suc k) c (commit-step sh p st t.count k))))

  part-made : (q : List ℕ) (r : Stepped) (m u N : ℕ) → shape_in p ≡ sh → PartMade sh (commit_steps sh (read st 0 t.count)) k (commit_barrier t.count k) p q m
      → u ≡ m → N ≡ commit_length t.count → r ≡ stepped_to t Barrier u N → after_of t (Ok r) q st ≡ commit_made (given p st t) k (commit_barrier t.count k)
  unfolding commit_made commit_list entries_in read stepped_to step_answer next_phase made_answer
  part-made q r m u N d c v f h =
      let e : ℕ = commit_barrier t.count k in
      let l : N ≡ length (commit_steps sh (entries_at st 0 t.count)) = list-is sh st t.count f in
      rw (h, c.bytes, v ∙ c.number, d, ← l) (split (eqb (suc e) N) (λ y. rw y) (λ y. rw y))

pub commit-there : (n : ℕ) {k : ℕ} → k < commit_length n → k < 6 * n + 9
unfolding commit_length
commit-there zero h = absurd (omega arith)
commit-there (suc n) h = h

-- ---- where a commit goes on

module _ (sh : PoolShape) (p : List ℕ) where
  pub turn-else : (f : Code.Phase) → ((k : ℕ) → f ≡ Committing k → ⊥) → some 29 ≡ first (turn_tests sh p (phase_of f))
  unfolding turn_tests first is_committing
  turn-else Open h = refl
  turn-else (Committing k) h = absurd (h k refl)
  turn-else Closed h = refl

  module _ {f : Code.Phase} {k : ℕ} (e : f ≡ Committing k) {x : Bool} (u : x ≡ unsealed sh p) where
    pub turn-sealed : k ≡ 0 → x ≡ false → some 21 ≡ first (turn_tests sh p (phase_of f))
    unfolding turn_tests first is_committing place_in
    turn-sealed z w = rw (e, ← u, w, eq-eqb k 0 z)

    pub turn-unsealed : x ≡ true → none ≡ first (turn_tests sh p (phase_of f))
    unfolding turn_tests first is_committing place_in
    turn-unsealed w = rw (e, ← u, w) (split (eqb k 0) (λ y. rw y) (λ y. rw y))

  pub turn-later : {f : Code.Phase} {k : ℕ} → f ≡ Committing k → (k ≡ 0 → ⊥) → none ≡ first (turn_tests sh p (phase_of f))
  unfolding turn_tests first is_committing place_in
  turn-later {k = k} e z = rw (e, ne_eqb k 0 z)

-- ---- a step, or all up to the next barrier, on a record that was judged

module _ (g : Given) {sh : PoolShape} (o : opened g.pool ≡ good sh) (e : first (record_tests g) ≡ none) where
  judged : first (commit_tests g) ≡ first (turn_tests sh g.pool g.txn.phase)
  unfolding commit_tests turn_tests
  judged = first-right (record_tests g) _ (record-passed g o e) ∙ rw (record-shape g o e)

  pub step-ready : Steps.Ready sh g.pool g.staging 0 g.txn.count 0
  step-ready = let h = record-possible g o e in ready-staged sh g.pool (record-shaped g o e).size g.staging g.txn.count 0 h.0 (record-room g o e) h.2

  module _ (n : ℕ) (q : some n ≡ first (turn_tests sh g.pool g.txn.phase)) where
    pub step-refused : record { answer = refused n; left = g } ≡ commit_step g
    unfolding commit_step conclude
    step-refused = rw (judged ∙ sym q)

    pub advance-refused : record { answer = refused n; left = g } ≡ commit_on g
    advance-refused = sym ((commit-advances g).refuses n (ap (λ (y : After). y.answer) (sym step-refused)))

  module _ {k : ℕ} (q : none ≡ first (turn_tests sh g.pool g.txn.phase)) (f : g.txn.phase ≡ committing k) where
    pub step-within : k < commit_length g.txn.count
    unfolding past_commit
    step-within = let h : past_commit g.txn.count g.txn.phase ≡ false = (record-possible g o e).1 in leb-false (commit_length g.txn.count) k (rw f at h)

    step-is : made_of sh g k ≡ commit_step g
    unfolding commit_step conclude commit_list commit_next entries_in made_of place_in
    step-is = rw (judged ∙ sym q, f, ← (record-shape g o e))

    accepted : Accepted (commit_step g).answer
    unfolding commit_step conclude
    accepted = rw (judged ∙ sym q) (answer-not-refused (place_in g.txn.phase) (length (commit_list g)) (commit_next g))

    advance-is : commit_made g k (commit_barrier g.txn.count k) ≡ commit_on g
    advance-is = sym ((commit-advances g).makes k f accepted)

-- the same where the code made them
module _ (p st : List ℕ) (t : Record) {sh : PoolShape} (o : opened p ≡ good sh) (e : first (record_tests (given p st t)) ≡ none) {k : ℕ}
    (j : none ≡ first (turn_tests sh p (phase_of t.phase))) (f : phase_of t.phase ≡ committing k) where
  pub step-made : (a : Action) (q : List ℕ) (r : Stepped) (m N : ℕ) → Steps.Computed (Steps.commit_action sh p st t.count k) m a → q ≡ Steps.applied a p → N ≡ commit_length t.count
      → r ≡ stepped_to t a (k + 1) N → after_of t (Ok r) q st ≡ commit_step (given p st t)
  step-made a q r m N c d l h = made sh p st t k a q r m N c d l h ∙ step-is (given p st t) o e j f

  pub advance-made : (q : List ℕ) (r : Stepped) (m N : ℕ) → PartMade sh (commit_steps sh (read st 0 t.count)) k (commit_barrier t.count k) p q m
      → N ≡ commit_length t.count → r ≡ stepped_to t Barrier m N → after_of t (Ok r) q st ≡ commit_on (given p st t)
  advance-made q r m N c l h = part-made sh p st t k q r m m N (sym (record-shape (given p st t) o e)) c refl l h ∙ advance-is (given p st t) o e j f
