-- Every run of specs/WholeRun is a run by step numbers (`run-matches`): each answer that is no refusal makes exactly the step that the list
-- has next, and at every moment the pool opens with the shape of the start. Of a sound pool and typed calls (`Input`). Assumes nothing else.
use mathlib.Core.Path.{◌≡◌, refl, sym, ap, ap₂, ◌∙◌, subst}
use mathlib.Core.Logic.{inl, inr, ⊎_elim}
use mathlib.Core.Bool.{true, false}
use mathlib.Core.Option.{none}
use mathlib.Core.List.{List, [], ◌∷◌, ◌++◌}
use Prim.Native.Nat.{ℕ, zero, suc, ◌+◌, ◌*◌, ◌≤◌, ◌<◌}
use native.Mathlib.Nat.{zero-lt-suc}
use native.Mathlib.Omega.{arith}
use lib.Dec.{eqb}
use lib.ListN.{length, get_or}
use borrow.Author.Tests.{eqb-true, eqb-false, ltb-false}
use Rattle.rules.specs.Shape.{Shape, log_a, staging_size}
use Rattle.rules.specs.Test.{first}
use Rattle.rules.specs.Header.{id_in, open_tests, shape_in}
use Rattle.rules.specs.Staging.{Phase, Store, Transaction, closed, commit_length, committing, entries_at, is_live, live, with_phase}
use Rattle.rules.specs.Answer.{Given}
use Rattle.rules.specs.Plan.{Call}
use Rattle.rules.specs.Calls.{entries_in, live_tests, record_tests}
use Rattle.rules.proofs.Bool.{split}
use Rattle.rules.proofs.Test.{Passed, first-passed, not-not, passed-left, passed-right}
use Rattle.powercut.specs.Steps.{Remedy, Step, barrier, commit_steps}
use Rattle.powercut.specs.Power.{State, act, view}
use Rattle.powercut.specs.Commit.{commit_list, commit_next, commit_start, commit_step, commit_tests, is_committing, next_phase, place_in, start_phase}
use Rattle.powercut.specs.Recovery.{Progress}
use Rattle.powercut.specs.WholeRun.{Accepted, Holds, Makes, Run, cut_off, entries, holding, made, meets, resuming}
use Rattle.powercut.proofs.StepRun.{Claim, StepRun, Position, at_commit, at_cut}
use Rattle.powercut.proofs.StepCount.{commit-count}
use Rattle.powercut.proofs.StepRunClaim.{step-run-claim}
use Rattle.powercut.proofs.Headers.{step-run-headers}
use Rattle.powercut.proofs.Answers.{next-is, place_is, start_left, start_none, step_left, step-none}
use Rattle.powercut.proofs.RunInput.{Input, clean, count-is, entries-good, good, kept, left-pool, live-is, shape_is}
use Rattle.powercut.proofs.Resuming.{RecoveryIn, Resuming, again-matches, cut-matches, recover-matches}

pub list_length : (sh : Shape) (l : List Store) → length (commit_steps sh l) ≡ commit_length (length l)
unfolding commit_length
list_length sh [] = unfold commit_steps in refl
list_length sh (e ∷ l) = commit-count sh (e ∷ l) (zero-lt-suc (length l))

-- a commit that has a step
pub commit-some : (n k : ℕ) → k < commit_length n → (0 < n) × (commit_length n ≡ 6 * n + 9)
unfolding commit_length
commit-some zero k l = absurd (omega arith)
commit-some (suc n) k l = (omega arith, refl)

module _ (inp : Input) where
  abbrev pool : List ℕ
  pool = inp.pool

  abbrev staging : List ℕ
  staging = inp.staging

  abbrev ks : List Call
  ks = inp.ks

  abbrev sh : Shape
  sh = shape_in pool

  abbrev es : List Store
  es = entries pool staging ks

  abbrev held-staging : List ℕ
  held-staging = (made pool staging ks).left.staging

  abbrev init : State
  init = record { base = pool; pend = []; reached = false }

  pub claim : Claim sh pool es
  claim = step-run-claim sh (good inp) pool es (clean inp) (entries-good inp)

  -- ---- at every moment the pool has the headers of the start

  pub front_kept : {f : Position} {s : State} → StepRun sh es pool f s → (length (view s) ≡ length pool) × ((i : ℕ) → i < log_a sh → get_or (view s) i 0 ≡ get_or pool i 0)
  front_kept c = step-run-headers sh (good inp) es pool (clean inp) (entries-good inp) c

  pub steps-length : length (commit_steps sh es) ≡ commit_length (length es)
  steps-length = list_length sh es

  pub entries-met : (s : State) (t : Transaction) → t.count ≡ length es → entries_in (meets pool staging ks s t) ≡ es
  unfolding entries_in entries
  entries-met s t e = ap (entries_at held-staging 0) (e ∙ sym (count-is inp))

  pub list-met : {f : Position} (s : State) (t : Transaction) → StepRun sh es pool f s → t.count ≡ length es → commit_list (meets pool staging ks s t) ≡ commit_steps sh es
  unfolding commit_list
  list-met s t c e = ap₂ commit_steps (shape_is inp (view s) (front_kept c)) (entries-met s t e)

  -- ---- the run by step numbers

  abbrev pub CommitMatches : Phase → State → Type 0
  CommitMatches live s = s ≡ init
  CommitMatches (committing k) s = (k < length (commit_steps sh es)) × (staging_size ≤ length held-staging) × StepRun sh es pool (at_commit k) s
  CommitMatches closed s = StepRun sh es pool (at_commit (length (commit_steps sh es))) s

  abbrev pub RecoveryMatches : Remedy → Progress → State → Type 0
  RecoveryMatches = RecoveryIn inp (StepRun sh es pool)

  abbrev pub Matches : Holds → State → Type 0
  Matches (holding t) s = (t.count ≡ length es) × CommitMatches t.phase s × (t.id ≡ id_in pool)
  Matches cut_off s = StepRun sh es pool at_cut s
  Matches (resuming r) s = RecoveryMatches r.work r.phase s × (r.id ≡ id_in pool)

  pub some-step-run : (f : Phase) (s : State) → CommitMatches f s → (k : ℕ) × StepRun sh es pool (at_commit k) s
  some-step-run live s e = (0, subst (λ (x : State). StepRun sh es pool (at_commit 0) x) (sym e) StepRun.begin)
  some-step-run (committing k) s g = (k, g.2)
  some-step-run closed s g = (length (commit_steps sh es), g)

  -- the start
  start-commit-matches : (n : ℕ) (f : Phase) (s : State) → n ≡ length es → is_live f ≡ true → staging_size ≤ length held-staging → CommitMatches f s → CommitMatches (start_phase n) s
  unfolding is_live start_phase commit_length
  start-commit-matches zero live s e l h g =
      let z : 0 ≡ length (commit_steps sh es) = sym (steps-length ∙ ap commit_length (sym e)) in
      subst (λ (x : State). StepRun sh es pool (at_commit (length (commit_steps sh es))) x) (sym g) (subst (λ (k : ℕ). StepRun sh es pool (at_commit k) init) z StepRun.begin)
  start-commit-matches (suc n) live s e l h g =
      let z : length (commit_steps sh es) ≡ 6 * suc n + 9 = steps-length ∙ ap commit_length (sym e) in
      (omega arith, h, subst (λ (x : State). StepRun sh es pool (at_commit 0) x) (sym g) StepRun.begin)
  start-commit-matches n (committing k) s e l h g = absurd (let z : ◌≡◌ {A = ℕ} 0 1 = cc in omega arith)
  start-commit-matches n closed s e l h g = absurd (let z : ◌≡◌ {A = ℕ} 0 1 = cc in omega arith)

  start-matches : (t : Transaction) (s : State) → Matches (holding t) s → Accepted (commit_start (meets pool staging ks s t)).answer
      → Matches (holding (commit_start (meets pool staging ks s t)).left.txn) s
  start-matches t s h f = subst (λ (x : Transaction). Matches (holding x) s) (sym left) (h.0, start-commit-matches t.count t.phase s h.0 open_is long h.1, h.2)
    where
      g : Given
      g = meets pool staging ks s t

      none_is : first (record_tests g ++ live_tests g) ≡ none
      none_is = start_none g f

      all : Passed (record_tests g ++ live_tests g)
      all = first-passed (record_tests g ++ live_tests g) none_is

      open_is : is_live t.phase ≡ true
      open_is = unfold live_tests in (not-not (is_live t.phase) (passed-right (record_tests g) (live_tests g) all).0)

      long : staging_size ≤ length held-staging
      long = unfold record_tests in (ltb-false (length held-staging) staging_size (passed-right (open_tests g.pool) _ (passed-left (record_tests g) (live_tests g) all)).0)

      left : (commit_start (meets pool staging ks s t)).left.txn ≡ with_phase t (start_phase t.count)
      left = start_left g none_is

  -- a step of the commit
  next-commit-matches : (k : ℕ) (s : State) (x : State) → staging_size ≤ length held-staging → k < length (commit_steps sh es) → StepRun sh es pool (at_commit (suc k)) x
      → CommitMatches (next_phase k (length (commit_steps sh es))) x
  unfolding next_phase
  next-commit-matches k s x h l c =
      split (eqb (suc k) (length (commit_steps sh es)))
      (λ e. rw e (subst (λ (n : ℕ). StepRun sh es pool (at_commit n) x) (eqb-true (suc k) (length (commit_steps sh es)) e) c))
      (λ e. rw e (let n = eqb-false (suc k) (length (commit_steps sh es)) e in omega arith, h, c))

  step-matches : (t : Transaction) (s : State) → Matches (holding t) s → Accepted (commit_step (meets pool staging ks s t)).answer
      → Matches (holding (commit_step (meets pool staging ks s t)).left.txn) (act sh es (commit_next (meets pool staging ks s t)) s)
  step-matches t s h f = go t.phase refl h.1
    where
      g : Given
      g = meets pool staging ks s t

      none_is : first (commit_tests g) ≡ none
      none_is = step-none g f

      on : is_committing t.phase ≡ true
      on = unfold commit_tests in (not-not (is_committing t.phase) (passed-right (record_tests g) _ (first-passed (commit_tests g) none_is)).0)

      left : (commit_step (meets pool staging ks s t)).left.txn ≡ with_phase t (next_phase (place_in t.phase) (length (commit_list (meets pool staging ks s t))))
      left = step_left g f

      go : (p : Phase) → t.phase ≡ p → CommitMatches p s
          → Matches (holding (commit_step (meets pool staging ks s t)).left.txn) (act sh es (commit_next (meets pool staging ks s t)) s)
      go live e c = absurd (unfold is_committing in (let z : ◌≡◌ {A = ℕ} 0 1 = cc (on, ap is_committing e) in omega arith))
      go closed e c = absurd (unfold is_committing in (let z : ◌≡◌ {A = ℕ} 0 1 = cc (on, ap is_committing e) in omega arith))
      go (committing k) e c =
          let m : commit_list (meets pool staging ks s t) ≡ commit_steps sh es = list-met s t c.2 h.0 in
          let x : commit_next (meets pool staging ks s t) ≡ get_or (commit_steps sh es) k barrier =
          next-is (meets pool staging ks s t) k (commit_steps sh es) e m in
          let n : (commit_step (meets pool staging ks s t)).left.txn ≡ with_phase t (next_phase k (length (commit_steps sh es))) =
          left ∙ ap₂ (λ (j : ℕ) (l : List Step). with_phase t (next_phase j (length l))) (place_is t.phase k e) m in
          subst (λ (y : Transaction). Matches (holding y) (act sh es (commit_next (meets pool staging ks s t)) s)) (sym n) (
            h.0,
            subst (λ (y : Step). CommitMatches (next_phase k (length (commit_steps sh es))) (act sh es y s)) (sym x)
                (next-commit-matches k s (act sh es (get_or (commit_steps sh es) k barrier) s) c.1 c.0 (StepRun.step c.2 c.0)),
            h.2,
          )

  -- recoveries, as of any such fact (proofs/Resuming)
  pub step-run-resuming : Resuming inp (StepRun sh es pool)
  step-run-resuming = record {
    front = λ f s c. front_kept c;
    found = λ s c. StepRun.recover c (claim.never-refused s c);
    again = λ q k s c l. StepRun.again c l;
    cuts = λ q k s kept c t. StepRun.cut_again c t;
    works = λ q k s c. ⊎_elim inl (λ i. inr (inr i)) (claim.remedies s q k c);
    log-kept = λ l n k s c i. claim.log-kept s l n k c i;
  }

  makes-matches : {s s' : State} {h h' : Holds} → Makes pool staging ks h s h' s' → Matches h s → Matches h' s'
  makes-matches (Makes.commit {t} {s} f) m = start-matches t s m f
  makes-matches (Makes.step {t} {s} f) m = step-matches t s m f
  makes-matches (Makes.recover {s} f) m = recover-matches inp (StepRun sh es pool) step-run-resuming s m
  makes-matches (Makes.again {r} {s} f) m = again-matches inp (StepRun sh es pool) step-run-resuming r s m f

  -- EVERY RUN IS A RUN BY STEP NUMBERS
  pub run-matches : {h : Holds} {s : State} → Run pool staging ks h s → Matches h s
  run-matches Run.begin = (count-is inp, subst (λ (f : Phase). CommitMatches f init) (sym (live-is inp)) refl, (kept inp).id-is ∙ ap id_in (left-pool inp))
  run-matches (Run.next r m) = makes-matches m (run-matches r)
  run-matches (Run.cut {t} {s} {kept} r l) = StepRun.cut (some-step-run t.phase s (run-matches r).1).1 l
  run-matches (Run.cut_again {r = q} {s} {kept} r l) = cut-matches inp (StepRun sh es pool) step-run-resuming q s kept (run-matches r) l
