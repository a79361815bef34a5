-- REQUIREMENT 3 for the calls that go up to the next barrier, proved: `advance-runs`. Assumes nothing.
use Prim.Native.Nat.{ℕ, zero, suc, ◌+◌, ◌-◌, ◌*◌, ◌≤◌, ◌<◌}
use mathlib.Core.Path.{◌≡◌, refl, sym, ap, ap₂, ◌∙◌, subst}
use mathlib.Core.Bool.{cond}
use mathlib.Core.List.{List, [], ◌∷◌, Sublistᴰ}
use native.Mathlib.Omega.{arith}
use lib.Dec.{eqb, leb}
use lib.ListN.{length, get_or}
use borrow.Author.Tests.{eqb-true, leb-false, leb-true, ne_eqb}
use Rattle.rules.specs.Shape.{Shape}
use Rattle.rules.specs.Header.{shape_in}
use Rattle.rules.specs.Staging.{Phase, Store, Transaction, closed, committing, with_phase}
use Rattle.rules.specs.Answer.{After, Given}
use Rattle.rules.specs.Plan.{Call}
use Rattle.rules.proofs.Bool.{split}
use Rattle.powercut.specs.Steps.{Remedy, Step, barrier, commit_steps, recovery_steps, redo, steps_made}
use Rattle.powercut.specs.Power.{State, act, keep, view}
use Rattle.powercut.specs.Commit.{commit_list, commit_on, commit_step, made_answer, next_phase, step_answer}
use Rattle.powercut.specs.Recovery.{Progress, Recovery, RecoveryAfter, finished, next_progress, recovering, recovery_list, recovery_on, recovery_step, with_progress}
use Rattle.powercut.specs.WholeRun.{Accepted, Holds, Makes, Run, cut_off, entries, holding, made, meets, resuming}
use Rattle.powercut.specs.Advance.{AdvanceRuns, Moment, RunOn, acts, between, commit_barrier, commit_made, in_commit, in_recovery, number_in, recovery_barrier, recovery_made}
use Rattle.powercut.proofs.Between.{between_next, between-past}
use Rattle.powercut.proofs.Parts.{commit-high, commit-low}
use Rattle.powercut.proofs.StepRun.{StepRun, at_recovery}
use Rattle.powercut.proofs.StepPool.{view-act}
use Rattle.powercut.proofs.Answers.{again-left, again-next, answer-not-refused, done-is, list-is, next-is, place_is, step_left}
use Rattle.powercut.proofs.RunInput.{Input, shape_is}
use Rattle.powercut.proofs.RunMatches.{CommitMatches, RecoveryMatches, claim, front_kept, list-met, run-matches}
use Rattle.powercut.proofs.PowerCut.{power-cut, running-replay}
use Rattle.powercut.proofs.RecoveryOn.{part_of, recovery-advances, recovery-on-accepted, recovery-place}
use Rattle.powercut.proofs.CommitOn.{accepted-place, commit-advances, commit-on-accepted}

-- the number of the step answered is that of the step made
number-answer : (k n : ℕ) (x : Step) → number_in (step_answer k n x) ≡ suc k
unfolding number_in step_answer made_answer
number-answer k n x = split (eqb (suc k) n) (λ e. rw e (sym (eqb-true (suc k) n e))) (λ e. rw e (go x))
  where
    go : (x : Step) → number_in (made_answer (suc k) x) ≡ suc k
    go (Step.store y) = refl
    go (Step.parity y) = refl
    go barrier = refl

module _ (inp : Input) where
  abbrev pool : List ℕ
  pool = inp.pool

  abbrev staging : List ℕ
  staging = inp.staging

  abbrev ks : List Call
  ks = inp.ks

  abbrev sh : Shape
  sh = shape_in pool

  abbrev es : List Store
  es = entries pool staging ks

  abbrev met : State → Transaction → Given
  met = meets pool staging ks

  abbrev Runs : Holds → State → Type 0
  Runs = Run pool staging ks

  abbrev made-on : List Step → State → State
  made-on = acts pool staging ks

  -- ---- steps one after the other

  acts-view : (xs : List Step) (s : State) → view (made-on xs s) ≡ steps_made sh xs (view s)
  unfolding acts steps_made
  acts-view [] s = refl
  acts-view (x ∷ xs) s = acts-view xs (act sh es x s) ∙ ap (steps_made sh xs) (view-act sh es x s)

  acts-past : (k j : ℕ) (xs : List Step) (s : State) → j ≤ k → made-on (between k j xs) s ≡ s
  unfolding acts
  acts-past k j xs s l = ap (λ (ys : List Step). made-on ys s) (between-past k j xs l)

  acts-next : (k j : ℕ) (xs : List Step) (s : State) → k < j → k < length xs → made-on (between k j xs) s ≡ made-on (between (suc k) j xs) (act sh es (get_or xs k barrier) s)
  unfolding acts
  acts-next k j xs s l i = ap (λ (ys : List Step). made-on ys s) (between_next k j xs l i)

  -- a run with k steps of the list made goes on to j steps, step after step
  module _ (At : ℕ → State → Type 0) (xs : List Step) (step : (k : ℕ) (s : State) → At k s → k < length xs → At (suc k) (act sh es (get_or xs k barrier) s)) where
    walk : (i k j : ℕ) (s : State) → At k s → i + k ≡ j → j ≤ length xs → At j (made-on (between k j xs) s)
    walk zero k j s r q l =
        let d : k ≡ j = omega arith in
        subst (λ (i : ℕ). At i (made-on (between k i xs) s)) d (subst (At k) (sym (acts-past k k xs s (omega arith))) r)
    walk (suc i) k j s r q l =
        subst (At j) (sym (acts-next k j xs s (omega arith) (omega arith))) (walk i (suc k) j (act sh es (get_or xs k barrier) s) (step k s r (omega arith)) (omega arith) l)

    goes_to : (k j : ℕ) (s : State) → At k s → k ≤ j → j ≤ length xs → At j (made-on (between k j xs) s)
    goes_to k j s r h l = walk (j - k) k j s r (omega arith) l

    -- and comes through every place up to there
    comes-by : (k j : ℕ) (s : State) → At k s → j ≤ length xs → (i : ℕ) × At i (made-on (between k j xs) s)
    comes-by k j s r l = split (leb j k) (λ h. (k, subst (At k) (sym (acts-past k j xs s (leb-true j k h))) r)) (λ h. (j, goes_to k j s r (let a = leb-false j k h in omega arith) l))

  -- ---- a commit

  abbrev steps : List Step
  steps = commit_steps sh es

  abbrev size : ℕ
  size = length steps

  -- the transaction with k steps made
  abbrev stepped : Transaction → ℕ → Transaction
  stepped t k = with_phase t (cond (eqb k size) closed (committing k))

  abbrev AtStep : Transaction → ℕ → State → Type 0
  AtStep t k s = Runs (holding (stepped t k)) s

  record Met (t : Transaction) (s : State) (k : ℕ) : Type 0 where
    shape : shape_in (view s) ≡ sh
    list : commit_list (met s t) ≡ steps
    low : k ≤ commit_barrier t.count k
    high : commit_barrier t.count k < size
    accepted : Accepted (commit_step (met s t)).answer

  run-met : (t : Transaction) (s : State) (k : ℕ) → Runs (holding t) s → t.phase ≡ committing k → Met t s k
  run-met t s k r e =
      let h = run-matches inp r in
      let c : CommitMatches inp (committing k) s = subst (λ (f : Phase). CommitMatches inp f s) e h.1 in
      let l = list-met inp s t c.2 h.0 in
      let i = (power-cut pool staging ks inp.sound inp.typed).steps t s k r e in
      let n : size ≡ 6 * t.count + 9 = (let a = i.count in let b = ap length l in let d = h.0 in omega arith) in
      record {
        shape = shape_is inp (view s) (front_kept inp c.2);
        list = l;
        low = commit-low t.count k (let a = c.0 in omega arith);
        high = let a = commit-high t.count k in omega arith;
        accepted = i.accepted;
      }

  step_run : (t₀ : Transaction) (k : ℕ) (s : State) → AtStep t₀ k s → k < size → AtStep t₀ (suc k) (act sh es (get_or steps k barrier) s)
  unfolding next_phase
  step_run t₀ k s r l =
      let t : Transaction = stepped t₀ k in
      let e : t.phase ≡ committing k = rw (ne_eqb k size (λ d. omega arith)) in
      let m = run-met t s k r e in
      let u : (commit_step (met s t)).left.txn ≡ stepped t₀ (suc k) = step_left (met s t) m.accepted
      ∙ ap₂ (λ (j : ℕ) (l : List Step). with_phase t (next_phase j (length l))) (place_is t.phase k e) m.list in
      subst (λ (y : Transaction). Runs (holding y) (act sh es (get_or steps k barrier) s)) u
      (subst (λ (y : Step). Runs (holding (commit_step (met s t)).left.txn) (act sh es y s)) (next-is (met s t) k steps e m.list) (Run.next r (Makes.step m.accepted)))

  -- a call that has answered and left y
  record Advanced (t : Transaction) (s : State) (y : After) : Type 0 where
    accepted : Accepted y.answer
    run : Runs (holding y.left.txn) (in_commit pool staging ks t s (number_in y.answer))
    inner : (j : ℕ) → j ≤ number_in y.answer → (u : Transaction) × Runs (holding u) (in_commit pool staging ks t s j)
    leaves : y.left ≡ met (in_commit pool staging ks t s (number_in y.answer)) y.left.txn

  advanced : (t : Transaction) (s : State) (k : ℕ) → Runs (holding t) s → t.phase ≡ committing k → Advanced t s (commit_on (met s t))
  advanced t s k r e = subst (Advanced t s) (sym ((commit-advances (met s t)).makes k e m.accepted)) made-is
    where
      m : Met t s k
      m = run-met t s k r e

      b : ℕ
      b = commit_barrier t.count k

      n : ℕ
      n = length (commit_list (met s t))

      to : ℕ → State
      to j = in_commit pool staging ks t s j

      to_is : (j : ℕ) → to j ≡ made-on (between k j steps) s
      to_is j = ap₂ (λ (i : ℕ) (l : List Step). made-on (between i j l) s) (place_is t.phase k e) m.list

      here : AtStep t k s
      here =
          let f : committing k ≡ cond (eqb k size) closed (committing k) = rw (ne_eqb k size (let a = m.low in let b = m.high in λ d. omega arith)) in
          subst (λ (x : Phase). Runs (holding (with_phase t x)) s) (e ∙ f) r

      number : number_in (step_answer b n barrier) ≡ suc b
      number = number-answer b n barrier

      last : Runs (holding (with_phase t (next_phase b n))) (to (suc b))
      last = unfold next_phase in (subst (λ (i : ℕ). Runs (holding (with_phase t (next_phase b i))) (to (suc b))) (sym (ap length m.list))
          (subst (AtStep t (suc b)) (sym (to_is (suc b)))
          (goes_to (AtStep t) steps (step_run t) k (suc b) s here (let a = m.low in omega arith) (let a = m.high in omega arith))))

      inner : (j : ℕ) → j ≤ suc b → (u : Transaction) × Runs (holding u) (to j)
      inner j l =
          let w = comes-by (AtStep t) steps (step_run t) k j s here (let a = m.high in omega arith) in
          (stepped t w.0, subst (AtStep t w.0) (sym (to_is j)) w.1)

      made-is : Advanced t s (commit_made (met s t) k b)
      made-is = unfold commit_made in (record {
        accepted = answer-not-refused b n barrier;
        run = subst (λ (j : ℕ). Runs (holding (with_phase t (next_phase b n))) (to j)) (sym number) last;
        inner = λ j l. inner j (subst (λ (i : ℕ). j ≤ i) number l);
        leaves = ap (λ (p : List ℕ). record { pool = p; staging = (made pool staging ks).left.staging; txn = with_phase t (next_phase b n) })
            (ap₂ (λ (x : Shape) (l : List Step). steps_made x (between k (suc b) l) (view s)) m.shape m.list
            ∙ sym (acts-view (between k (suc b) steps) s) ∙ ap view (sym (to_is (suc b)) ∙ ap to (sym number)));
      })

  -- ---- a recovery

  abbrev replayed : List Step
  replayed = redo sh es

  -- the record with k steps made
  abbrev resumed : Recovery → ℕ → Recovery
  resumed r k = with_progress r (cond (eqb k (length replayed)) finished (recovering k))

  abbrev AtAgain : Recovery → ℕ → State → Type 0
  AtAgain r k s = Runs (resuming (resumed r k)) s

  record MetAgain (r : Recovery) (s : State) (k : ℕ) : Type 0 where
    shape : shape_in (view s) ≡ sh
    list : recovery_list (view s) r ≡ replayed
    low : k ≤ recovery_barrier r.work k
    high : recovery_barrier r.work k < length replayed
    accepted : Accepted (recovery_step (view s) r).answer

  run-met-again : (r : Recovery) (s : State) (k : ℕ) → Runs (resuming r) s → r.phase ≡ recovering k → MetAgain r s k
  run-met-again r s k u e =
      let c : RecoveryMatches inp r.work (recovering k) s = subst (λ (f : Progress). RecoveryMatches inp r.work f s) e (run-matches inp u).0 in
      let w = running-replay inp r.work s k c in
      let q : recovery_steps sh (view s) r.work ≡ replayed = ap (recovery_steps sh (view s)) w.1
      ∙ (claim inp).replays s w.0 (length es) k (subst (λ (y : Remedy). StepRun sh es pool (at_recovery y k) s) w.1 c.1) in
      let a = part_of sh (view s) r.work k c.0 in
      record {
        shape = shape_is inp (view s) (front_kept inp c.1);
        list = list-is (view s) r sh (shape_is inp (view s) (front_kept inp c.1)) ∙ q;
        low = a.low;
        high = let b = a.high in let d = ap length q in omega arith;
        accepted = ((power-cut pool staging ks inp.sound inp.typed).resumes r s k u e).accepted;
      }

  again-run : (r₀ : Recovery) (k : ℕ) (s : State) → AtAgain r₀ k s → k < length replayed → AtAgain r₀ (suc k) (act sh es (get_or replayed k barrier) s)
  unfolding next_progress
  again-run r₀ k s u l =
      let r : Recovery = resumed r₀ k in
      let e : r.phase ≡ recovering k = rw (ne_eqb k (length replayed) (λ d. omega arith)) in
      let m = run-met-again r s k u e in
      let f : (recovery_step (view s) r).recovery ≡ resumed r₀ (suc k) = again-left (view s) r m.accepted
      ∙ ap₂ (λ (j : ℕ) (l : List Step). with_progress r (next_progress j (length l))) (done-is r.phase k e) m.list in
      subst (λ (y : Recovery). Runs (resuming y) (act sh es (get_or replayed k barrier) s)) f
      (subst (λ (y : Step). Runs (resuming (recovery_step (view s) r).recovery) (act sh es y s)) (again-next (view s) r k replayed e m.list) (Run.next u (Makes.again m.accepted)))

  record AdvancedAgain (r : Recovery) (s : State) (y : RecoveryAfter) : Type 0 where
    accepted : Accepted y.answer
    run : Runs (resuming y.recovery) (in_recovery pool staging ks r s (number_in y.answer))
    inner : (j : ℕ) → j ≤ number_in y.answer → (u : Recovery) × Runs (resuming u) (in_recovery pool staging ks r s j)
    leaves : y.pool ≡ view (in_recovery pool staging ks r s (number_in y.answer))

  advanced-again : (r : Recovery) (s : State) (k : ℕ) → Runs (resuming r) s → r.phase ≡ recovering k → AdvancedAgain r s (recovery_on (view s) r)
  advanced-again r s k u e = subst (AdvancedAgain r s) (sym ((recovery-advances (view s) r).makes k e m.accepted)) made-is
    where
      m : MetAgain r s k
      m = run-met-again r s k u e

      b : ℕ
      b = recovery_barrier r.work k

      n : ℕ
      n = length (recovery_list (view s) r)

      to : ℕ → State
      to j = in_recovery pool staging ks r s j

      to_is : (j : ℕ) → to j ≡ made-on (between k j replayed) s
      to_is j = ap₂ (λ (i : ℕ) (l : List Step). made-on (between i j l) s) (done-is r.phase k e) m.list

      here : AtAgain r k s
      here =
          let f : recovering k ≡ cond (eqb k (length replayed)) finished (recovering k) = rw (ne_eqb k (length replayed) (let a = m.low in let b = m.high in λ d. omega arith)) in
          subst (λ (x : Progress). Runs (resuming (with_progress r x)) s) (e ∙ f) u

      number : number_in (step_answer b n barrier) ≡ suc b
      number = number-answer b n barrier

      last : Runs (resuming (with_progress r (next_progress b n))) (to (suc b))
      last = unfold next_progress in (subst (λ (i : ℕ). Runs (resuming (with_progress r (next_progress b i))) (to (suc b))) (sym (ap length m.list))
          (subst (AtAgain r (suc b)) (sym (to_is (suc b)))
          (goes_to (AtAgain r) replayed (again-run r) k (suc b) s here (let a = m.low in omega arith) (let a = m.high in omega arith))))

      inner : (j : ℕ) → j ≤ suc b → (x : Recovery) × Runs (resuming x) (to j)
      inner j l =
          let w = comes-by (AtAgain r) replayed (again-run r) k j s here (let a = m.high in omega arith) in
          (resumed r w.0, subst (AtAgain r w.0) (sym (to_is j)) w.1)

      made-is : AdvancedAgain r s (recovery_made (view s) r k b)
      made-is = unfold recovery_made in (record {
        accepted = answer-not-refused b n barrier;
        run = subst (λ (j : ℕ). Runs (resuming (with_progress r (next_progress b n))) (to j)) (sym number) last;
        inner = λ j l. inner j (subst (λ (i : ℕ). j ≤ i) number l);
        leaves = ap₂ (λ (x : Shape) (l : List Step). steps_made x (between k (suc b) l) (view s)) m.shape m.list
            ∙ sym (acts-view (between k (suc b) replayed) s) ∙ ap view (sym (to_is (suc b)) ∙ ap to (sym number));
      })

  -- ---- calls that are accepted

  accepted-on : (t : Transaction) (s : State) → Runs (holding t) s → Accepted (commit_on (met s t)).answer → Advanced t s (commit_on (met s t))
  accepted-on t s r f = let w = accepted-place (met s t) (commit-on-accepted (met s t) f) in advanced t s w.0 r w.1

  accepted-again : (r : Recovery) (s : State) → Runs (resuming r) s → Accepted (recovery_on (view s) r).answer → AdvancedAgain r s (recovery_on (view s) r)
  accepted-again r s u f = let w = recovery-place (view s) r (recovery-on-accepted (view s) r f) in advanced-again r s w.0 u w.1

  -- from any run, not only one by these calls
  pub recovery-runs : (r : Recovery) (s : State) → Runs (resuming r) s → Accepted (recovery_on (view s) r).answer
      → Runs (resuming (recovery_on (view s) r).recovery) (in_recovery pool staging ks r s (number_in (recovery_on (view s) r).answer))
  recovery-runs r s u f = (accepted-again r s u f).run

  moments : {h : Holds} {s s' : State} → Runs h s → Moment pool staging ks h s s' → (h' : Holds) × Runs h' s'
  moments r (Moment.commits {t} {s} {j} f l) = let w = (accepted-on t s r f).inner j l in (holding w.0, w.1)
  moments u (Moment.recovers {r} {s} {j} f l) = let w = (accepted-again r s u f).inner j l in (resuming w.0, w.1)

  cut_at : {h : Holds} {s s' : State} {kept : List Store} → Runs h s → Moment pool staging ks h s s' → Sublistᴰ kept s'.pend → Runs cut_off (keep sh es s' kept)
  cut_at r (Moment.commits {t} {s} {j} f l) i = Run.cut ((accepted-on t s r f).inner j l).1 i
  cut_at u (Moment.recovers {r} {s} {j} f l) i = Run.cut_again ((accepted-again r s u f).inner j l).1 i

  runs : {h : Holds} {s : State} → RunOn pool staging ks h s → Runs h s
  runs RunOn.begin = Run.begin
  runs (RunOn.next r m) = Run.next (runs r) m
  runs (RunOn.on {t} {s} r f) = (accepted-on t s (runs r) f).run
  runs (RunOn.again {r} {s} u f) = (accepted-again r s (runs u) f).run
  runs (RunOn.cut r i) = Run.cut (runs r) i
  runs (RunOn.cut_again r i) = Run.cut_again (runs r) i
  runs (RunOn.cut_inside r m i) = cut_at (runs r) m i

-- REQUIREMENT 3 FOR THE CALLS UP TO THE NEXT BARRIER
pub advance-runs : AdvanceRuns
advance-runs pool staging ks sound typed =
    let inp : Input = record { pool = pool; staging = staging; ks = ks; sound = sound; typed = typed } in record {
      runs = runs inp;
      moments = moments inp;
      commits = λ t s k r e. (advanced inp t s k r e).accepted;
      recovers = λ r s k u e. (advanced-again inp r s k u e).accepted;
      commit-leaves = λ t s r f. (accepted-on inp t s r f).leaves;
      recovery-leaves = λ r s u f. (accepted-again inp r s u f).leaves;
    }
