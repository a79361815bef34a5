-- The ways out of a recovery's calls: the log lost or kept, what the record allows, the step that comes next, the part made, the reply.
-- Assumes nothing.
use Prim.Native.Nat.{ℕ, suc, ◌+◌, ◌*◌, ◌<◌, ◌≤◌}
use mathlib.Core.Path.{◌≡◌, refl, sym, ap, ◌∙◌}
use mathlib.Core.Bool.{Bool, true, false, not}
use mathlib.Core.Option.{Option, none, some}
use mathlib.Core.List.{List, []}
use native.Mathlib.Numerals.{add-one}
use native.Mathlib.Omega.{arith}
use lib.Dec.{eqb, leb}
use lib.ListN.{length, get_or}
use borrow.Author.Tests.{eq-eqb, le-ltb, leb-false, leb-true, lt-ltb, ltb-false, ne_eqb}
use Rattle.rules.specs.Words.{word}
use Rattle.rules.specs.Shape.{entry_limit, zones_at}
use Rattle.rules.specs.Test.{first}
use Rattle.rules.specs.Header.{id_in, open_tests, shape_in}
use Rattle.rules.specs.Answer.{refused}
use Rattle.rules.proofs.Bool.{split}
use Rattle.rules.proofs.Test.{first-left, first-passed, first-right}
use Rattle.powercut.specs.Log.{Log, count_in, log_at, valid}
use Rattle.powercut.specs.Steps.{Remedy, Step, barrier, clear, neither, nothing, recovery_steps, replay, step_pool}
use Rattle.powercut.specs.Commit.{made_answer, step_answer}
use Rattle.powercut.specs.Recovery as Paper
use Rattle.powercut.specs.Advance.{recovery_barrier, recovery_made}
use Rattle.powercut.proofs.StepCount.{clear-count, recovery-few, replay-count}
use Rattle.powercut.proofs.Logs.{judged-kept}
use Rattle.powercut.proofs.RecoveryOn.{recovery-on}
use Rattle.powercut.proofs.Answers.{Possible, recovery-possible}
use Rattle.words.specs.Loaded.{Loaded}
use Rattle.layout.specs.declared.Shape.{Shape}
use Rattle.layout.specs.Meaning.{Shaped, good, opened, refused as unopened, shape_of}
use Rattle.layout.proofs.Range.{shape-good}
use Rattle.layout.proofs.Opening.{open-good, open-passed, open-refused, shaped-room}
use Rattle.pool_log.proofs.Targets.{loaded_word}
use Rattle.pool_log.proofs.Places.{log-end}
use Rattle.answers.specs.Meaning as Answers
use Rattle.actions.specs.declared.Action.{Action}
use Rattle.actions.specs.declared.Action.TheVariants.{Barrier}
use Rattle.actions.specs.Actions as Steps
use Rattle.actions.specs.Parts.{PartMade}
use Rattle.actions.proofs.Steps.{clear_step, computed-answer, computed-pool, ready-log, replay-step, told-answer}
use Rattle.recovery.specs.declared.Remedy as Code
use Rattle.recovery.specs.declared.Remedy.TheVariants.{Clear}
use Rattle.recovery.specs.declared.Progress.{Progress}
use Rattle.recovery.specs.declared.Progress.TheVariants.{Finished, Recovering}
use Rattle.recovery.specs.declared.Recovery.{Recovery}
use Rattle.recovery.specs.declared.Reply.{Reply}
use Rattle.recovery.specs.Meaning.{after_of, progress_of, recovery_of, remedy_of}
use Rattle.recovery.specs.Advanced.{impossible_at, lost_at, replied, step_count, work_tests}

-- ---- the log, while data or parity is stored

module _ (s : Shape) (p : List ℕ) (b n k : ℕ) where
  pub lost-past : 2 * n + 2 ≤ k → false ≡ lost_at (shape_of s) p b n k
  unfolding lost_at
  lost-past h = rw (le-ltb k (2 * n + 2) h)

  pub lost-invalid : (x : Bool) → k < 2 * n + 2 → x ≡ valid (shape_of s) p b → x ≡ false → true ≡ lost_at (shape_of s) p b n k
  unfolding lost_at
  lost-invalid x h e f = rw (lt-ltb k (2 * n + 2) h, ← e, f)

  pub lost-count : (x : Bool) (w c : ℕ) → k < 2 * n + 2 → x ≡ valid (shape_of s) p b → x ≡ true → Loaded 8 p b w → c ≡ count_in w → not (eqb c n) ≡ lost_at (shape_of s) p b n k
  unfolding lost_at
  lost-count x w c h e t l f = rw (lt-ltb k (2 * n + 2) h, ← e, t, ← (loaded_word l), ← f)

-- ---- whether a recovery is impossible

module _ (s : Shape) (p : List ℕ) (k : ℕ) where
  place-past : (w : Remedy) → length (recovery_steps (shape_of s) p w) ≤ k → true ≡ impossible_at (shape_of s) p w k
  unfolding Paper.impossible_recovery Paper.is_recovering Paper.done_steps
  place-past w h = rw (le-ltb k (length (recovery_steps (shape_of s) p w)) h) (split (Paper.count_above w) (λ e. rw e) (λ e. rw e))

  pub clear-impossible : (v : Code.Remedy) → v ≡ Clear → leb 3 k ≡ impossible_at (shape_of s) p (remedy_of v) k
  unfolding Paper.impossible_recovery Paper.count_above Paper.is_recovering Paper.done_steps Paper.log_lost
  clear-impossible v e = split (leb 3 k) (λ h. rw (h, e, clear-count (shape_of s) p, le-ltb k 3 (leb-true 3 k h))) (λ h. rw (h, e, clear-count (shape_of s) p, lt-ltb k 3 (leb-false 3 k h)))

  pub empty-impossible : (v w : Code.Remedy) → v ≡ w → recovery_steps (shape_of s) p (remedy_of w) ≡ [] → true ≡ impossible_at (shape_of s) p (remedy_of v) k
  empty-impossible v w e h = rw e (place-past (remedy_of w) (rw h (omega arith)))

  module _ (b n : ℕ) (l : Log) (q : b ≡ log_at (shape_of s) l) where
    pub replay-many : entry_limit < n → true ≡ impossible_at (shape_of s) p (replay l n) k
    unfolding Paper.impossible_recovery Paper.count_above
    replay-many h = rw (lt-ltb entry_limit n h)

    pub replay-past : 2 * n + 5 ≤ k → true ≡ impossible_at (shape_of s) p (replay l n) k
    replay-past h = place-past (replay l n) (rw (replay-count (shape_of s) p l n) h)

    pub replay-lost : (x : Bool) → n ≤ entry_limit → k < 2 * n + 5 → x ≡ lost_at (shape_of s) p b n k → x ≡ impossible_at (shape_of s) p (replay l n) k
    unfolding Paper.impossible_recovery Paper.count_above Paper.is_recovering Paper.done_steps Paper.log_lost lost_at
    replay-lost x h g e = e ∙ rw (le-ltb entry_limit n h, replay-count (shape_of s) p l n, lt-ltb k (2 * n + 5) g, q)

-- all steps are made
pub finished-impossible : (s : Shape) (p : List ℕ) (w : Remedy) (f : Progress) (x : Bool) → f ≡ Finished → x ≡ Paper.count_above w → x ≡ Paper.impossible_recovery (shape_of s) p w (progress_of f)
unfolding Paper.impossible_recovery Paper.is_recovering
finished-impossible s p w f x e h = rw (e, h) (split (Paper.count_above w) (λ d. rw d) (λ d. rw d))

-- ---- what a recovery that is not impossible has

module _ (s : Shape) (p : List ℕ) (k : ℕ) (w : Remedy) (h : impossible_at (shape_of s) p w k ≡ false) where
  pub possible : Possible (shape_of s) p w k
  unfolding Paper.is_recovering Paper.done_steps
  possible = recovery-possible (shape_of s) p w (Paper.recovering k) refl h

  pub none-to-do : recovery_steps (shape_of s) p w ≡ [] → ⊥
  none-to-do e = let m = possible in let n = ap length e in omega arith

  pub place-few : k < 259
  place-few = let m = possible in let n = recovery-few (shape_of s) p w m.count in omega arith

  count-is : length (recovery_steps (shape_of s) p w) ≡ step_count w
  count-is = go w where
    go : (w : Remedy) → length (recovery_steps (shape_of s) p w) ≡ step_count w
    go (replay l n) = replay-count (shape_of s) p l n
    go clear = clear-count (shape_of s) p
    go nothing = unfold recovery_steps in refl
    go neither = unfold recovery_steps in refl

  pub clear-inside : w ≡ clear → k < 3
  clear-inside e = let m = possible.place in let c = clear-count (shape_of s) p in let d = ap (λ (v : Remedy). length (recovery_steps (shape_of s) p v)) e in omega arith

  -- the log at b is replayed, with the count n
  module _ (b n : ℕ) (l : Log) (q : b ≡ log_at (shape_of s) l) (e : w ≡ replay l n) where
    pub replay-few : n ≤ entry_limit
    unfolding Paper.count_above
    replay-few = ltb-false entry_limit n (rw e at possible.count)

    pub replay-inside : k < 2 * n + 5
    replay-inside = let m = possible.place in let c = replay-count (shape_of s) p l n in let d = ap (λ (v : Remedy). length (recovery_steps (shape_of s) p v)) e in omega arith

    pub replay-ready : Shaped p (shape_of s) → Steps.Ready (shape_of s) p p (b + 16) n k
    unfolding Paper.log_lost
    replay-ready g =
        ready-log (shape_of s) p g.size b n k (omega (arith, q, log-end (shape_of s) (shape-good s) l, shaped-room p s g)) replay-few
        (λ i. rw q (judged-kept k (2 * n + 2) (valid (shape_of s) p (log_at (shape_of s) l)) (count_in (word p (log_at (shape_of s) l))) n (rw e at possible.log) (omega arith)))

    -- its entries lie before the zones
    pub replay-low : b + 16 + 16 * n ≤ zones_at (shape_of s)
    replay-low = omega (arith, q, replay-few, log-end (shape_of s) (shape-good s) l)

    pub replay-action : (m : ℕ) (a : Action) → Steps.Computed (Steps.redo_action (shape_of s) p p (b + 16) n k) m a → Steps.Computed (Steps.action_of (shape_of s) p (get_or (recovery_steps (shape_of s) p w) k barrier)) m a
    replay-action m a c = record {
      value = c.value ∙ ap (λ (z : ℕ). Steps.redo_action (shape_of s) p p (z + 16) n k) q ∙ replay-step (shape_of s) p l n k ∙ ap (λ (v : Remedy). Steps.action_of (shape_of s) p (get_or (recovery_steps (shape_of s) p v) k barrier)) (sym e);
      inside = c.inside;
    }

-- clearing both seals, and where there is no step
module _ (s : Shape) (p : List ℕ) (k m : ℕ) (w : Remedy) where
  pub clear-action : (a : Action) → w ≡ clear → Steps.Computed (Steps.clear_action (shape_of s) p k) m a → Steps.Computed (Steps.action_of (shape_of s) p (get_or (recovery_steps (shape_of s) p w) k barrier)) m a
  clear-action a e c = record {
    value = c.value ∙ clear_step (shape_of s) p k ∙ ap (λ (v : Remedy). Steps.action_of (shape_of s) p (get_or (recovery_steps (shape_of s) p v) k barrier)) (sym e);
    inside = c.inside;
  }

  pub no-action : recovery_steps (shape_of s) p w ≡ [] → Steps.Computed (Steps.action_of (shape_of s) p (get_or (recovery_steps (shape_of s) p w) k barrier)) m Barrier
  no-action e = record { value = rw e; inside = tt }

-- ---- what the record allows

module _ (s : Shape) (p : List ℕ) (v : Recovery) where
  abbrev refusal : Option ℕ
  refusal = first (work_tests (shape_of s) p (recovery_of v))

  module _ (x : Bool) (e : x ≡ Paper.impossible_recovery (shape_of s) p (remedy_of v.work) (progress_of v.phase)) where
    pub judged-impossible : x ≡ true → some 10 ≡ refusal
    unfolding work_tests first
    judged-impossible h = rw (← e, h)

    -- i: the pool's id
    module _ (h : x ≡ false) (i : ℕ) (d : i ≡ id_in p) where
      pub judged-other : (v.id ≡ i → ⊥) → some 11 ≡ refusal
      unfolding work_tests first
      judged-other f = rw (← e, h, ← d, ne_eqb v.id i f)

      module _ (f : v.id ≡ i) where
        pub judged-finished : v.phase ≡ Finished → some 29 ≡ refusal
        unfolding work_tests first Paper.is_recovering
        judged-finished g = rw (← e, h, ← d, eq-eqb v.id i f, g)

        pub judged-on : (k : ℕ) → v.phase ≡ Recovering k → none ≡ refusal
        unfolding work_tests first Paper.is_recovering
        judged-on k g = rw (← e, h, ← d, eq-eqb v.id i f, g)

  -- not refused, with k steps made
  module _ (j : none ≡ refusal) {k : ℕ} (f : progress_of v.phase ≡ Paper.recovering k) where
    pub on-possible : impossible_at (shape_of s) p (remedy_of v.work) k ≡ false
    unfolding work_tests
    on-possible = ap (Paper.impossible_recovery (shape_of s) p (remedy_of v.work)) (sym f) ∙ (first-passed (work_tests (shape_of s) p (recovery_of v)) (sym j)).0

-- the same of the pool as it was opened
pub judged_same : (s : Shape) {p q : List ℕ} (v : Recovery) → q ≡ p → {o : Option ℕ} → o ≡ refusal s q v → o ≡ refusal s p v
judged_same s v b e = rw b at e

-- ---- a call: refused by the pool or by the record

module _ (p : List ℕ) (v : Recovery) where
  pub pool-refused : (n : ℕ) → opened p ≡ unopened n → first (Paper.recovery_tests p (recovery_of v)) ≡ some n
  unfolding Paper.recovery_tests work_tests
  pool-refused n e = first-left (open_tests p) (work_tests (shape_in p) p (recovery_of v)) n (open-refused p n e)

  module _ (s : Shape) (o : opened p ≡ good (shape_of s)) where
    tests-are : first (Paper.recovery_tests p (recovery_of v)) ≡ refusal s p v
    unfolding Paper.recovery_tests work_tests
    tests-are = first-right (open_tests p) _ (open-passed p (shape_of s) o) ∙ rw (open-good p (shape_of s) o).2

    pub record-refused : (n : ℕ) → some n ≡ refusal s p v → first (Paper.recovery_tests p (recovery_of v)) ≡ some n
    record-refused n e = tests-are ∙ sym e

  module _ (n : ℕ) (e : first (Paper.recovery_tests p (recovery_of v)) ≡ some n) where
    pub step-refused : record { answer = refused n; pool = p; recovery = recovery_of v } ≡ Paper.recovery_step p (recovery_of v)
    unfolding Paper.recovery_step Paper.conclude_recovery
    step-refused = rw e

    pub advance-refused : record { answer = refused n; pool = p; recovery = recovery_of v } ≡ Paper.recovery_on p (recovery_of v)
    unfolding Paper.conclude_recovery
    advance-refused = rw (recovery-on p (recovery_of v), e)

-- ---- a call that is not refused, with k steps made

module _ (s : Shape) (p : List ℕ) (v : Recovery) (o : opened p ≡ good (shape_of s)) (j : none ≡ refusal s p v) {k : ℕ} (f : progress_of v.phase ≡ Paper.recovering k) where
  abbrev listed : List Step
  listed = recovery_steps (shape_of s) p (remedy_of v.work)

  -- step suc i of the list answered, and the pool q left
  told-on : (q : List ℕ) (x : Step) (a : Action) (i : ℕ) → Answers.answer_of (Steps.told_of (suc i) a) ≡ made_answer (suc i) x
      → after_of (replied v a (suc i) (step_count (remedy_of v.work))) q
      ≡ record { answer = step_answer i (length listed) x; pool = q; recovery = Paper.with_progress (recovery_of v) (Paper.next_progress i (length listed)) }
  unfolding replied step_answer Paper.next_progress
  told-on q x a i e =
      rw (count-is s p k (remedy_of v.work) (on-possible s p v j f)) (split (eqb (suc i) (step_count (remedy_of v.work))) (λ h. rw h) (λ h. rw (h, e)))

  -- w: the pool as it was opened
  pub step-made : {w : List ℕ} → w ≡ p → (a : Action) (q : List ℕ) (r : Reply) → Steps.Computed (Steps.action_of (shape_of s) w (get_or (recovery_steps (shape_of s) w (remedy_of v.work)) k barrier)) (length w) a
      → q ≡ Steps.applied a p → r ≡ replied v a (k + 1) (step_count (remedy_of v.work)) → after_of r q ≡ Paper.recovery_step p (recovery_of v)
  unfolding Paper.recovery_step Paper.conclude_recovery Paper.recovery_list Paper.recovery_next Paper.done_steps
  step-made b a q r c g e =
      let x : Step = get_or listed k barrier in
      let d = rw b at c in
      rw (tests-are p v s o, ← j, ← (open-good p (shape_of s) o).2, f, e, g, add-one k, computed-pool (shape_of s) p x _ a (length p) d refl)
      (told-on (step_pool (shape_of s) x p) x a k (told-answer (suc k) a ∙ computed-answer (shape_of s) p x _ a (length p) (suc k) d refl))

  pub advance-made : (q : List ℕ) (m i : ℕ) (r : Reply) → PartMade (shape_of s) listed k (recovery_barrier (remedy_of v.work) k) p q m
      → r ≡ replied v Barrier i (step_count (remedy_of v.work)) → i ≡ m → after_of r q ≡ Paper.recovery_on p (recovery_of v)
  unfolding Paper.conclude_recovery Paper.recovery_list recovery_made Paper.done_steps made_answer
  advance-made q m i r c e g =
      rw (recovery-on p (recovery_of v), tests-are p v s o, ← j, ← (open-good p (shape_of s) o).2, f, e, g, c.number, c.bytes)
      (told-on _ barrier Barrier (recovery_barrier (remedy_of v.work) k) refl)
