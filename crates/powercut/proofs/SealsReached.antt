-- Whether a seal has reached memory, log by log: of every run, the one Bool of the state is that of log A or that of log B; along a commit the
-- two are the same, for both seals are stored before one barrier. The latter of a sound pool and typed calls (`Input`). Assumes nothing else.
use mathlib.Core.Path.{◌≡◌, refl, sym, ap, ap₂, ◌∙◌, subst}
use mathlib.Core.Logic.{inl}
use mathlib.Core.Bool.{Bool, true, false, ◌||◌, and-or_distrib_right, or-false, or-true}
use mathlib.Core.List.{List, [], ◌∷◌, ◌++◌, map, append-nil, append_assoc, Sublistᴰ}
use Prim.Native.Nat.{ℕ, suc, ◌<◌}
use lib.Dec.{eqb}
use lib.ListN.{length, get_or, drop}
use lib.Seq.{drop-cons}
use borrow.Author.Tests.{eq-eqb}
use Rattle.rules.specs.Shape.{Shape, log_a, log_b}
use Rattle.rules.specs.Header.{shape_in}
use Rattle.rules.specs.Staging.{Phase, Store, Transaction, committing, lay}
use Rattle.rules.specs.Plan.{Call}
use Rattle.rules.specs.Answer.{Given}
use Rattle.rules.proofs.Bool as tests
use Rattle.rules.proofs.Shape.{Good}
use Rattle.rules.proofs.Stores.{all_map}
use Rattle.powercut.specs.Log.{Log, from_a, from_b, log_at, seal_of}
use Rattle.powercut.specs.Steps.{Step, barrier, commit_steps, parity, redo, seals, store}
use Rattle.powercut.specs.Power.{State, act, any_seal, is_seal, keep, view}
use Rattle.powercut.specs.Commit.{commit_next, commit_step}
use Rattle.powercut.specs.Recovery.{recovery_next}
use Rattle.powercut.specs.WholeRun.{Accepted, Holds, Makes, Run, cut_off, entries, holding, meets, resuming}
use Rattle.powercut.specs.Scribble.{any_seal_in, is_seal_in, passes, passes_seal_in, reached_in}
use Rattle.powercut.proofs.StepRun.{Clean, Entries, StepRun, at_commit}
use Rattle.powercut.proofs.FinalPool.{Setting}
use Rattle.powercut.proofs.CrashSafe.{st}
use Rattle.powercut.proofs.Redo.{logs}
use Rattle.powercut.proofs.CommitCrashSafe.{Apart, R₁, is-seal, logs-R₁, no-seals}
use Rattle.powercut.proofs.StepRunClaim.{setting}
use Rattle.powercut.proofs.StepPool.{along-commit, reached-act}
use Rattle.powercut.proofs.Answers.{next-is}
use Rattle.powercut.proofs.RunInput.{Input, clean, entries-good, good}
use Rattle.powercut.proofs.RunMatches.{CommitMatches, Matches, list-met, run-matches}
use Rattle.powercut.proofs.CommitOn.{accepted-place}

or_swap : (a b c d : Bool) → ((a || b) || (c || d)) ≡ ((a || c) || (b || d))
or_swap true b c d = refl
or_swap false true true d = refl
or_swap false true false d = refl
or_swap false false c d = refl

-- what was told before, a or b, and what comes to it, x or y
more : (a b x y : Bool) {r r' : Bool} → r' ≡ (r || (x || y)) → r ≡ (a || b) → r' ≡ ((a || x) || (b || y))
more a b x y e h = e ∙ ap (λ (z : Bool). z || (x || y)) h ∙ or_swap a b x y

-- ---- of every run

module _ (sh : Shape) (es : List Store) where
  seal-either : (x : Store) → is_seal sh es x ≡ (is_seal_in sh es from_a x || is_seal_in sh es from_b x)
  unfolding is_seal is_seal_in
  seal-either x = and-or_distrib_right (eqb x.at (log_a sh)) (eqb x.at (log_b sh)) (eqb x.val (seal_of es))

  pub any-either : (xs : List Store) → any_seal sh es xs ≡ (any_seal_in sh es from_a xs || any_seal_in sh es from_b xs)
  any-either [] = refl
  any-either (x ∷ xs) =
      ap₂ ◌||◌ (seal-either x) (any-either xs) ∙ or_swap (is_seal_in sh es from_a x) (is_seal_in sh es from_b x) (any_seal_in sh es from_a xs) (any_seal_in sh es from_b xs)

  act-either : (x : Step) (s : State) → (act sh es x s).reached ≡ (s.reached || (passes_seal_in sh es from_a x s || passes_seal_in sh es from_b x s))
  unfolding act keep
  act-either (store x) s = sym (or-false s.reached)
  act-either (parity e) s = sym (or-false s.reached)
  act-either barrier s = ap (λ (b : Bool). s.reached || b) (any-either s.pend)

module _ (pool staging : List ℕ) (ks : List Call) where
  abbrev sh : Shape
  sh = shape_in pool

  abbrev es : List Store
  es = entries pool staging ks

  makes-either : {s s' : State} {h h' : Holds} (m : Makes pool staging ks h s h' s')
      → s'.reached ≡ (s.reached || (passes pool staging ks from_a m || passes pool staging ks from_b m))
  unfolding passes
  makes-either (Makes.commit {t} {s} f) = sym (or-false s.reached)
  makes-either (Makes.step {t} {s} f) = act-either sh es (commit_next (meets pool staging ks s t)) s
  makes-either (Makes.recover {s} f) = sym (or-false s.reached)
  makes-either (Makes.again {r} {s} f) = act-either sh es (recovery_next (view s) r) s

  keep-either : (s : State) (kept : List Store) → (keep sh es s kept).reached ≡ (s.reached || (any_seal_in sh es from_a kept || any_seal_in sh es from_b kept))
  unfolding keep
  keep-either s kept = ap (λ (b : Bool). s.reached || b) (any-either sh es kept)

  pub reached-either : {h : Holds} {s : State} (r : Run pool staging ks h s)
      → s.reached ≡ (reached_in pool staging ks from_a r || reached_in pool staging ks from_b r)
  unfolding reached_in
  reached-either Run.begin = refl
  reached-either (Run.next r m) =
      more (reached_in pool staging ks from_a r) (reached_in pool staging ks from_b r) (passes pool staging ks from_a m) (passes pool staging ks from_b m)
      (makes-either m) (reached-either r)
  reached-either (Run.cut {s} {kept} r k) =
      more (reached_in pool staging ks from_a r) (reached_in pool staging ks from_b r) (any_seal_in sh es from_a kept) (any_seal_in sh es from_b kept)
      (keep-either s kept) (reached-either r)
  reached-either (Run.cut_again {s} {kept} r k) =
      more (reached_in pool staging ks from_a r) (reached_in pool staging ks from_b r) (any_seal_in sh es from_a kept) (any_seal_in sh es from_b kept)
      (keep-either s kept) (reached-either r)

-- ---- along a commit

module _ (sh : Shape) (es : List Store) where
  pub seal-in : (l : Log) (x : Store) → x.at ≡ log_at sh l → x.val ≡ seal_of es → is_seal_in sh es l x ≡ true
  unfolding is_seal_in
  seal-in l x a e = rw (eq-eqb x.at (log_at sh l) a, eq-eqb x.val (seal_of es) e)

  pub seals-in : (l : Log) → any_seal_in sh es l (seals sh (seal_of es)) ≡ true
  seals-in from_a = rw (seal-in from_a (record { at = log_a sh; val = seal_of es }) refl refl)
  seals-in from_b = rw (seal-in from_b (record { at = log_b sh; val = seal_of es }) refl refl, or-true)

  pub none_in : (l : Log) (xs : List Store) → any_seal sh es xs ≡ false → any_seal_in sh es l xs ≡ false
  none_in l xs e = go l (tests.or-false (any_seal_in sh es from_a xs) (any_seal_in sh es from_b xs) (sym (any-either sh es xs) ∙ e)) where
    go : (l : Log) → (any_seal_in sh es from_a xs ≡ false) × (any_seal_in sh es from_b xs ≡ false) → any_seal_in sh es l xs ≡ false
    go from_a h = h.0
    go from_b h = h.1

module _ (sh : Shape) (es : List Store) (l : Log) where
  -- at each step of the list, what is told of both logs is told of log l
  abbrev Agrees : List Step → State → Type 0
  Agrees [] s = Unit {0}
  Agrees (x ∷ xs) s = ((act sh es x s).reached ≡ (s.reached || passes_seal_in sh es l x s)) × Agrees xs (act sh es x s)

  -- once a seal has reached memory
  agrees-reached : (xs : List Step) (s : State) → s.reached ≡ true → Agrees xs s
  agrees-reached [] s h = tt
  agrees-reached (x ∷ xs) s h =
      let k = reached-act sh es x s h in (k ∙ sym (ap (λ (b : Bool). b || passes_seal_in sh es l x s) h), agrees-reached xs (act sh es x s) k)

  -- stores, then a barrier that tells the same of both
  agrees-part : (p : List ℕ) (m d : List Store) (rest : List Step) → any_seal sh es (d ++ m) ≡ any_seal_in sh es l (d ++ m)
      → Agrees rest (st (lay p (d ++ m)) [] (any_seal sh es (d ++ m))) → Agrees (map store m ++ barrier ∷ rest) (st p d false)
  unfolding act keep
  agrees-part p [] d rest e h =
      subst (λ (x : List Store). (any_seal sh es x ≡ any_seal_in sh es l x) × Agrees rest (st (lay p x) [] (any_seal sh es x))) (append-nil d) (e, h)
  agrees-part p (y ∷ m) d rest e h = (refl, agrees-part p m (d ++ (y ∷ [])) rest (rw append_assoc e) (rw append_assoc h))

  -- step number k of a list
  agrees-now : (xs : List Step) (k : ℕ) (s : State) → k < length xs → Agrees (drop k xs) s
      → ((act sh es (get_or xs k barrier) s).reached ≡ (s.reached || passes_seal_in sh es l (get_or xs k barrier) s)) × Agrees (drop (suc k) xs) (act sh es (get_or xs k barrier) s)
  agrees-now xs k s h a = subst (λ (m : List Step). Agrees m s) (drop-cons xs k barrier h) a

  module _ (p₀ : List ℕ) (c : Setting sh es p₀) where
    parts-agree : Agrees (map store (logs sh es p₀) ++ barrier ∷ (map store (seals sh (seal_of es)) ++ barrier ∷ redo sh es)) (st p₀ [] false)
    parts-agree =
        agrees-part p₀ L [] (map store Z ++ barrier ∷ redo sh es) (none ∙ sym (none_in sh es l L none))
        (subst (λ (b : Bool). Agrees (map store Z ++ barrier ∷ redo sh es) (st (lay p₀ L) [] b)) (sym none)
        (agrees-part (lay p₀ L) Z [] (redo sh es) (both ∙ sym (seals-in sh es l)) (agrees-reached (redo sh es) (st (lay (lay p₀ L) Z) [] (any_seal sh es Z)) both)))
      where
        L : List Store
        L = logs sh es p₀

        Z : List Store
        Z = seals sh (seal_of es)

        none : any_seal sh es L ≡ false
        none = no-seals sh es L (all_map {Q = R₁ sh es p₀ c} {Q' = Apart sh es} (λ a w x. x.1) L (logs-R₁ sh es p₀ c))

        both : any_seal sh es Z ≡ true
        both = rw (is-seal sh es (record { at = log_a sh; val = seal_of es }) (inl refl) refl)

commit-agrees : (sh : Shape) → Good sh → (l : Log) (es : List Store) (p₀ : List ℕ) → Clean sh p₀ → Entries sh es
    → Agrees sh es l (commit_steps sh es) (st p₀ [] false)
unfolding commit_steps
commit-agrees sh g l [] p₀ q h = tt
commit-agrees sh g l (e ∷ es) p₀ q h = parts-agree sh (e ∷ es) l p₀ (setting sh g e es p₀ q h)

module _ (inp : Input) (l : Log) where
  abbrev shape : Shape
  shape = shape_in inp.pool

  abbrev staged : List Store
  staged = entries inp.pool inp.staging inp.ks

  run-agrees : {k : ℕ} {s : State} → StepRun shape staged inp.pool (at_commit k) s → Agrees shape staged l (drop k (commit_steps shape staged)) s
  run-agrees = along-commit shape staged inp.pool (λ k s. Agrees shape staged l (drop k (commit_steps shape staged)) s)
      (commit-agrees shape (good inp) l staged inp.pool (clean inp) (entries-good inp)) (λ k s h a. (agrees-now shape staged l (commit_steps shape staged) k s h a).1)

  -- a step of the commit tells the same of both
  step-agrees : (t : Transaction) (s : State) → Matches inp (holding t) s → Accepted (commit_step (meets inp.pool inp.staging inp.ks s t)).answer
      → (s.reached || passes_seal_in shape staged l (commit_next (meets inp.pool inp.staging inp.ks s t)) s)
      ≡ (act shape staged (commit_next (meets inp.pool inp.staging inp.ks s t)) s).reached
  step-agrees t s m f = go (accepted-place g f).0 (accepted-place g f).1 where
    g : Given
    g = meets inp.pool inp.staging inp.ks s t

    go : (k : ℕ) → t.phase ≡ committing k → (s.reached || passes_seal_in shape staged l (commit_next g) s) ≡ (act shape staged (commit_next g) s).reached
    go k e =
        let c : CommitMatches inp (committing k) s = subst (λ (x : Phase). CommitMatches inp x s) e m.1 in
        let n : commit_next g ≡ get_or (commit_steps shape staged) k barrier = next-is g k (commit_steps shape staged) e (list-met inp s t c.2 m.0) in
        subst (λ (x : Step). (s.reached || passes_seal_in shape staged l x s) ≡ (act shape staged x s).reached) (sym n)
        (sym (agrees-now shape staged l (commit_steps shape staged) k s c.0 (run-agrees c.2)).0)

  abbrev Told : (h : Holds) (s : State) → Run inp.pool inp.staging inp.ks h s → Type 0
  Told (holding t) s r = reached_in inp.pool inp.staging inp.ks l r ≡ s.reached
  Told cut_off s r = Unit {0}
  Told (resuming q) s r = Unit {0}

  told : {h : Holds} {s : State} (r : Run inp.pool inp.staging inp.ks h s) → Told h s r
  unfolding reached_in passes
  told Run.begin = refl
  told (Run.next r m) = makes r m (told r)
    where
      makes : {s s' : State} {h h' : Holds} (r : Run inp.pool inp.staging inp.ks h s) (m : Makes inp.pool inp.staging inp.ks h s h' s')
          → Told h s r → Told h' s' (Run.next r m)
      makes r (Makes.commit {t} {s} f) e = or-false (reached_in inp.pool inp.staging inp.ks l r) ∙ e
      makes r (Makes.step {t} {s} f) e =
          ap (λ (b : Bool). b || passes_seal_in shape staged l (commit_next (meets inp.pool inp.staging inp.ks s t)) s) e
          ∙ step-agrees t s (run-matches inp r) f
      makes r (Makes.recover f) e = tt
      makes r (Makes.again f) e = tt
  told (Run.cut r k) = tt
  told (Run.cut_again r k) = tt

  pub reached-holding : {t : Transaction} {s : State} (r : Run inp.pool inp.staging inp.ks (holding t) s)
      → reached_in inp.pool inp.staging inp.ks l r ≡ s.reached
  reached-holding r = told r

  -- so of a cut of a commit: log l by itself tells what the stores kept add
  pub reached-cut : {t : Transaction} {s : State} {kept : List Store} (r : Run inp.pool inp.staging inp.ks (holding t) s) (k : Sublistᴰ kept s.pend)
      → reached_in inp.pool inp.staging inp.ks l (Run.cut {kept = kept} r k) ≡ (s.reached || any_seal_in shape staged l kept)
  unfolding reached_in
  reached-cut {kept = kept} r k = ap (λ (b : Bool). b || any_seal_in shape staged l kept) (told r)
