-- The power model's pool, as the next call meets it, is the one that the step leaves. What every step of a commit keeps holds along it
-- (`along-commit`); so without a cut the pool is what the steps made so far leave. Assumes nothing.
use mathlib.Core.Path.{◌≡◌, refl, sym, ap, ◌∙◌}
use mathlib.Core.Bool.{true, false}
use mathlib.Core.List.{List, [], ◌∷◌, ◌++◌}
use Prim.Native.Nat.{ℕ, suc, ◌<◌}
use lib.ListN.{length, get_or, take}
use lib.Seq.{take-suc}
use Rattle.rules.specs.Words.{put}
use Rattle.rules.specs.Shape.{Shape, parity_at}
use Rattle.rules.specs.Staging.{Store, lay}
use Rattle.rules.specs.Parity.{parity_word}
use Rattle.powercut.specs.Steps.{Step, barrier, commit_steps, parity, step_pool, steps_made, store}
use Rattle.powercut.specs.Power.{State, act, keep, view}
use Rattle.powercut.proofs.StepRun.{Position, StepRun, at_commit, at_cut, at_recovery}

lay-snoc : (p : List ℕ) (l : List Store) (x : Store) → lay p (l ++ (x ∷ [])) ≡ put (lay p l) x.at x.val
lay-snoc p [] x = refl
lay-snoc p (y ∷ l) x = lay-snoc (put p y.at y.val) l x

pub view-act : (sh : Shape) (es : List Store) (x : Step) (s : State) → view (act sh es x s) ≡ step_pool sh x (view s)
unfolding act keep
view-act sh es (store x) s = lay-snoc s.base s.pend x
view-act sh es (parity e) s = lay-snoc s.base s.pend (record { at = parity_at sh e.at; val = parity_word sh (view s) e.at })
view-act sh es barrier s = refl

-- a seal that has reached memory has done so for good
pub reached-act : (sh : Shape) (es : List Store) (x : Step) (s : State) → s.reached ≡ true → (act sh es x s).reached ≡ true
unfolding act keep
reached-act sh es (store x) s h = h
reached-act sh es (parity e) s h = h
reached-act sh es barrier s h = rw h

made-last : (sh : Shape) (l : List Step) (x : Step) (p : List ℕ) → steps_made sh (l ++ (x ∷ [])) p ≡ step_pool sh x (steps_made sh l p)
unfolding steps_made
made-last sh [] x p = refl
made-last sh (y ∷ l) x p = made-last sh l x (step_pool sh y p)

-- a fact of the steps made and the state that holds at the start and that every step of the commit keeps
module _ (sh : Shape) (es : List Store) (p₀ : List ℕ) (C : ℕ → State → Type 0) where
  abbrev AtCommit : Position → State → Type 0
  AtCommit (at_commit k) s = C k s
  AtCommit at_cut s = Unit {0}
  AtCommit (at_recovery q k) s = Unit {0}

  module _ (z : C 0 (record { base = p₀; pend = []; reached = false }))
      (on : (k : ℕ) (s : State) → k < length (commit_steps sh es) → C k s → C (suc k) (act sh es (get_or (commit_steps sh es) k barrier) s)) where
    along : {f : Position} {s : State} → StepRun sh es p₀ f s → AtCommit f s
    along StepRun.begin = z
    along (StepRun.step {k} {s} r l) = on k s l (along r)
    along (StepRun.cut r t) = tt
    along (StepRun.recover r n) = tt
    along (StepRun.again r l) = tt
    along (StepRun.cut_again r t) = tt

    pub along-commit : {k : ℕ} {s : State} → StepRun sh es p₀ (at_commit k) s → C k s
    along-commit r = along r

-- without a cut, the pool met is what the steps made so far leave
pub uncut-view : (sh : Shape) (es : List Store) (p₀ : List ℕ) {k : ℕ} {s : State} → StepRun sh es p₀ (at_commit k) s
    → view s ≡ steps_made sh (take k (commit_steps sh es)) p₀
unfolding steps_made
uncut-view sh es p₀ = along-commit sh es p₀ (λ k s. view s ≡ steps_made sh (take k (commit_steps sh es)) p₀) refl
    (λ k s l e. let x : Step = get_or (commit_steps sh es) k barrier in
    view-act sh es x s ∙ ap (step_pool sh x) e ∙ sym (made-last sh (take k (commit_steps sh es)) x p₀)
    ∙ ap (λ (m : List Step). steps_made sh m p₀) (sym (take-suc (commit_steps sh es) k barrier l)))
