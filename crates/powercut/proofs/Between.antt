-- Laws of steps i + 1 to j of a list (`between`), and of making them one after the other. Assumes nothing.
use mathlib.Core.Path.{◌≡◌, ap, ◌∙◌}
use mathlib.Core.List.{List, [], ◌∷◌}
use Prim.Native.Nat.{ℕ, suc, ◌-◌, ◌≤◌, ◌<◌}
use native.Mathlib.Omega.{arith}
use lib.ListN.{length, get_or, take, drop}
use lib.Seq.{drop-cons}
use Rattle.rules.specs.Shape.{Shape}
use Rattle.powercut.specs.Steps.{Step, barrier, step_pool, steps_made}
use Rattle.powercut.specs.Advance.{between}

-- none past the end
pub between-past : (k j : ℕ) (xs : List Step) → j ≤ k → between k j xs ≡ []
unfolding between
between-past k j xs l = ap (λ (m : ℕ). take m (drop k xs)) {x = j - k} {y = 0} (omega arith)

pub between_next : (k j : ℕ) (xs : List Step) → k < j → k < length xs → between k j xs ≡ get_or xs k barrier ∷ between (suc k) j xs
unfolding between
between_next k j xs l i = ap (λ (m : ℕ). take m (drop k xs)) {x = j - k} {y = suc (j - suc k)} (omega arith) ∙ ap (take (suc (j - suc k))) (drop-cons xs k barrier i)

module _ (sh : Shape) where
  pub made-past : (k j : ℕ) (xs : List Step) (p : List ℕ) → j ≤ k → steps_made sh (between k j xs) p ≡ p
  unfolding steps_made
  made-past k j xs p l = ap (λ (m : List Step). steps_made sh m p) (between-past k j xs l)

  pub made-here : (k : ℕ) (xs : List Step) (p : List ℕ) → steps_made sh (between k k xs) p ≡ p
  made-here k xs p = made-past k k xs p (omega arith)

  pub made-next : (k j : ℕ) (xs : List Step) (p : List ℕ) → k < j → k < length xs
      → steps_made sh (between k j xs) p ≡ steps_made sh (between (suc k) j xs) (step_pool sh (get_or xs k barrier) p)
  unfolding steps_made
  made-next k j xs p l i = ap (λ (m : List Step). steps_made sh m p) (between_next k j xs l i)
