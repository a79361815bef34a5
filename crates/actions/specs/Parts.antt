-- The steps of a commit or of a recovery up to the next barrier, made (01, "Commit, cut, recovery"). Assumes nothing.
use Rattle.std.specs.Prelude.{ℕ, suc, ◌≡◌, List, [], ◌∷◌, ◌++◌, map}
use Rattle.rules.specs.Shape.{Shape}
use Rattle.powercut.specs.Steps.{Step, barrier, seals, steps_made, store}
use Rattle.powercut.specs.Advance.{between}

-- Steps k + 1 to e + 1 of a list, the last of which is a barrier, made: the pool's bytes, and the barrier's number.
pub record PartMade (sh : Shape) (xs : List Step) (k e : ℕ) (p q : List ℕ) (r : ℕ) : Type 0 where
  pub bytes : q ≡ steps_made sh (between k (suc e) xs) p
  pub number : r ≡ suc e

-- Both seals with w, and the barrier after them.
unfoldable pub seal_steps : Shape → ℕ → List Step
seal_steps sh w = map store (seals sh w) ++ barrier ∷ []
