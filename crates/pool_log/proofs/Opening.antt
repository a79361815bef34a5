-- A pool opened for reading, way out by way out; and what a caller knows of it. Assumes nothing.
use Prim.Native.Nat.{ℕ}
use mathlib.Core.Path.{◌≡◌}
use mathlib.Core.Bool.{Bool, true, false}
use mathlib.Core.Option.{none}
use mathlib.Core.List.{List, [], ◌∷◌}
use Rattle.rules.specs.Shape.{Shape as PoolShape}
use Rattle.rules.specs.Test.{first}
use Rattle.rules.specs.Header.{open_tests, shape_in}
use Rattle.rules.specs.Seals.{read_tests, seal_test, unsealed}
use Rattle.rules.proofs.Test.{first-left, first-right}
use Rattle.layout.specs.declared.Shape.{Shape}
use Rattle.layout.specs.Meaning.{Shaped, answer, good, opened, refused, shape_of}
use Rattle.layout.proofs.Opening.{answer-good, answer-opened, open-good, open-passed, open-refused, open-shaped}

module _ (p : List ℕ) where
  pub quiet-refused : (n : ℕ) → opened p ≡ refused n → refused n ≡ answer (first (read_tests p)) (shape_in p)
  unfolding read_tests answer
  quiet-refused n e = rw (first-left (open_tests p) (seal_test p ∷ []) n (open-refused p n e))

  pub quiet-sealed : (s : Shape) (x : Bool) → opened p ≡ good (shape_of s) → x ≡ unsealed (shape_of s) p → x ≡ false
      → refused 21 ≡ answer (first (read_tests p)) (shape_in p)
  unfolding read_tests answer first
  quiet-sealed s x e u f =
      rw (first-right (open_tests p) (seal_test p ∷ []) (open-passed p (shape_of s) e), ← (open-good p (shape_of s) e).2, ← u, f)

  pub quiet-good : (s : Shape) (x : Bool) → opened p ≡ good (shape_of s) → x ≡ unsealed (shape_of s) p → x ≡ true
      → good (shape_of s) ≡ answer (first (read_tests p)) (shape_in p)
  unfolding read_tests answer first
  quiet-good s x e u t =
      rw (first-right (open_tests p) (seal_test p ∷ []) (open-passed p (shape_of s) e), ← (open-good p (shape_of s) e).2, ← u, t)

-- ---- what a caller knows

module _ (p : List ℕ) {sh : PoolShape} (e : answer (first (read_tests p)) (shape_in p) ≡ good sh) where
  pub read_none : first (read_tests p) ≡ none
  read_none = (answer-good (first (read_tests p)) (shape_in p) sh e).0

  pub read_opened : opened p ≡ good sh
  unfolding read_tests
  read_opened = answer-opened p (seal_test p ∷ []) e

  pub read-shaped : Shaped p sh
  read-shaped = open-shaped p sh read_opened
