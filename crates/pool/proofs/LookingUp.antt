-- The ways out of the look-up by tag. Assumes nothing.
use Prim.Native.Nat.{ℕ}
use mathlib.Core.Path.{◌≡◌, ap, ◌∙◌}
use mathlib.Core.List.{List, [], ◌∷◌}
use Rattle.rules.specs.Test.{first}
use Rattle.rules.specs.Shape.{Shape as Form}
use Rattle.rules.specs.Header.{shape_in}
use Rattle.rules.specs.Seals.{read_tests}
use Rattle.rules.specs.Sound.{book_of}
use Rattle.rules.specs.Tag.{LookUp, conclude_look_up, look_up, look_up_tests, refused, whole_test}
use Rattle.rules.proofs.Test.{first-left, first-passed, first-right}
use Rattle.layout.specs.declared.Shape.{Shape}
use Rattle.layout.specs.Meaning.{answer, good, refused as unopened, shape_of}
use Rattle.layout.proofs.Opening.{answer-refused, open-good}
use Rattle.pool_log.proofs.Opening.{read_none, read_opened}
use Rattle.tags.specs.Found.{look_up_in}

module _ (p : List ℕ) (t from : ℕ) where
  pub look-up-refused : (n : ℕ) → answer (first (read_tests p)) (shape_in p) ≡ unopened n → refused n ≡ look_up p t from
  unfolding look_up look_up_tests conclude_look_up
  look-up-refused n e = rw (first-left (read_tests p) (whole_test p ∷ []) n (answer-refused (first (read_tests p)) (shape_in p) n e))

  -- x: what was found in a pool opened for reading
  pub look-up-found : (s : Shape) {x : LookUp} → answer (first (read_tests p)) (shape_in p) ≡ good (shape_of s) → x ≡ look_up_in (shape_of s) p t from → x ≡ look_up p t from
  unfolding look_up look_up_tests look_up_in whole_test book_of
  look-up-found s e y =
      rw (first-right (read_tests p) (whole_test p ∷ []) (first-passed (read_tests p) (read_none p e)))
      (y ∙ ap (λ (sh : Form). look_up_in sh p t from) (open-good p (shape_of s) (read_opened p e)).2)
