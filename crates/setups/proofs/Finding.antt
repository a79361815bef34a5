-- The object of a set-up, found by the look-up and look: the ways out. Assumes nothing.
use Prim.Native.Nat.{ℕ, ◌+◌}
use mathlib.Core.Path.{◌≡◌, refl, sym, ap, ◌∙◌}
use mathlib.Core.Option.{Option, none, some}
use mathlib.Core.List.{List, [], ◌∷◌, ◌++◌}
use native.Mathlib.Omega.{arith}
use lib.ListN.{length}
use borrow.Author.Tests.{eq-eqb, ne_eqb}
use Rattle.rules.specs.Words.{Bytes}
use Rattle.rules.specs.Shape.{head_size}
use Rattle.rules.specs.Test.{first, when}
use Rattle.rules.specs.Header.{shape_in}
use Rattle.rules.specs.Zones.{body_of, head_at, is_damaged, run_there}
use Rattle.rules.specs.Sound.{book_of}
use Rattle.rules.specs.Look as Looking
use Rattle.rules.specs.Look.{conclude_look, look, look_tests}
use Rattle.rules.specs.Tag.{absent, at, conclude_look_up, first_tagged, found, look_up, look_up_tests, refused}
use Rattle.rules.proofs.Test.{first-left, first-passed, first-right}
use Rattle.rules.proofs.LookUp.{look-found}
use Rattle.setups.specs.Setups.{found_tests, setup_size, size_test}
use Rattle.setups.specs.Found as Finding
use Rattle.setups.specs.Found.{conclude_spot, spot, spot_at}

-- ---- what the look-up and look tell

found-refused : (r o : Option ℕ) (n : ℕ) → conclude_look_up r (found o) ≡ refused n → r ≡ some n
unfolding conclude_look_up found
found-refused (some m) o n e = cc
found-refused none none n e = absurd (let z : ◌≡◌ {A = ℕ} 0 1 = cc in omega arith)
found-refused none (some a) n e = absurd (let z : ◌≡◌ {A = ℕ} 0 1 = cc in omega arith)

found-absent : (r o : Option ℕ) → conclude_look_up r (found o) ≡ absent → (r ≡ none) × (o ≡ none)
unfolding conclude_look_up found
found-absent (some m) o e = absurd (let z : ◌≡◌ {A = ℕ} 0 1 = cc in omega arith)
found-absent none none e = (refl, refl)
found-absent none (some a) e = absurd (let z : ◌≡◌ {A = ℕ} 0 1 = cc in omega arith)

found_at : (r o : Option ℕ) (a : ℕ) → conclude_look_up r (found o) ≡ at a → (r ≡ none) × (o ≡ some a)
unfolding conclude_look_up found
found_at (some m) o a e = absurd (let z : ◌≡◌ {A = ℕ} 0 1 = cc in omega arith)
found_at none none a e = absurd (let z : ◌≡◌ {A = ℕ} 0 1 = cc in omega arith)
found_at none (some b) a e = (refl, cc)

look-refused : (r : Option ℕ) (i m n : ℕ) → conclude_look r i m ≡ Looking.refused n → r ≡ some n
unfolding conclude_look
look-refused (some k) i m n e = cc
look-refused none i m n e = absurd (let z : ◌≡◌ {A = ℕ} 0 1 = cc in omega arith)

look-part : (r : Option ℕ) (i m j k : ℕ) → conclude_look r i m ≡ Looking.part j k → (r ≡ none) × (i ≡ j) × (m ≡ k)
unfolding conclude_look
look-part (some n) i m j k e = absurd (let z : ◌≡◌ {A = ℕ} 0 1 = cc in omega arith)
look-part none i m j k e = (refl, cc, cc)

-- ---- the ways out

module _ (p : List ℕ) (t : ℕ) where
  abbrev there : Option ℕ
  there = first_tagged t 0 (book_of p)

  pub spot-refused : (n : ℕ) → look_up p t 0 ≡ refused n → Finding.refusal n ≡ spot p t
  unfolding look_up spot conclude_spot
  spot-refused n e = rw (first-left (look_up_tests p) (found_tests p there) n (found-refused (first (look_up_tests p)) there n e))

  pub spot-absent : look_up p t 0 ≡ absent → Finding.absent ≡ spot p t
  unfolding look_up spot conclude_spot spot_at found_tests first
  spot-absent e =
      let i = found-absent (first (look_up_tests p)) there e in
      rw (i.1, first-right (look_up_tests p) [] (first-passed (look_up_tests p) i.0))

  module _ (bytes : Bytes p) (a : ℕ) (e : look_up p t 0 ≡ at a) where
    passed : (first (look_up_tests p) ≡ none) × (there ≡ some a)
    unfolding look_up
    passed = found_at (first (look_up_tests p)) there a e

    tests-there : first (look_up_tests p ++ found_tests p there) ≡ first (found_tests p (some a))
    tests-there = first-right (look_up_tests p) _ (first-passed (look_up_tests p) passed.0) ∙ ap (λ (o : Option ℕ). first (found_tests p o)) passed.1

    spot-there : {o : Option ℕ} → first (found_tests p (some a)) ≡ o → spot p t ≡ conclude_spot o (Finding.at a (head_at (shape_in p) a + head_size))
    unfolding spot spot_at
    spot-there q = rw (tests-there ∙ q, passed.1)

    damage : first (look_tests p a) ≡ first (when (is_damaged (run_there (shape_in p) p a)) 25 ∷ [])
    damage = look-found p bytes passed.0 t 0 a passed.1

    pub spot-damaged : (n : ℕ) → look p a ≡ Looking.refused n → Finding.refusal n ≡ spot p t
    unfolding look found_tests conclude_spot
    spot-damaged n q =
        sym (spot-there (first-left (when (is_damaged (run_there (shape_in p) p a)) 25 ∷ []) _ n (sym damage ∙ look-refused (first (look_tests p a)) _ _ n q)))

    -- the object is good: the part is its body
    module _ (j k : ℕ) (q : look p a ≡ Looking.part j k) where
      body-part : (first (look_tests p a) ≡ none) × (head_at (shape_in p) a + head_size ≡ j) × (length (body_of (run_there (shape_in p) p a)) ≡ k)
      unfolding look
      body-part = look-part (first (look_tests p a)) _ _ j k q

      sized : {o : Option ℕ} → first (size_test (body_of (run_there (shape_in p) p a)) ∷ []) ≡ o → spot p t ≡ conclude_spot o (Finding.at a (head_at (shape_in p) a + head_size))
      unfolding found_tests
      sized r = spot-there (first-right (when (is_damaged (run_there (shape_in p) p a)) 25 ∷ []) _ (first-passed _ (sym damage ∙ body-part.0)) ∙ r)

      pub spot-size : (k ≡ setup_size → ⊥) → Finding.refusal 33 ≡ spot p t
      unfolding size_test conclude_spot first
      spot-size h = sym (sized {o = some 33} (rw (body-part.2, ne_eqb k setup_size h)))

      pub spot-found : k ≡ setup_size → Finding.at a j ≡ spot p t
      unfolding size_test conclude_spot first
      spot-found h = sym (sized {o = none} (rw (body-part.2, eq-eqb k setup_size h)) ∙ ap (Finding.at a) body-part.1)
