-- The ways out of repair. Assumes nothing.
use Prim.Native.Nat.{ℕ, ◌*◌, ◌≤◌}
use mathlib.Core.Path.{◌≡◌}
use mathlib.Core.Bool.{Bool, true, false}
use mathlib.Core.List.{List}
use native.Mathlib.Nat.{mul-le-mul}
use lib.ListN.{length}
use borrow.Author.Tests.{eq-eqb, ne_eqb}
use Rattle.rules.specs.Test.{first}
use Rattle.rules.specs.Header.{shape_in}
use Rattle.rules.specs.Seals.{read_tests}
use Rattle.rules.specs.Repair.{any_above, any_two, conclude_repair, differences, repair, repair_tests, repaired}
use Rattle.rules.proofs.Test.{Passed, first-left, first-passed, first-right}
use Rattle.layout.specs.declared.Shape.{Shape}
use Rattle.layout.specs.Meaning.{answer, good, refused, shape_of}
use Rattle.layout.proofs.Range.{bounds}
use Rattle.layout.proofs.Opening.{answer-refused, open-good}
use Rattle.refusals.specs.declared.Refusal.{Refusal}
use Rattle.refusals.specs.declared.Refusal.TheVariants as R
use Rattle.refusals.specs.Number.{number_of}
use Rattle.std.proofs.Common.{Ok, Err}
use Rattle.pool.specs.Meaning.{repaired_of}
use Rattle.pool_log.proofs.Opening.{read_none, read_opened}

-- the pool p opened for reading, of the shape s
abbrev Opens : List ℕ → Shape → Type 0
Opens p s = answer (first (read_tests p)) (shape_in p) ≡ good (shape_of s)

module _ (p : List ℕ) where
  pub columns-small : (s : Shape) → s.zones * s.cols ≤ 16 * 64
  columns-small s = let g = bounds s in mul-le-mul g.zones-high g.cols-high

  module _ (ms : List ℕ) where
    pub repair-refused : (x : Refusal) → answer (first (read_tests p)) (shape_in p) ≡ refused (number_of x) → repaired_of (Err x) p ≡ repair p ms
    unfolding repair repair_tests conclude_repair
    repair-refused x e = rw (first-left (read_tests p) _ (number_of x) (answer-refused (first (read_tests p)) (shape_in p) (number_of x) e))

    module _ (s : Shape) (e : Opens p s) where
      same : shape_of s ≡ shape_in p
      same = (open-good p (shape_of s) (read_opened p e)).2

      passed : Passed (read_tests p)
      passed = first-passed (read_tests p) (read_none p e)

      pub repair-length : (length ms ≡ s.zones * s.cols → ⊥) → repaired_of (Err R.LossList) p ≡ repair p ms
      unfolding repair repair_tests first conclude_repair
      repair-length h = rw (first-right (read_tests p) _ passed, ← same, ne_eqb (length ms) (s.zones * s.cols) h)

      module _ {x : Bool} (h : length ms ≡ s.zones * s.cols) (a : x ≡ any_above (shape_of s) ms) where
        pub repair-above : x ≡ true → repaired_of (Err R.LossList) p ≡ repair p ms
        unfolding repair repair_tests first conclude_repair
        repair-above t = rw (first-right (read_tests p) _ passed, ← same, eq-eqb (length ms) (s.zones * s.cols) h, ← a, t)

        module _ {y : Bool} (f : x ≡ false) (b : y ≡ any_two ms) where
          pub repair-two : y ≡ true → repaired_of (Err R.TwoLost) p ≡ repair p ms
          unfolding repair repair_tests first conclude_repair
          repair-two t = rw (first-right (read_tests p) _ passed, ← same, eq-eqb (length ms) (s.zones * s.cols) h, ← a, f, ← b, t)

          pub repair-altered : {q : List ℕ} {n : ℕ} → y ≡ false → q ≡ repaired (shape_of s) ms p → n ≡ differences p q → repaired_of (Ok n) q ≡ repair p ms
          unfolding repair repair_tests first conclude_repair
          repair-altered t r d =
              rw (first-right (read_tests p) _ passed, ← same, eq-eqb (length ms) (s.zones * s.cols) h, ← a, f, ← b, t, d, r)
