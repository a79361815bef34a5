-- The ways out of format. Assumes nothing.
use Prim.Native.Nat.{ℕ, ◌*◌, ◌≤◌}
use mathlib.Core.Path.{◌≡◌, refl, sym, ◌∙◌}
use mathlib.Core.Bool.{Bool, true, false, ◌||◌}
use mathlib.Core.List.{List}
use native.Mathlib.Omega.{arith}
use lib.ListN.{length}
use borrow.Author.Tests.{eq-eqb, ne_eqb, le-ltb}
use Rattle.rules.specs.Shape.{page_size, pool_size, shape}
use Rattle.rules.specs.Test.{first}
use Rattle.rules.specs.Answer.{conclude_pool}
use Rattle.rules.specs.Format.{format_tests, formatted, fresh_pool}
use Rattle.layout.specs.declared.Shape.{Shape}
use Rattle.layout.specs.Meaning.{checked, good, refused, shape_of}
use Rattle.layout.proofs.Range.{bounds, made-good, made-out, size-bounds}
use Rattle.pages.specs.Written.{HeaderFits}
use Rattle.refusals.specs.declared.Refusal.{Refusal}
use Rattle.refusals.specs.declared.Refusal.TheVariants as R
use Rattle.refusals.specs.Number.{number_of}
use Rattle.std.proofs.Common.{Ok, Err}
use Rattle.pool.specs.Meaning.{changed}

or-true : (b : Bool) → (b || true) ≡ true
or-true true = refl
or-true false = refl

module _ (p : List ℕ) (rows cols zones id : ℕ) where
  pub format-range : (x : Refusal) → refused (number_of x) ≡ checked (shape rows cols zones) → changed (Err x) p ≡ formatted p rows cols zones id
  unfolding formatted format_tests first conclude_pool
  format-range x e = let m = made-out (shape rows cols zones) (number_of x) e in rw (m.0, m.1)

  pub format-id : id ≡ 0 → changed (Err R.Shape) p ≡ formatted p rows cols zones id
  unfolding formatted format_tests first conclude_pool
  format-id i = rw (eq-eqb id 0 i, or-true)

  module _ (s : Shape) (e : good (shape_of s) ≡ checked (shape rows cols zones)) (n : ℕ) (i : id ≡ 0 → ⊥) (k : n ≡ pool_size (shape_of s)) where
    pub format-length : (length p ≡ n → ⊥) → changed (Err R.Length) p ≡ formatted p rows cols zones id
    unfolding formatted format_tests first conclude_pool
    format-length l =
        let m = made-good (shape rows cols zones) (shape_of s) e in
        rw (m.1, ne_eqb id 0 i, ← m.0, ne_eqb (length p) (pool_size (shape_of s)) (λ q. l (q ∙ sym k)), or-true)

    pub format-taken : (q : List ℕ) → length p ≡ n → q ≡ fresh_pool (shape_of s) id → changed (Ok tt) q ≡ formatted p rows cols zones id
    unfolding formatted format_tests first conclude_pool
    format-taken q l f =
        let m = made-good (shape rows cols zones) (shape_of s) e in
        let b = size-bounds s in
        let g = s.paged in
        rw (m.1, ne_eqb id 0 i, ← m.0, eq-eqb (length p) (pool_size (shape_of s)) (l ∙ k), le-ltb (length p) (2 * page_size) (omega (arith, l, k, b, g)), f)

-- a header page fits in both places
pub header-fits : (s : Shape) → (l a : ℕ) → l ≡ pool_size (shape_of s) → a ≤ s.page → HeaderFits l a s.rows s.cols s.zones
header-fits s l a e h =
    let b = size-bounds s in
    let g = bounds s in
    let r = s.paged in
    record { page-le = omega (arith, r); rows-lt = omega arith; cols-lt = omega arith; zones-lt = omega arith }
