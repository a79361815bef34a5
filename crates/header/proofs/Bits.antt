-- Bits joined by `or` are zero where each part is; two bytes whose `xor` is zero are equal. Assumes nothing.
use Prim.Native.Nat.{ℕ}
use mathlib.Core.Path.{◌≡◌, refl, sym, ap, ◌∙◌}
use mathlib.Core.Bool.{Bool, true, false, ◌&&◌}
use mathlib.Core.List.{List, ◌∷◌}
use native.Mathlib.Omega.{arith}
use lib.Bits.{bit_or, bit_xor, and_le_l, and_le_r, xor_add_and, xor_self}
use lib.Dec.{eqb}
use borrow.Author.Tests.{eqb-true, eq-eqb}
use Rattle.rules.specs.Header.{same}
use Rattle.rules.proofs.Bool.{split}
use Rattle.rules.proofs.Zeros.{or-zero}

pub xor-zero : (a b : ℕ) → eqb (bit_xor a b) 0 ≡ eqb a b
xor-zero a b =
    let s = xor_add_and a b in
    let l = and_le_l a b in
    let r = and_le_r a b in
    split (eqb a b)
    (λ e. sym (e ∙ sym (eq-eqb (bit_xor a b) 0 (ap (λ (n : ℕ). bit_xor a n) (sym (eqb-true a b e)) ∙ xor_self a))))
    (λ e. split (eqb (bit_xor a b) 0) (λ x. let z = eqb-true (bit_xor a b) 0 x in x ∙ sym (eq-eqb a b (omega arith))) (λ x. x ∙ sym e))

and_assoc : (a b c : Bool) → ((a && b) && c) ≡ (a && (b && c))
and_assoc true b c = refl
and_assoc false b c = refl

-- two bytes more compared
pub same_more : (bits x y : ℕ) (xs ys : List ℕ) → (eqb (bit_or bits (bit_xor x y)) 0 && same xs ys) ≡ (eqb bits 0 && same (x ∷ xs) (y ∷ ys))
unfolding same
same_more bits x y xs ys = rw (or-zero bits (bit_xor x y), xor-zero x y) (and_assoc (eqb bits 0) (eqb x y) (same xs ys))
