-- Masks of a loss list: a mask with one bit set, and what the tests of the whole list say of each. Assumes nothing.
use Prim.Native.Nat.{ℕ, zero, suc, ◌+◌, ◌*◌, ◌/◌, ◌%◌, ◌^◌, ◌≤◌, ◌<◌}
use mathlib.Core.Path.{◌≡◌, refl, sym, ap, ap₂, subst, ◌∙◌}
use mathlib.Core.Logic.{◌⊎◌, inl, inr}
use mathlib.Core.Bool.{Bool, false, ◌||◌}
use mathlib.Core.List.{List, [], ◌∷◌}
use native.Mathlib.Nat.{lt_of_lt_of_le, pow-suc, div_self, div-eq_of_lt}
use native.Mathlib.Numerals.{add-one}
use native.Mathlib.Decide.{dec_lt}
use native.Mathlib.Omega.{arith}
use borrow.Author.Tests.{leb-false}
use lib.Arith.{bin_ind}
use lib.Count.{ones, ones_in, ones_step, count_trailing_zeros, under}
use lib.Dec.{leb, ltb}
use lib.ListN.{get_or}
use lib.Pow.{shl_exact, pow_mono, pow_pos}
use Rattle.std.specs.List.{list_any}
use Rattle.rules.specs.Shape.{Shape}
use Rattle.rules.specs.Repair.{any_above, any_two, bit}
use Rattle.rules.proofs.Bool.{or-false}

zero-or-one : (n : ℕ) → (n % 2 ≡ 0) ⊎ (n % 2 ≡ 1)
zero-or-one n = go (n % 2) refl
  where
    go : (b : ℕ) → n % 2 ≡ b → (n % 2 ≡ 0) ⊎ (n % 2 ≡ 1)
    go zero e = inl e
    go (suc b) e = inr (omega arith)

ones_of_zero : ones 0 ≡ 0
unfolding ones ones_in
ones_of_zero = refl

ones-zero : (n : ℕ) → ones n ≡ 0 → n ≡ 0
ones-zero = bin_ind (λ (n : ℕ). ones n ≡ 0 → n ≡ 0) (λ _. refl) (λ n ih e.
    let s = ones_step n in
    let h = ih (omega arith) in
    omega arith)

pub one_bit : (m : ℕ) → ones m ≤ 1 → (m ≡ 0 → ⊥) → ones m ≡ 1
one_bit m h n = go (ones m) refl
  where
    go : (b : ℕ) → ones m ≡ b → ones m ≡ 1
    go zero e = absurd (n (ones-zero m e))
    go (suc b) e = omega arith

-- a mask with one bit set is a power of two, and its trailing zeros say which
power : (k m : ℕ) → m < 2 ^ k → ones m ≡ 1 → m ≡ 2 ^ count_trailing_zeros k m
unfolding count_trailing_zeros
power zero m h e =
    let z : m ≡ 0 = omega arith in
    let o : ones 0 ≡ 1 = subst (λ n. ones n ≡ 1) z e in
    let b : ⊥ = omega (arith, ones_of_zero) in absurd b
power (suc k) m h e = go (zero-or-one m) (power k (m / 2))
  where
    go : (m % 2 ≡ 0) ⊎ (m % 2 ≡ 1) → (m / 2 < 2 ^ k → ones (m / 2) ≡ 1 → m / 2 ≡ 2 ^ count_trailing_zeros k (m / 2))
        → m ≡ 2 ^ under (m % 2) (count_trailing_zeros k (m / 2))
    go (inl b) ih =
        let s = ones_step m in
        let h' : m < 2 ^ k * 2 = rw pow-suc at h in
        let r = ih (omega arith) (omega arith) in
        rw b (rw pow-suc (omega arith))
    go (inr b) ih =
        let s = ones_step m in
        let z = ones-zero (m / 2) (omega arith) in
        rw b (omega arith)

-- that bit is set
lost-bit : (k m : ℕ) → m < 2 ^ k → ones m ≡ 1 → bit m (count_trailing_zeros k m) ≡ 1
lost-bit k m h e =
    let r : ℕ = count_trailing_zeros k m in
    ap (λ (x : ℕ). x / 2 ^ r % 2) (power k m h e) ∙ ap (λ (x : ℕ). x % 2) (div_self (pow_pos r))

-- a bit that is set lies below the mask's end
bit_below : (n m r : ℕ) → m < 2 ^ n → bit m r ≡ 1 → r < n
bit_below n m r h e = go (dec_lt r n)
  where
    go : Dec (r < n) → r < n
    go (yes l) = l
    go (no l) =
        let w : 2 ^ n ≤ 2 ^ r = pow_mono (omega arith) in
        let z : m / 2 ^ r ≡ 0 = div-eq_of_lt (omega arith) in
        let q : ◌≡◌ {A = ℕ} 0 1 = sym (ap (λ (x : ℕ). x % 2) z) ∙ e in
        absurd (omega arith)

-- so a mask of one bit names its row
pub lost-row : (n m : ℕ) → n ≤ 16 → m < 2 ^ n → ones m ≡ 1 → (bit m (count_trailing_zeros 16 m) ≡ 1) × (count_trailing_zeros 16 m < n)
lost-row n m h l e =
    let b = lost-bit 16 m (lt_of_lt_of_le l (pow_mono h)) e in
    (b, bit_below n m (count_trailing_zeros 16 m) l b)

pub above-bits : (sh : Shape) (ms : List ℕ) → any_above sh ms ≡ false → (k : ℕ) → get_or ms k 0 < 2 ^ suc sh.rows
unfolding any_above
above-bits sh [] e k = pow_pos (suc sh.rows)
above-bits sh (m ∷ ms) e zero = leb-false (2 ^ suc sh.rows) m (or-false (leb (2 ^ suc sh.rows) m) (any_above sh ms) e).0
above-bits sh (m ∷ ms) e (suc k) = above-bits sh ms (or-false (leb (2 ^ suc sh.rows) m) (any_above sh ms) e).1 k

-- ---- the tests as the code makes them

-- the first number with a bit above r, as the code shifts to it
pub mask_end : (r : ℕ) → r ≤ 15 → 1 * 2 ^ (r + 1) % 2 ^ 64 ≡ 2 ^ suc r
mask_end r h = rw add-one (shl_exact {a = 1} 1 (suc r) 64 (omega arith) (omega arith) ∙ omega arith)

pub above-any : (sh : Shape) (e : ℕ) (ms : List ℕ) → e ≡ 2 ^ suc sh.rows → list_any (leb e) ms ≡ any_above sh ms
unfolding any_above
above-any sh e [] h = refl
above-any sh e (m ∷ ms) h = ap₂ ◌||◌ (ap (λ (x : ℕ). leb x m) h) (above-any sh e ms h)

pub two-any : (ms : List ℕ) → list_any (λ m. ltb 1 (ones m)) ms ≡ any_two ms
unfolding any_two
two-any [] = refl
two-any (m ∷ ms) = ap (λ (b : Bool). ltb 1 (ones m) || b) (two-any ms)
