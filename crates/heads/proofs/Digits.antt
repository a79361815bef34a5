-- Digits of numbers, put together and cut; and fed to the sums. Assumes nothing.
use Prim.Native.Nat.{ℕ, zero, suc, ◌+◌, ◌*◌, ◌/◌, ◌%◌, ◌^◌, ◌≤◌, ◌<◌}
use mathlib.Core.Path.{◌≡◌, refl, sym, ap, ap₂, ◌∙◌}
use mathlib.Core.List.{List, ◌∷◌, ◌++◌}
use native.Mathlib.Nat.{zero-add, suc-add, pow-suc, mul_comm, mul_assoc, div-div-eq-div-mul}
use native.Mathlib.Omega.{arith}
use lib.ListN.{take}
use Rattle.std.proofs.Common.{w64}
use Rattle.std.specs.Int.{byte_at, bytes_low_first, from_le_bytes, to_le_bytes}
use Rattle.rules.specs.Words.{digits, field, number, word}
use Rattle.sums.specs.Fed.{Fed}

-- a number of m digits below another
pub digits-join : (m n a b : ℕ) → a < 256 ^ m → digits (m + n) (a + 256 ^ m * b) ≡ digits m a ++ digits n b
unfolding digits
digits-join zero n a b h = let e : a + 256 ^ 0 * b ≡ b = omega arith in rw (zero-add n, e)
digits-join (suc m) n a b h =
    let k : a < 256 ^ m * 256 = rw pow-suc at h in
    let q : 256 ^ suc m * b ≡ 256 * (256 ^ m * b) = rw (pow-suc 256 m, mul_comm (256 ^ m) 256, mul_assoc 256 (256 ^ m) b) in
    let e : (a + 256 ^ suc m * b) % 256 ≡ a % 256 = omega arith in
    let f : (a + 256 ^ suc m * b) / 256 ≡ a / 256 + 256 ^ m * b = omega arith in
    rw (suc-add m n, digits) (ap₂ (λ (x : ℕ) (y : List ℕ). x ∷ y) e (ap (digits (m + n)) f ∙ digits-join m n (a / 256) b (omega arith)))

pub take-digits : (n k w : ℕ) → n ≤ k → take n (digits k w) ≡ digits n w
unfolding digits
take-digits zero k w h = refl
take-digits (suc n) zero w h = absurd (omega arith)
take-digits (suc n) (suc k) w h = ap (λ (x : List ℕ). w % 256 ∷ x) (take-digits n k (w / 256) (omega arith))

-- the bytes of a word, as `to_le_bytes` gives them and `from_le_bytes` takes them
low-digits : (i k w : ℕ) → bytes_low_first i k w ≡ digits k (w / 256 ^ i)
unfolding digits
low-digits i zero w = refl
low-digits i (suc k) w =
    ap₂ (λ (x : ℕ) (y : List ℕ). x ∷ y) (byte i) (low-digits (suc i) k w ∙ ap (digits k) (rw (pow-suc 256 i) (sym (div-div-eq-div-mul w (256 ^ i) 256))))
  where
    byte : (j : ℕ) → byte_at j w ≡ w / 256 ^ j % 256
    byte zero = omega arith
    byte (suc j) = refl

pub le-digits : (w : ℕ) → to_le_bytes w64 w ≡ digits 8 w
le-digits w = low-digits 0 8 w ∙ ap (digits 8) (omega arith)

pub le-word : (xs : List ℕ) → from_le_bytes w64 xs ≡ word xs 0
unfolding word field number
le-word xs = omega arith

-- the n low bytes of a word
pub word-fed : {a h b g : ℕ} (n w : ℕ) {xs : List ℕ} → xs ≡ to_le_bytes w64 w → n ≤ 8 → Fed a h (take n xs) b g → Fed a h (digits n w) b g
word-fed n w {xs} e k f = let q : take n xs ≡ digits n w = ap (take n) (e ∙ le-digits w) ∙ take-digits n 8 w k in rw (← q) f
