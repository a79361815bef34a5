-- A field read, and stored, in two parts. Assumes nothing.
use Prim.Native.Nat.{ℕ, zero, suc, ◌+◌, ◌*◌, ◌/◌, ◌%◌, ◌^◌, ◌<◌}
use mathlib.Core.Path.{◌≡◌, sym, ap, ◌∙◌}
use mathlib.Core.List.{List, ◌∷◌, ◌++◌}
use native.Mathlib.Nat.{add_assoc, add-zero, zero-add, suc-add, pow-suc, mul_comm, div-div-eq-div-mul}
use native.Mathlib.Omega.{arith}
use lib.Arith.{digits_lt}
use lib.ListN.{get_or}
use lib.Pow.{pow-add}
use lib.Seq.{sets}
use Rattle.rules.specs.Words.{digits, field, number}
use Rattle.rules.proofs.Words.{length_digits, number-cong}
use Rattle.rules.proofs.Sets.{sets-append}
use Rattle.words.specs.Loaded.{Loaded}

number-join : (m n : ℕ) (f : ℕ → ℕ) → number (m + n) f ≡ number m f + 256 ^ m * number n (λ i. f (m + i))
unfolding number
number-join zero n f =
    let e = number-cong n (λ i. f (0 + i)) f (λ i h. ap f (zero-add i)) in
    rw (zero-add n) (omega arith)
number-join (suc m) n f =
    let e = number-cong n (λ i. f (suc m + i)) (λ i. f (suc (m + i))) (λ i h. ap f (suc-add m i)) in
    rw (suc-add m n, number, e, pow-suc, number-join m n (λ i. f (suc i))) (omega arith)

pub field-join : (m n : ℕ) (p : List ℕ) (a : ℕ) → field (m + n) p a ≡ field m p a + 256 ^ m * field n p (a + m)
unfolding field
field-join m n p a =
    number-join m n (λ i. get_or p (a + i) 0)
    ∙ ap (λ (x : ℕ). number m (λ i. get_or p (a + i) 0) + 256 ^ m * x)
    (number-cong n (λ i. get_or p (a + (m + i)) 0) (λ i. get_or p (a + m + i) 0) (λ i h. ap (λ (j : ℕ). get_or p j 0) (sym (add_assoc a m i))))

-- m bytes read, then n
pub loaded-join : (m n : ℕ) {p : List ℕ} {a x y : ℕ} → Loaded m p a x → Loaded n p (a + m) y → Loaded (m + n) p a (x + 256 ^ m * y)
loaded-join m n {p} {a} {x} {y} u v =
    let h = digits_lt v.small u.small in
    record { value = rw (u.value, v.value) (sym (field-join m n p a)); small = rw (pow-add 256 m n) (omega arith) }

pub field-byte : (p : List ℕ) (a : ℕ) → field 1 p a ≡ get_or p a 0
unfolding field number
field-byte p a = rw (add-zero a) (omega arith)

pub loaded_byte : (p : List ℕ) (a : ℕ) {b : ℕ} → b ≡ get_or p a 0 → b < 256 → Loaded 1 p a b
loaded_byte p a e h = record { value = e ∙ sym (field-byte p a); small = h }

-- ---- stores

digits-split : (m n v : ℕ) → digits (m + n) v ≡ digits m v ++ digits n (v / 256 ^ m)
unfolding digits
digits-split zero n v = let e : v / 256 ^ 0 ≡ v = omega arith in rw (zero-add n, e)
digits-split (suc m) n v =
    let e : v / 256 / 256 ^ m ≡ v / 256 ^ suc m = div-div-eq-div-mul v 256 (256 ^ m) ∙ ap (λ (d : ℕ). v / d) (mul_comm 256 (256 ^ m) ∙ sym (pow-suc 256 m)) in
    rw (suc-add m n, digits) (ap (λ (y : List ℕ). v % 256 ∷ y) (digits-split m n (v / 256) ∙ ap (λ (x : ℕ). digits m (v / 256) ++ digits n x) e))

-- m bytes stored, then n
pub sets-digits-split : (m n v : ℕ) (p : List ℕ) (a : ℕ) → sets p a (digits (m + n) v) ≡ sets (sets p a (digits m v)) (a + m) (digits n (v / 256 ^ m))
sets-digits-split m n v p a =
    ap (sets p a) (digits-split m n v) ∙ sets-append p a (digits m v) (digits n (v / 256 ^ m))
    ∙ ap (λ (k : ℕ). sets (sets p a (digits m v)) (a + k) (digits n (v / 256 ^ m))) (length_digits m v)
