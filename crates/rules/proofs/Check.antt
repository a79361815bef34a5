-- The check is two sums modulo 65521 (`check-mod`), and may be brought up to date byte by byte (`check-updated`).
use Prim.Native.Nat.{ℕ, zero, suc, ◌+◌, ◌-◌, ◌*◌, ◌/◌, ◌%◌, ◌^◌, ◌≤◌, ◌<◌}
use mathlib.Core.Path.{◌≡◌, sym, ap, ap₂, ◌∙◌, subst}
use mathlib.Core.Logic.{◌⊎◌, inl, inr}
use mathlib.Core.List.{List, [], ◌∷◌, ◌++◌, append_assoc}
use native.Mathlib.Nat.{suc-mul, mul-add, add-mul, mul_left_comm, mul_comm, mul-zero, sub-zero, suc-sub-suc, div-add-mod, zero-mul}
use native.Mathlib.Decide.{dec_lt}
use native.Mathlib.Omega.{arith}
use lib.ListN.{length, take, drop, get_or, set, length-append, length-take, length-drop, length-set}
use borrow.Author.Tests.{lt-ltb, le-ltb}
use lib.Seq.{set-get_or}
use lib.IntN.{pos, negsuc, neg_ℤ, ◌-ℤ◌, ◌*ℤ◌}
use Rattle.rules.specs.Words.{Bytes}
use Rattle.rules.specs.Check.{check, high, low, modulus, moved, reduced, residue, total, updated, weighted}
use Rattle.rules.specs.Runs.{covered}
use Rattle.rules.proofs.Sets.{sets-right}

-- ---- the sums: the remainders after each byte leave the remainder of the whole

pub low_sum : (a : ℕ) (bs : List ℕ) → a < modulus → low a bs ≡ (a + total bs) % modulus
unfolding low reduced total
low_sum a [] h = omega arith
low_sum a (b ∷ bs) h = low_sum ((a + b) % modulus) bs (omega arith) ∙ omega arith

scale : (l y : ℕ) → l * y ≡ 65521 * (l * (y / 65521)) + l * (y % 65521)
scale l y = ap (λ z. l * z) (sym (div-add-mod y 65521)) ∙ mul-add l (65521 * (y / 65521)) (y % 65521) ∙ ap (λ z. z + l * (y % 65521)) (mul_left_comm l 65521 (y / 65521))

pub high_sum : (a h : ℕ) (bs : List ℕ) → h < modulus → high a h bs ≡ (h + length bs * a + weighted bs) % modulus
unfolding high reduced weighted
high_sum a h [] l = rw zero-mul (omega arith)
high_sum a h (b ∷ bs) l =
    high_sum ((a + b) % modulus) ((h + (a + b) % modulus) % modulus) bs (omega arith)
    ∙ rw (suc-mul (length bs) a, suc-mul (length bs) b) (omega (arith, scale (length bs) (a + b), mul-add (length bs) a b))

-- THE CHECK IS TWO SUMS MODULO 65521: of 1 and the bytes; of the low sums after each byte, so that each counts from itself to the end
pub check-mod : (bs : List ℕ) → check bs ≡ (length bs + weighted bs) % modulus * 65536 + (1 + total bs) % modulus
unfolding check
check-mod bs = ap₂ (λ (x y : ℕ). x * 65536 + y) (high_sum 1 0 bs (omega arith) ∙ ap (λ (z : ℕ). z % modulus) (omega arith)) (low_sum 1 bs (omega arith))

-- the same of bytes, as requirement 1 has it
pub check-sums : (bs : List ℕ) → Bytes bs → check bs ≡ (length bs + weighted bs) % modulus * 65536 + (1 + total bs) % modulus
check-sums bs k = check-mod bs

-- ---- one byte changes

total-set : (xs : List ℕ) (i v : ℕ) → i < length xs → total (set xs i v) ≡ total (set xs i 0) + v
unfolding total
total-set [] i v h = omega arith
total-set (x ∷ xs) zero v h = omega arith
total-set (x ∷ xs) (suc i) v h = omega (arith, total-set xs i v (omega arith))

weighted-set : (xs : List ℕ) (i v : ℕ) → i < length xs → weighted (set xs i v) ≡ weighted (set xs i 0) + (length xs - i) * v
unfolding weighted
weighted-set [] i v h = omega arith
weighted-set (x ∷ xs) zero v h = rw (mul-zero, sub-zero) (omega arith)
weighted-set (x ∷ xs) (suc i) v h = rw (length-set xs i v, length-set xs i 0, suc-sub-suc) (omega (arith, weighted-set xs i v (omega arith)))

-- a difference of two numbers, by its sign
pub difference : (u v : ℕ) → ((u ≤ v) × (pos v -ℤ pos u ≡ pos (v - u))) ⊎ ((v < u) × (pos v -ℤ pos u ≡ negsuc (u - suc v)))
difference zero v = inl (omega arith, ap pos (omega arith))
difference (suc u) v = go (dec_lt v (suc u))
  where
    go : Dec (v < suc u) → ((suc u ≤ v) × (pos v -ℤ pos (suc u) ≡ pos (v - suc u))) ⊎ ((v < suc u) × (pos v -ℤ pos (suc u) ≡ negsuc (suc u - suc v)))
    go (no h) = let k : suc u ≤ v = omega arith in inl (k, simp (le-ltb v (suc u) k))
    go (yes h) = inr (h, simp (lt-ltb v (suc u) h))

-- a sum that moves
moved_sum : (a n u v : ℕ) → moved ((a + n * u) % 65521) n u v ≡ (a + n * v) % 65521
moved_sum a n u v = go (difference u v)
  where
    neg : (p q r : ℕ) → p + r ≡ q → ((a + q) % 65521 + residue (neg_ℤ (pos p))) % 65521 ≡ (a + r) % 65521
    neg zero q r e = omega arith
    neg (suc p) q r e = omega arith

    go : ((u ≤ v) × (pos v -ℤ pos u ≡ pos (v - u))) ⊎ ((v < u) × (pos v -ℤ pos u ≡ negsuc (u - suc v))) → moved ((a + n * u) % 65521) n u v ≡ (a + n * v) % 65521
    go (inl p) =
        let e : (v - u) * n + n * u ≡ n * v = rw (mul_comm n u, mul_comm n v, ← add-mul (v - u) u n) (ap (λ z. z * n) (omega arith)) in
        subst (λ z. ((a + n * u) % 65521 + residue (z *ℤ pos n)) % 65521 ≡ (a + n * v) % 65521) (sym p.1) (omega arith)
    go (inr p) =
        let e : suc (u - suc v) * n + n * v ≡ n * u = rw (mul_comm n u, mul_comm n v, ← add-mul (suc (u - suc v)) v n) (ap (λ z. z * n) (omega arith)) in
        subst (λ z. ((a + n * u) % 65521 + residue (z *ℤ pos n)) % 65521 ≡ (a + n * v) % 65521) (sym p.1) (neg (suc (u - suc v) * n) (n * u) (n * v) e)

-- THE UPDATED CHECK EQUALS THE CHECK OF THE WHOLE: one byte of n, at place i from 0, becomes v
pub check-updated : (xs : List ℕ) (i v : ℕ) → Bytes xs → v < 256 → i < length xs → check (set xs i v) ≡ updated (check xs) (length xs - i) (get_or xs i 0) v
unfolding updated
check-updated xs i v hx hv h =
    let n : ℕ = length xs - i in
    let u : ℕ = get_or xs i 0 in
    let a : ℕ = length xs + weighted (set xs i 0) in
    let b : ℕ = 1 + total (set xs i 0) in
    let old : check xs ≡ (a + n * u) % 65521 * 65536 + (b + 1 * u) % 65521 =
    subst (λ (l : List ℕ). check l ≡ (a + n * u) % 65521 * 65536 + (b + 1 * u) % 65521) (set-get_or xs i 0) (at_place u) in
    let top : check xs / 65536 ≡ (a + n * u) % 65521 = omega arith in
    let bottom : check xs % 65536 ≡ (b + 1 * u) % 65521 = omega arith in
    at_place v
    ∙ sym (ap₂ (λ (x y : ℕ). x * 65536 + y) (ap (λ (z : ℕ). moved z n u v) top ∙ moved_sum a n u v) (ap (λ (z : ℕ). moved z 1 u v) bottom ∙ moved_sum b 1 u v))
  where
    at_place : (w : ℕ)
        → check (set xs i w) ≡ (length xs + weighted (set xs i 0) + (length xs - i) * w) % 65521 * 65536 + (1 + total (set xs i 0) + 1 * w) % 65521
    at_place w =
        check-mod (set xs i w)
        ∙ ap₂ (λ (x y : ℕ). x % 65521 * 65536 + y % 65521) (rw (length-set xs i w, weighted-set xs i w h) (omega arith)) (rw (total-set xs i w h) (omega arith))

-- a byte of the body, in the bytes that the check covers
pub covered-set : (h b : List ℕ) (j v : ℕ) → length h ≡ 16 → covered h (set b j v) ≡ set (covered h b) (12 + j) v
covered-set h b j v e =
    let f : List ℕ = take 8 h ++ take 4 (drop 12 h) in
    let l : length f ≡ 12 =
    length-append (take 8 h) (take 4 (drop 12 h)) ∙ rw (length-take 8 h, length-take 4 (drop 12 h), length-drop 12 h) (omega arith) in
    sym (append_assoc (take 8 h) (take 4 (drop 12 h)) (set b j v))
    ∙ sym (ap (λ (x : List ℕ). set x (12 + j) v) (sym (append_assoc (take 8 h) (take 4 (drop 12 h)) b))
    ∙ ap (λ (k : ℕ). set (f ++ b) (k + j) v) (sym l) ∙ sets-right f b j (v ∷ []))

-- the check of bytes fits 4 bytes
pub check-lt : (bs : List ℕ) → Bytes bs → check bs < 2 ^ 32
check-lt bs k = rw (check-mod bs) (omega arith)
