-- Zeros read as nothing; bits joined by `or` are zero where each part is; a part of a list is all zero where its fields are. Assumes nothing.
use Prim.Native.Nat.{ℕ, zero, suc, ◌+◌, ◌-◌, ◌*◌, ◌≤◌}
use mathlib.Core.Path.{◌≡◌, refl, sym, ap}
use mathlib.Core.Bool.{Bool, true, false, ◌&&◌}
use mathlib.Core.List.{List, [], ◌∷◌, ◌++◌}
use native.Mathlib.Nat.{add-zero, zero-add, suc-add}
use native.Mathlib.Omega.{arith}
use lib.Bits.{bit_or, and_le_r, or_add_and, or_zero_l}
use lib.Dec.{eqb}
use lib.ListN.{take, drop, get_or, replicate}
use borrow.Author.Tests.{eq-eqb, eqb-true, eqb-false, ne_eqb}
use Rattle.rules.specs.Words.{all_zero, field, number}
use Rattle.rules.proofs.Bool.{and-join, and_split, and-true, split}
use Rattle.rules.proofs.Words.{number-cong}

pub zeros-at : (n i : ℕ) → ◌≡◌ {A = ℕ} (get_or (replicate n 0) i 0) 0
zeros-at zero i = refl
zeros-at (suc n) zero = refl
zeros-at (suc n) (suc i) = zeros-at n i

-- zeros behind a list
pub then-zeros : (l : List ℕ) (n i : ℕ) → get_or (l ++ replicate n 0) i 0 ≡ get_or l i 0
then-zeros [] n i = zeros-at n i
then-zeros (x ∷ l) n zero = refl
then-zeros (x ∷ l) n (suc i) = then-zeros l n i

pub or-zero : (a b : ℕ) → eqb (bit_or a b) 0 ≡ (eqb a 0 && eqb b 0)
or-zero a b =
    split (eqb a 0)
    (λ e. let z : a ≡ 0 = eqb-true a 0 e in rw e (rw z (ap (λ (x : ℕ). eqb x 0) (or_zero_l b))))
    (λ e. rw e (ne_eqb (bit_or a b) 0 (λ z. eqb-false a 0 e (let s = or_add_and a b in let l = and_le_r a b in omega arith))))

-- ---- all zero

pub zero-each : (xs : List ℕ) → all_zero xs ≡ true → (i : ℕ) → get_or xs i 0 ≡ 0
unfolding all_zero
zero-each [] e i = refl
zero-each (x ∷ xs) e zero = eqb-true x 0 (and_split (eqb x 0) (all_zero xs) e).0
zero-each (x ∷ xs) e (suc i) = zero-each xs (and_split (eqb x 0) (all_zero xs) e).1 i

pub each-zero : (xs : List ℕ) → ((i : ℕ) → get_or xs i 0 ≡ 0) → all_zero xs ≡ true
unfolding all_zero
each-zero [] f = refl
each-zero (x ∷ xs) f = and-join _ _ (eq-eqb x 0 (f 0)) (each-zero xs (λ i. f (suc i)))

zero-byte : (p : List ℕ) (a n : ℕ) → all_zero (take (suc n) (drop a p)) ≡ (eqb (get_or p a 0) 0 && all_zero (take n (drop (suc a) p)))
unfolding all_zero
zero-byte [] zero zero = refl
zero-byte [] zero (suc n) = refl
zero-byte [] (suc a) zero = refl
zero-byte [] (suc a) (suc n) = refl
zero-byte (x ∷ p) zero n = refl
zero-byte (x ∷ p) (suc a) n = zero-byte p a n

and_assoc : (a b c : Bool) → ((a && b) && c) ≡ (a && (b && c))
and_assoc true b c = refl
and_assoc false b c = refl

zero-digit : (x y : ℕ) → eqb (x * 256 + y) 0 ≡ (eqb y 0 && eqb x 0)
zero-digit x y =
    split (eqb y 0)
    (λ e. let z : y ≡ 0 = eqb-true y 0 e in
    rw e (split (eqb x 0)
    (λ d. rw d (eq-eqb (x * 256 + y) 0 (let q = eqb-true x 0 d in omega arith)))
    (λ d. rw d (ne_eqb (x * 256 + y) 0 (λ q. eqb-false x 0 d (omega arith))))))
    (λ e. rw e (ne_eqb (x * 256 + y) 0 (λ z. eqb-false y 0 e (omega arith))))

-- k bytes are zero where the field that they spell is
zero_field : (k n : ℕ) (p : List ℕ) (a : ℕ) → all_zero (take (k + n) (drop a p)) ≡ (eqb (field k p a) 0 && all_zero (take n (drop (a + k) p)))
unfolding field number
zero_field zero n p a = rw (zero-add n, add-zero a)
zero_field (suc k) n p a =
    let c : number k (λ i. get_or p (a + suc i) 0) ≡ number k (λ i. get_or p (suc a + i) 0) = number-cong k _ _ (λ i h. ap (λ (j : ℕ). get_or p j 0) (omega arith)) in
    let e : suc a + k ≡ a + suc k = omega arith in
    rw (suc-add k n, zero-byte p a (k + n), zero_field k n p (suc a), e, add-zero a, zero-digit (number k (λ i. get_or p (a + suc i) 0)) (get_or p a 0), c)
    (sym (and_assoc (eqb (get_or p a 0) 0) (eqb (number k (λ i. get_or p (suc a + i) 0)) 0) (all_zero (take n (drop (a + suc k) p)))))

-- the bits of the fields passed are zero, and the bytes from place a to place e
abbrev pub zeros_to : ℕ → List ℕ → ℕ → ℕ → Bool
zeros_to e p bits a = eqb bits 0 && all_zero (take (e - a) (drop a p))

-- one more field, of k bytes
pub zeros-join : (e k bits : ℕ) (p : List ℕ) (a : ℕ) {r : ℕ} → a + k ≤ e → r ≡ field k p a → zeros_to e p (bit_or bits r) (a + k) ≡ zeros_to e p bits a
zeros-join e k bits p a m q =
    let n : k + (e - (a + k)) ≡ e - a = omega arith in
    rw (q, or-zero bits (field k p a), ← n, zero_field k (e - (a + k)) p a) (and_assoc (eqb bits 0) (eqb (field k p a) 0) (all_zero (take (e - (a + k)) (drop (a + k) p))))

pub zeros-end : (e bits : ℕ) (p : List ℕ) (a : ℕ) → e ≤ a → zeros_to e p bits a ≡ eqb bits 0
unfolding all_zero
zeros-end e bits p a m = let n : e - a ≡ 0 = omega arith in rw n (and-true (eqb bits 0) true refl)
