-- The rest of a header page: zeros as a list of them, and byte by byte. Assumes nothing.
use Prim.Native.Nat.{ℕ, zero, suc, ◌+◌, ◌-◌, ◌%◌, ◌≤◌, ◌<◌}
use mathlib.Core.Path.{◌≡◌, refl, sym, ap, ◌∙◌}
use mathlib.Core.Bool.{Bool, true, ◌&&◌}
use mathlib.Core.List.{List, [], ◌∷◌, ◌++◌}
use native.Mathlib.Omega.{arith}
use lib.Dec.{eqb}
use lib.Bits.{bit_or}
use lib.ListN.{length, take, drop, get_or, replicate, length-drop, length-append}
use Rattle.std.proofs.lemmas.List.{get_or_append_left}
use lib.Seq.{take_all, drop_at}
use Rattle.rules.specs.Words.{all_zero, field}
use Rattle.rules.specs.Shape.{page_size}
use Rattle.rules.specs.Header.{same}
use Rattle.rules.proofs.Bool.{and-true}
use Rattle.rules.proofs.Words.{number-cong}
use Rattle.rules.proofs.Zeros.{zeros_to, zeros-join}

same-zeros : (xs : List ℕ) (n : ℕ) → length xs ≡ n → same xs (replicate n 0) ≡ all_zero xs
unfolding same all_zero
same-zeros [] zero e = refl
same-zeros [] (suc n) e = absurd (omega arith)
same-zeros (x ∷ xs) zero e = absurd (omega arith)
same-zeros (x ∷ xs) (suc n) e = ap (λ (b : Bool). eqb x 0 && b) (same-zeros xs n (omega arith))

pub rest-zeros : (h : List ℕ) → length h ≡ page_size → zeros_to page_size h 0 20 ≡ same (drop 20 h) (replicate (page_size - 20) 0)
rest-zeros h l =
    let k : length (drop 20 h) ≡ page_size - 20 = length-drop 20 h ∙ ap (λ (x : ℕ). x - 20) l in
    ap all_zero (take_all (page_size - 20) (drop 20 h) (omega arith)) ∙ sym (same-zeros (drop 20 h) (page_size - 20) k)

field-front : (k : ℕ) (x t : List ℕ) → k ≤ length x → field k x 0 ≡ field k (x ++ t) 0
unfolding field
field-front k x t h =
    number-cong k (λ i. get_or x (0 + i) 0) (λ i. get_or (x ++ t) (0 + i) 0) (λ i l. sym (get_or_append_left x t 0 (0 + i) (omega arith)))

-- one more word, at the front of what is left
pub zeros_word : (bits r : ℕ) (s x t : List ℕ) → s ≡ x ++ t → length x ≡ 8 → r ≡ field 8 x 0 → (eqb (bit_or bits r) 0 && all_zero t) ≡ (eqb bits 0 && all_zero s)
zeros_word bits r s x t e l q =
    let n : length (x ++ t) ≡ length t + 8 = omega (arith, length-append x t) in
    let j = zeros-join (length (x ++ t)) 8 bits (x ++ t) 0 (omega arith) (q ∙ field-front 8 x t (omega arith)) in
    let f : take (length (x ++ t) - 8) (drop 8 (x ++ t)) ≡ t = rw (drop_at x t 8 l) (take_all (length (x ++ t) - 8) t (omega arith)) in
    let w : take (length (x ++ t) - 0) (x ++ t) ≡ x ++ t = take_all (length (x ++ t) - 0) (x ++ t) (omega arith) in
    rw (e) (ap (λ (u : List ℕ). eqb (bit_or bits r) 0 && all_zero u) (sym f) ∙ j ∙ ap (λ (u : List ℕ). eqb bits 0 && all_zero u) w)

-- what is left is shorter than a word
pub zeros_none : (bits : ℕ) (s : List ℕ) → length s % 8 ≡ 0 → length s < 8 → (eqb bits 0 && all_zero s) ≡ eqb bits 0
unfolding all_zero
zeros_none bits [] m l = and-true (eqb bits 0) true refl
zeros_none bits (x ∷ xs) m l = absurd (omega arith)
