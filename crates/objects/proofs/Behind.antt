-- The bytes behind a body, word by word. Assumes nothing.
use Prim.Native.Nat.{ℕ, zero, suc, ◌+◌, ◌-◌, ◌*◌, ◌/◌, ◌%◌, ◌^◌, ◌≤◌}
use mathlib.Core.Path.{◌≡◌, refl, sym, ap, ap₂, ◌∙◌}
use mathlib.Core.Bool.{Bool, true, false, not, ◌&&◌, and-false}
use mathlib.Core.List.{List}
use native.Mathlib.Nat.{add-zero, suc-add, zero-add}
use native.Mathlib.Omega.{arith}
use lib.Arith.{digits_div}
use lib.Bits.{bit_or}
use lib.Dec.{eqb}
use lib.ListN.{get_or, take, drop}
use lib.Pow.{shr-shr}
use lib.Seq.{drop-drop, get_or-drop, get_or-take}
use borrow.Author.Tests.{not-false, not-true}
use Rattle.rules.specs.Words.{Bytes, all_zero, digits, field, number, word}
use Rattle.rules.specs.Check.{check}
use Rattle.rules.specs.Shape.{body_limit}
use Rattle.rules.specs.Runs.{cells_for, covered, good_in, head_cells, head_check, head_length, object_ok}
use Rattle.rules.proofs.Bool.{and-true}
use Rattle.rules.proofs.Words.{field-part, number-cong}
use Rattle.rules.proofs.Zeros.{zeros-end, zeros-join, zeros_to}
use Rattle.rules.proofs.Good.{good-tests}
use Rattle.rules.proofs.Laid.{object-says}
use Rattle.stage.specs.View.{Reads, part}

-- a field without its j low bytes
field_shr : (j n : ℕ) (v : List ℕ) (a : ℕ) → Bytes v → field (j + n) v a / 2 ^ (8 * j) ≡ field n v (a + j)
unfolding field number
field_shr zero n v a h = rw (zero-add n, add-zero a) (omega arith)
field_shr (suc j) n v a h =
    let e : 8 * suc j ≡ 8 + 8 * j = omega arith in
    let d : a + suc j ≡ suc a + j = omega arith in
    let c : number (j + n) (λ i. get_or v (a + suc i) 0) ≡ number (j + n) (λ i. get_or v (suc a + i) 0) = number-cong (j + n) _ _ (λ i l. ap (λ (k : ℕ). get_or v k 0) (omega arith)) in
    rw (suc-add j n, e, d, ← (shr-shr (number (suc (j + n)) (λ i. get_or v (a + i) 0)) 8 (8 * j)), digits_div (number (j + n) (λ i. get_or v (a + suc i) 0)) (h (a + 0)), c) (field_shr j n v (suc a) h)

bytes_digits : (k w : ℕ) → Bytes (digits k w)
unfolding digits
bytes_digits zero w i = omega arith
bytes_digits (suc k) w zero = omega arith
bytes_digits (suc k) w (suc i) = bytes_digits k (w / 256) i

-- the word at place a without its j low bytes
reads-shr : {v : List ℕ} {a w : ℕ} (j n : ℕ) → j + n ≡ 8 → Reads v a w → w / 2 ^ (8 * j) ≡ field n v (a + j)
unfolding word part field
reads-shr {v} {a} {w} j n e r =
    let d : w ≡ field (j + n) (digits 8 w) 0 = r.value ∙ field-part 8 v a ∙ ap (λ (x : List ℕ). field 8 x 0) (sym r.bytes) ∙ ap (λ (k : ℕ). field k (digits 8 w) 0) (sym e) in
    let s : field (j + n) (digits 8 w) 0 / 2 ^ (8 * j) ≡ field n (digits 8 w) (0 + j) = field_shr j n (digits 8 w) 0 (bytes_digits 8 w) in
    ap (λ (x : ℕ). x / 2 ^ (8 * j)) d ∙ s ∙ ap (λ (x : List ℕ). field n x (0 + j)) r.bytes ∙ (
    number-cong n (λ i. get_or (take 8 (drop a v)) (0 + j + i) 0) (λ i. get_or v (a + j + i) 0)
    (λ i h. get_or-take 8 (drop a v) (0 + j + i) 0 (omega arith) ∙ get_or-drop a v (0 + j + i) 0 ∙ ap (λ (k : ℕ). get_or v k 0) (omega arith)))

-- the word in which a body of m bytes from place p on ends, without the body's bytes
word-behind : {v : List ℕ} (p m : ℕ) {w : ℕ} → 1 ≤ m → Reads v (p + (m - 1) / 8 * 8) w → w / 2 ^ (8 * ((m - 1) % 8)) / 256 ≡ field (7 - (m - 1) % 8) v (p + m)
word-behind {v} p m {w} l r =
    let j : ℕ = (m - 1) % 8 in
    let e : 8 * j + 8 ≡ 8 * (j + 1) = omega arith in
    let n : j + 1 + (7 - j) ≡ 8 = omega arith in
    let d : p + (m - 1) / 8 * 8 + (j + 1) ≡ p + m = omega arith in
    shr-shr w (8 * j) 8 ∙ ap (λ (x : ℕ). w / 2 ^ x) e ∙ reads-shr (j + 1) (7 - j) n r ∙ ap (field (7 - j) v) d

-- the word at place a, and the place i behind it
pub behind-start : (v : List ℕ) (p m : ℕ) {e a i w : ℕ} → 1 ≤ m → a ≡ p + (m - 1) / 8 * 8 → i ≡ a + 8 → i ≤ e → Reads v a w → zeros_to e v (w / 2 ^ (8 * ((m - 1) % 8)) / 256) i ≡ zeros_to e v 0 (p + m)
behind-start v p m {e} {a} {i} {w} l f g k r =
    let d : i ≡ p + m + (7 - (m - 1) % 8) = omega arith in
    rw d (zeros-join e (7 - (m - 1) % 8) 0 v (p + m) (omega arith) (word-behind p m l (rw f at r)))

-- one more word
pub behind-step : (v : List ℕ) (bits : ℕ) {e i j w : ℕ} {x : Bool} → j ≡ i + 8 → j ≤ e → Reads v i w → zeros_to e v bits i ≡ x → zeros_to e v (bit_or bits w) j ≡ x
unfolding word
behind-step v bits {e} {i} d k r h = rw d (zeros-join e 8 bits v i (omega arith) r.value) ∙ h

-- the run at place a ends
pub behind-end : (v : List ℕ) (a m bits : ℕ) {e i : ℕ} → e ≡ a + 64 * cells_for m → e ≤ i → zeros_to e v bits i ≡ zeros_to e v 0 (a + 16 + m)
    → eqb bits 0 ≡ all_zero (part (64 * cells_for m - (16 + m)) (a + 16 + m) v)
unfolding part
behind-end v a m bits {e} {i} q k h =
    let n : e - (a + 16 + m) ≡ 64 * cells_for m - (16 + m) = omega arith in
    sym (zeros-end e bits v i k) ∙ h ∙ ap (λ (x : ℕ). all_zero (take x (drop (a + 16 + m) v))) n

-- the word in which the body ends lies in the run
pub last_word : (m : ℕ) → 1 ≤ m → 16 + (m - 1) / 8 * 8 + 8 ≤ 64 * cells_for m
unfolding cells_for
last_word m h = omega arith

-- ---- the object with the head h at place a: z tells whether the bytes behind its body are zero

module _ (v : List ℕ) (a : ℕ) (h : List ℕ) {m : ℕ} (o : object_ok h ≡ true) (j : m ≡ head_length h) {z : Bool} (q : z ≡ all_zero (part (64 * cells_for m - (16 + m)) (a + 16 + m) v)) where
  good-by : {x y : ℕ} → x ≡ head_check h → y ≡ check (covered h (part m (a + 16) v)) → (eqb x y && z) ≡ good_in h (drop (a + 16) v)
  unfolding part
  good-by e f =
      let n : 64 * cells_for m - (16 + m) ≡ 64 * head_cells h - (16 + head_length h) = rw (j, ← (object-says h o).len) in
      let d : drop (a + 16 + m) v ≡ drop (head_length h) (drop (a + 16) v) = rw j (sym (drop-drop (head_length h) (a + 16) v)) in
      good-tests h (drop (a + 16) v) e (rw j at f) (q ∙ ap₂ (λ (k : ℕ) (l : List ℕ). all_zero (take k l)) n d)

  pub stray-bytes : not z ≡ true → false ≡ good_in h (drop (a + 16) v)
  stray-bytes p = rw (not-true z p, and-false) at (good-by refl refl)

  pub no-stray-bytes : not z ≡ false → {x y : ℕ} → x ≡ head_check h → y ≡ check (covered h (part m (a + 16) v)) → eqb x y ≡ good_in h (drop (a + 16) v)
  no-stray-bytes p {x} {y} e f = sym (and-true (eqb x y) z (not-false z p)) ∙ good-by e f

-- what the zeros behind its body ask
pub behind-asks : (h : List ℕ) (a : ℕ) {m k : ℕ} → object_ok h ≡ true → m ≡ head_length h → a + 64 * head_cells h ≤ k → (1 ≤ m) × (m ≤ body_limit) × (a + 64 * cells_for m ≤ k)
behind-asks h a o j l = let s = object-says h o in (rw j s.some, rw j s.most, rw (j, ← s.len) l)
