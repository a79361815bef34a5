-- Pages in exclusive or, one more byte and one more row at a time; bytes judged zero. Assumes nothing.
use Prim.Native.Nat.{ℕ, zero, suc, ◌+◌, ◌-◌, ◌*◌, ◌≤◌, ◌<◌}
use mathlib.Core.Path.{◌≡◌, refl, sym, ap, ap₂, ◌∙◌}
use mathlib.Core.Bool.{Bool, ◌&&◌}
use mathlib.Core.List.{List, ◌∷◌, ◌++◌}
use native.Mathlib.Nat.{zero-add}
use native.Mathlib.Numerals.{add-one}
use native.Mathlib.Omega.{arith}
use borrow.Author.Tests.{eq-eqb, ne_eqb}
use lib.Bits.{bit_or, bit_xor, xor_zero_r}
use lib.Dec.{eqb}
use lib.ListN.{length, take, drop, get_or, replicate, length-append, length-replicate, replicate-append-replicate}
use lib.Seq.{length-take-le, take_at}
use Rattle.rules.specs.Parity.{skip, xor_to}
use Rattle.rules.specs.Repair.{tab_from}
use Rattle.rules.specs.Scrub.{all_to}
use Rattle.rules.proofs.Words.{sets-after}
use Rattle.rules.proofs.Sets.{sets-all}
use Rattle.rules.proofs.Repair.{tab-at, tab-cong, tab-length}
use Rattle.rules.proofs.Scrub.{all-cong}
use Rattle.rules.proofs.Zeros.{or-zero}
use Rattle.rules.proofs.Xor.{skip-else, xor_to-cong}
use Rattle.columns.proofs.Storing.{Storing, storing-end}
use Rattle.columns.specs.Column.{other_byte, row_byte, rows_zero, xored, zeros}

-- ---- one more byte

pub xored-length : (s p : List ℕ) (at : ℕ) → length (xored s p at) ≡ length s
unfolding xored
xored-length s p at = tab-length 0 (length s) _

module _ (s p : List ℕ) (at : ℕ) {s' : List ℕ} {i : ℕ} (f : Storing s 0 (xored s p at) s' i) where
  -- the byte that is read is still as it was
  pub xored-byte : i < length s → bit_xor (get_or s' i 0) (get_or p (at + i) 0) ≡ get_or (xored s p at) i 0
  unfolding xored
  xored-byte h =
      ap (λ (x : ℕ). bit_xor x (get_or p (at + i) 0)) (ap (λ (x : List ℕ). get_or x i 0) f.now-is ∙ sets-after s 0 (take i (xored s p at)) i (let l = length-take-le i (xored s p at) f.le in omega arith))
      ∙ sym (tab-at 0 (length s) (λ j. bit_xor (get_or s j 0) (get_or p (at + j) 0)) i h ∙ rw (zero-add i))

  pub xored-end : length s ≤ i → s' ≡ xored s p at
  xored-end h = storing-end f (let l = xored-length s p at in omega arith) ∙ sets-all s (xored s p at) (sym (xored-length s p at))

-- ---- one more row

zeros-tab : (k n : ℕ) (f : ℕ → ℕ) → ((i : ℕ) → f i ≡ 0) → replicate n 0 ≡ tab_from k n f
unfolding tab_from
zeros-tab k zero f h = refl
zeros-tab k (suc n) f h = ap₂ ◌∷◌ (sym (h k)) (zeros-tab (suc k) n f h)

module _ (p : List ℕ) (at stride l n : ℕ) where
  pub pages-none : replicate n 0 ≡ tab_from 0 n (other_byte p at stride 0 l)
  unfolding other_byte xor_to
  pages-none = zeros-tab 0 n (other_byte p at stride 0 l) (λ i. refl)

  -- a row that counts, and the one left out
  pub pages-row : {k : ℕ} {s s' : List ℕ} → s ≡ tab_from 0 n (other_byte p at stride k l) → (k ≡ l → ⊥) → s' ≡ xored s p (at + k * stride)
      → s' ≡ tab_from 0 n (other_byte p at stride (k + 1) l)
  unfolding other_byte xor_to xored
  pages-row {k} {s} {s'} e m f =
      let w : length s ≡ n = ap length e ∙ tab-length 0 n (other_byte p at stride k l) in
      f ∙ rw (w, add-one k) (tab-cong n _ (other_byte p at stride (suc k) l) (λ i h.
      rw (ne_eqb l k (λ q. m (sym q))) (ap (λ (x : ℕ). bit_xor x (row_byte p at stride i k)) (ap (λ (x : List ℕ). get_or x i 0) e ∙ tab-at 0 n (other_byte p at stride k l) i h ∙ ap (other_byte p at stride k l) (zero-add i)))))

  pub pages-out : {k : ℕ} → k ≡ l → tab_from 0 n (other_byte p at stride k l) ≡ tab_from 0 n (other_byte p at stride (k + 1) l)
  unfolding other_byte xor_to
  pages-out {k} e = rw (add-one k) (tab-cong n _ _ (λ i h. rw (eq-eqb l k (sym e)) (sym (xor_zero_r (xor_to k (skip l (row_byte p at stride i)))))))

-- ---- the front of a buffer of m zeros, n bytes of it

-- as many bytes fit as well
pub same-room : (a n k l : ℕ) → k ≡ n → a + n ≤ l → a + k ≤ l
same-room a n k l e h = omega arith

module _ (n m : ℕ) (h : n ≤ m) where
  pub front_length : length (take n (replicate {A = ℕ} m 0)) ≡ n
  front_length = length-take-le n (replicate m 0) (rw length-replicate h)

  pub front-zeros : take n (replicate {A = ℕ} m 0) ≡ replicate (length (take n (replicate {A = ℕ} m 0))) 0
  front-zeros =
      let e : m ≡ n + (m - n) = omega arith in
      ap (λ (x : ℕ). take n (replicate {A = ℕ} x 0)) e ∙ ap (take {A = ℕ} n) (sym (replicate-append-replicate {A = ℕ} n (m - n) 0))
      ∙ take_at (replicate n 0) (replicate (m - n) 0) n (length-replicate n 0) ∙ ap (λ (x : ℕ). replicate x 0) (sym front_length)

  -- other bytes in its place
  module _ (s : List ℕ) (e : length s ≡ length (take n (replicate {A = ℕ} m 0))) where
    pub front_fits : n ≤ length (s ++ drop n (replicate m 0))
    front_fits = rw (length-append s (drop n (replicate m 0))) (let l = e ∙ front_length in omega arith)

    front-left : take n (s ++ drop n (replicate m 0)) ≡ s
    front-left = take_at s (drop n (replicate m 0)) n (e ∙ front_length)

    pub front-count : length (take n (s ++ drop n (replicate m 0))) ≡ n
    front-count = ap length front-left ∙ e ∙ front_length

    pub front-filled : (f : ℕ → ℕ) → s ≡ tab_from 0 (length (take n (replicate {A = ℕ} m 0))) f → take n (s ++ drop n (replicate m 0)) ≡ tab_from 0 n f
    front-filled f q = front-left ∙ q ∙ ap (λ (x : ℕ). tab_from 0 x f) front_length

-- ---- bytes judged zero

pub zeros-more : (s : List ℕ) (i any : ℕ) → eqb any 0 ≡ zeros s i → eqb (bit_or any (get_or s i 0)) 0 ≡ zeros s (i + 1)
unfolding zeros all_to
zeros-more s i any e = or-zero any (get_or s i 0) ∙ rw (add-one i) (ap (λ (b : Bool). b && eqb (get_or s i 0) 0) e)

-- no row is left out where the one behind the last is
pub rows-judged : (p : List ℕ) (at stride rows n : ℕ) {s : List ℕ} {r : Bool} → s ≡ tab_from 0 n (other_byte p at stride rows rows) → r ≡ zeros s (length s)
    → r ≡ rows_zero p at stride rows n
unfolding other_byte zeros rows_zero
rows-judged p at stride rows n {s} {r} e f =
    f ∙ ap (zeros s) (ap length e ∙ tab-length 0 n (other_byte p at stride rows rows))
    ∙ all-cong n _ _ (λ i h. ap (λ (x : ℕ). eqb x 0) (ap (λ (x : List ℕ). get_or x i 0) e ∙ tab-at 0 n (other_byte p at stride rows rows) i h ∙ ap (other_byte p at stride rows rows) (zero-add i)
    ∙ xor_to-cong rows _ (row_byte p at stride i) (λ k l. skip-else rows (row_byte p at stride i) k (omega arith))))
