-- Parity by words and by bytes, and bytes of pools whose words agree: of a shape with a page of whole words (`Good`). Assumes nothing else.
use mathlib.Core.Path.{◌≡◌, refl, sym, ap, ap₂, ◌∙◌, subst}
use mathlib.Core.List.{List}
use Prim.Native.Nat.{ℕ, zero, suc, ◌+◌, ◌-◌, ◌*◌, ◌/◌, ◌%◌, ◌<◌, zero-le}
use native.Mathlib.Nat.{zero-lt-suc, div-add-mod', mod-lt, div-div-eq-div-mul, mul-mod_right}
use native.Mathlib.Omega.{arith}
use lib.Bits.{bit_xor}
use lib.ListN.{get_or}
use Rattle.rules.specs.Words.{Bytes, number, word, field}
use Rattle.rules.specs.Shape.{InZones, Shape, byte_at, off, row, row_at, row_size, zone, zones_at}
use Rattle.rules.specs.Parity.{Parity, parity_word, xor_to}
use Rattle.rules.proofs.Xor.{xor_to-cong, xor_to-last, xor_to-lt, xor_to-zero}
use Rattle.rules.proofs.Words.{number-inj, number-xor, number-zero}
use Rattle.rules.proofs.Shape.{Good, cell_in, off-cell, off-even, off-lt, page-eq, zone-cell, zone-lt}
use Rattle.powercut.proofs.FinalPool.{ParityW}

-- an exclusive or of words is that of their bytes
pub xor-words : (n : ℕ) (p : List ℕ) (f : ℕ → ℕ) → Bytes p → xor_to n (λ r. word p (f r)) ≡ number 8 (λ i. xor_to n (λ r. get_or p (f r + i) 0))
unfolding xor_to word field
xor-words zero p f h = sym (number-zero 8 (λ i. 0) (λ i l. refl))
xor-words (suc n) p f h =
    ap (λ (x : ℕ). bit_xor x (word p (f n))) (xor-words n p f h)
    ∙ number-xor 8 (λ i. xor_to n (λ r. get_or p (f r + i) 0)) (λ i. get_or p (f n + i) 0)
    (λ i. xor_to-lt 8 n (λ r. get_or p (f r + i) 0) (λ r l. h (f r + i)) (zero-lt-suc 255)) (λ i. h (f n + i))

-- bytes of equal words are equal
pub word_bytes : (p q : List ℕ) (a i : ℕ) → Bytes p → Bytes q → word p a ≡ word q a → i < 8 → get_or p (a + i) 0 ≡ get_or q (a + i) 0
unfolding word field
word_bytes p q a i hp hq e l = number-inj 8 (λ j. get_or p (a + j) 0) (λ j. get_or q (a + j) 0) (λ j. hp (a + j)) (λ j. hq (a + j)) e i l

-- a byte by its word: i is in the word at i / 8 * 8
pub byte-at : (p q : List ℕ) (i : ℕ) → Bytes p → Bytes q → word p (i / 8 * 8) ≡ word q (i / 8 * 8) → get_or p i 0 ≡ get_or q i 0
byte-at p q i hp hq e =
    subst (λ (j : ℕ). get_or p j 0 ≡ get_or q j 0) (div-add-mod' i 8) (word_bytes p q (i / 8 * 8) (i % 8) hp hq e (mod-lt i (zero-lt-suc 7)))

module _ (sh : Shape) (g : Good sh) where
  cell-add : (z r o i : ℕ) → byte_at sh z r o + i ≡ byte_at sh z r (o + i)
  unfolding byte_at
  cell-add z r o i = omega arith

  span-eq : row_size sh ≡ 8 * (sh.cols * (sh.page / 8))
  span-eq = ap (λ (x : ℕ). sh.cols * x) (page-eq sh g) ∙ units (sh.page / 8) where
    units : (u : ℕ) → sh.cols * (u * 8) ≡ 8 * (sh.cols * u)
    units u = omega arith

  span-even : row_size sh % 8 ≡ 0
  span-even = ap (λ (x : ℕ). x % 8) span-eq ∙ mul-mod_right 8 (sh.cols * (sh.page / 8))

  pub parity-words : (p : List ℕ) → Bytes p → Parity sh p → ParityW sh p
  unfolding parity_word row_at
  parity-words p hb h t i =
      xor_to-last sh.rows (λ r. word p (row_at sh t r))
      (xor-words (suc sh.rows) p (row_at sh t) hb ∙ number-zero 8 _ (λ j l. xor_to-cong (suc sh.rows) _ _ (λ r k. ap (λ (a : ℕ). get_or p a 0) (cell-add (zone sh t) r (off sh t) j))
      ∙ h (zone sh t) (off sh t + j) (zone-lt sh g t i)
      (let a = off-even sh g t i.low i.even in let b = span-even in let d = off-lt sh g t in omega arith)))

  at-cell : (t z r o : ℕ) → zone sh t ≡ z → off sh t ≡ o / 8 * 8 → row_at sh t r + o % 8 ≡ byte_at sh z r o
  unfolding row_at
  at-cell t z r o e i =
      ap₂ (λ (x y : ℕ). byte_at sh x r y + o % 8) e i ∙ cell-add z r (o / 8 * 8) (o % 8) ∙ ap (byte_at sh z r) (div-add-mod' o 8)

  pub parity-bytes : (p : List ℕ) → Bytes p → ParityW sh p → Parity sh p
  unfolding parity_word
  parity-bytes p hb h z o hz ho =
      xor_to-cong (suc sh.rows) (λ r. get_or p (byte_at sh z r o) 0) (λ r. get_or p (row_at sh t r + o % 8) 0) (λ r k. ap (λ (a : ℕ). get_or p a 0) (sym (at r)))
      ∙ number-inj 8 (λ j. xor_to (suc sh.rows) (λ r. get_or p (row_at sh t r + j) 0)) (λ j. 0)
      (λ j. xor_to-lt 8 (suc sh.rows) _ (λ r l. hb (row_at sh t r + j)) (zero-lt-suc 255)) (λ j. zero-lt-suc 255)
      (sym (xor-words (suc sh.rows) p (row_at sh t) hb) ∙ xor_to-zero sh.rows (λ r. word p (row_at sh t r)) (h t i) ∙ sym (number-zero 8 (λ j. 0) (λ j l. refl)))
      (o % 8) (mod-lt o (zero-lt-suc 7))
    where
      t : ℕ
      t = byte_at sh z 0 (o / 8 * 8)

      small : o / 8 * 8 < row_size sh
      small = omega arith

      i : InZones sh t
      i = cell_in sh g z 0 (o / 8 * 8) hz zero-le small (omega arith)

      at : (r : ℕ) → row_at sh t r + o % 8 ≡ byte_at sh z r o
      at r = at-cell t z r o (zone-cell sh g z 0 (o / 8 * 8) zero-le small) (off-cell sh g z 0 (o / 8 * 8) small)

  pub row-byte : (i : ℕ) → row sh (i / 8 * 8) ≡ row sh i
  unfolding row
  row-byte i = ap (λ (x : ℕ). x % (sh.rows + 1)) (ap (λ (y : ℕ). (i / 8 * 8 - zones_at sh) / y) span-eq ∙ eights ∙ ap (λ (y : ℕ). (i - zones_at sh) / y) (sym span-eq)) where
    w : ℕ
    w = sh.cols * (sh.page / 8)

    units : (i - zones_at sh) / 8 ≡ (i / 8 * 8 - zones_at sh) / 8
    units = ap (λ (y : ℕ). (i - 18 * y) / 8) (page-eq sh g) ∙ go (sh.page / 8) ∙ ap (λ (y : ℕ). (i / 8 * 8 - 18 * y) / 8) (sym (page-eq sh g)) where
      go : (u : ℕ) → (i - 18 * (u * 8)) / 8 ≡ (i / 8 * 8 - 18 * (u * 8)) / 8
      go u = omega arith

    eights : (i / 8 * 8 - zones_at sh) / (8 * w) ≡ (i - zones_at sh) / (8 * w)
    eights = sym (div-div-eq-div-mul (i / 8 * 8 - zones_at sh) 8 w) ∙ ap (λ (y : ℕ). y / w) (sym units) ∙ div-div-eq-div-mul (i - zones_at sh) 8 w
