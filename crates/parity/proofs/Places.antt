-- The places of a column: its rows are a row's bytes apart. Assumes nothing.
use Prim.Native.Nat.{ℕ, zero, suc, ◌+◌, ◌-◌, ◌*◌, ◌/◌, ◌%◌, ◌≤◌, ◌<◌}
use mathlib.Core.Path.{◌≡◌, refl, sym, ap, ◌∙◌}
use mathlib.Core.Bool.{Bool, true, false, cond}
use mathlib.Core.List.{List}
use native.Mathlib.Nat.{add-zero, zero-add, suc-mul, div-add-mod', div-lt_iff_lt-mul}
use native.Mathlib.Numerals.{add-one}
use native.Mathlib.Omega.{arith}
use lib.Arith.{digits_div, digits_mod, digits_lt}
use lib.Dec.{eqb}
use lib.ListN.{length, get_or}
use Rattle.std.specs.List.{filter, range_with_len, sum_by}
use Rattle.std.proofs.lemmas.List.Sums.{length-filter, sum_by-cons}
use Rattle.rules.specs.Words.{word}
use Rattle.rules.specs.Shape.{InZones, Shape, byte_at, off, pool_size, row, row_at, row_size, zone, zones_at}
use Rattle.rules.specs.Parity.{column_byte, parity_word, xor_to}
use Rattle.rules.specs.Scrub.{column_right, count_to, sum_to}
use Rattle.rules.proofs.Shape.{Good, cell-high, cell_self, fits, off-lt, row_in}
use Rattle.rules.proofs.Xor.{xor_to-cong}
use Rattle.columns.specs.Column.{RowsFit, Word, row_byte, row_word, rows_zero}
use Rattle.rules.proofs.Scrub.{all-cong}

-- ---- rows

pub byte-row : (sh : Shape) (z r o : ℕ) → byte_at sh z r o ≡ byte_at sh z 0 o + r * row_size sh
unfolding byte_at
byte-row sh z r o = omega arith

pub byte-off : (sh : Shape) (z r a o : ℕ) → byte_at sh z r (a + o) ≡ byte_at sh z 0 a + r * row_size sh + o
unfolding byte_at
byte-off sh z r a o = omega arith

-- ---- column c of zone z

module _ (sh : Shape) (g : Good sh) (z c : ℕ) (hz : z < sh.zones) (hc : c < sh.cols) where
  page-pos : 0 < sh.page
  page-pos = let h = g.page-min in omega arith

  pub column_fits : (p : List ℕ) (at n : ℕ) → at ≡ byte_at sh z 0 (c * sh.page) → n ≡ row_size sh → length p ≡ pool_size sh
      → RowsFit p at n (sh.rows + 1) sh.page
  column_fits p at n q w e =
      let h : sh.page - 1 < sh.page = (let k = page-pos in omega arith) in
      let l = cell-high sh g z sh.rows (c * sh.page + (sh.page - 1)) hz (omega arith) (digits_lt hc h) in
      let b = byte-off sh z sh.rows (c * sh.page) (sh.page - 1) in
      rw (q, w, e) (let k = page-pos in omega arith)

  pub column-judged : (p : List ℕ) (at n : ℕ) (r : Bool) → at ≡ byte_at sh z 0 (c * sh.page) → n ≡ row_size sh
      → r ≡ rows_zero p at n (sh.rows + 1) sh.page → r ≡ column_right sh p z c
  unfolding rows_zero column_right
  column-judged p at n r q w e =
      e ∙ rw (add-one, q, w) (all-cong sh.page (λ i. eqb (xor_to (suc sh.rows) (row_byte p (byte_at sh z 0 (c * sh.page)) (row_size sh) i)) 0) (λ i. eqb (column_byte sh p z (c * sh.page + i)) 0)
      (λ i h. ap (λ (x : ℕ). eqb x 0) (xor_to-cong (suc sh.rows) (row_byte p (byte_at sh z 0 (c * sh.page)) (row_size sh) i) (λ r. get_or p (byte_at sh z r (c * sh.page + i)) 0)
      (λ r k. ap (λ (x : ℕ). get_or p x 0) (sym (byte-off sh z r (c * sh.page) i))))))

-- ---- the column of a place

module _ (sh : Shape) (g : Good sh) where
  -- a place is the one that its column, row and offset tell
  pub column-place : (i k r : ℕ) → zones_at sh ≤ i → zone sh i * sh.cols + off sh i / sh.page ≡ k → row sh i ≡ r
      → i ≡ byte_at sh (k / sh.cols) 0 (k % sh.cols * sh.page) + r * row_size sh + off sh i % sh.page
  column-place i k r low e f =
      let l : off sh i / sh.page < sh.cols = (div-lt_iff_lt-mul {k = sh.page} (let h = g.page-min in omega arith)).1 (off-lt sh g i) in
      let a : k / sh.cols ≡ zone sh i = ap (λ (x : ℕ). x / sh.cols) (sym e) ∙ digits_div (zone sh i) l in
      let b : k % sh.cols ≡ off sh i / sh.page = ap (λ (x : ℕ). x % sh.cols) (sym e) ∙ digits_mod (zone sh i) l in
      sym (rw (a, b, ← f) (sym (byte-off sh (zone sh i) (row sh i) (off sh i / sh.page * sh.page) (off sh i % sh.page))
      ∙ ap (byte_at sh (zone sh i) (row sh i)) (div-add-mod' (off sh i) sh.page) ∙ cell_self sh g i low))

  -- ---- a target's parity

  pub target_fits : (p : List ℕ) (t at n : ℕ) → InZones sh t → at ≡ row_at sh t 0 → n ≡ row_size sh → length p ≡ pool_size sh → RowsFit p at n sh.rows 8
  unfolding row_at
  target_fits p t at n h q w e =
      let i = row_in sh g t sh.rows h (omega arith) in
      let k = fits sh g (byte_at sh (zone sh t) sh.rows (off sh t)) i.even i.high in
      let b = byte-row sh (zone sh t) sh.rows (off sh t) in
      rw (q, w, e) (omega arith)

  pub target-parity : (p : List ℕ) (t at n r : ℕ) → at ≡ row_at sh t 0 → n ≡ row_size sh → Word (xor_to sh.rows (row_word p at n)) r → Word (parity_word sh p t) r
  unfolding row_at parity_word
  target-parity p t at n r q w v =
      record {
        value = v.value ∙ rw (q, w) (xor_to-cong sh.rows (row_word p (byte_at sh (zone sh t) 0 (off sh t)) (row_size sh)) (λ k. word p (byte_at sh (zone sh t) k (off sh t)))
            (λ k h. ap (word p) (sym (byte-row sh (zone sh t) k (off sh t)))));
        small = v.small;
      }

-- ---- sums and counts as the code makes them, over a range

sum-from : (f : ℕ → ℕ) (a n : ℕ) → sum_to a f + sum_by f (range_with_len a n) ≡ sum_to (a + n) f
sum-from f a zero = rw (add-zero a) (add-zero (sum_to a f))
sum-from f a (suc n) =
    let h : sum_to (suc a) f + sum_by f (range_with_len (suc a) n) ≡ sum_to (suc a + n) f = sum-from f (suc a) n in
    let k : sum_to (suc a) f ≡ sum_to a f + f a = (unfold sum_to in refl) in
    let e : suc a + n ≡ a + suc n = omega arith in
    let l : sum_by f (range_with_len a (suc n)) ≡ f a + sum_by f (range_with_len (suc a) n) = sum_by-cons f a (range_with_len (a + 1) n) ∙ ap (λ (x : ℕ). f a + sum_by f (range_with_len x n)) (add-one a) in
    let m : sum_to (suc a + n) f ≡ sum_to (a + suc n) f = ap (λ (x : ℕ). sum_to x f) e in
    omega arith

pub sum-range : (f : ℕ → ℕ) (n : ℕ) → sum_by f (range_with_len 0 n) ≡ sum_to n f
unfolding sum_to
sum-range f n = sym (zero-add (sum_by f (range_with_len 0 n))) ∙ sum-from f 0 n ∙ ap (λ (x : ℕ). sum_to x f) (zero-add n)

count-sum : (f : ℕ → Bool) (n : ℕ) → sum_to n (λ k. cond (f k) 1 0) ≡ count_to n f
unfolding sum_to count_to
count-sum f zero = refl
count-sum f (suc n) = ap (λ (x : ℕ). x + cond (f n) 1 0) (count-sum f n)

pub count-range : (f : ℕ → Bool) (n : ℕ) → length (filter f (range_with_len 0 n)) ≡ count_to n f
count-range f n = length-filter f (range_with_len 0 n) ∙ sum-range (λ k. cond (f k) 1 0) n ∙ count-sum f n

pub count-most : (f : ℕ → Bool) (n : ℕ) → count_to n f ≤ n
unfolding count_to
count-most f zero = omega arith
count-most f (suc n) = let h = count-most f n in let k = cond-most (f n) in omega arith
  where
    cond-most : (b : Bool) → cond b 1 0 ≤ 1
    cond-most true = omega arith
    cond-most false = omega arith

pub sum-most : (f : ℕ → ℕ) (m n : ℕ) → ((k : ℕ) → f k ≤ m) → sum_to n f ≤ n * m
unfolding sum_to
sum-most f m zero h = omega arith
sum-most f m (suc n) h = let a = sum-most f m n h in let b = h n in rw (suc-mul n m) (omega arith)
