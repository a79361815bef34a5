-- Repair column by column: with the first k masks of the list the first k columns are rebuilt. Assumes nothing.
use Prim.Native.Nat.{ℕ, suc, ◌+◌, ◌-◌, ◌*◌, ◌/◌, ◌%◌, ◌^◌, ◌≤◌, ◌<◌}
use mathlib.Core.Path.{◌≡◌, sym, ap, ap₂, ◌∙◌}
use mathlib.Core.Logic.{◌≢◌, ◌⊎◌, inl, inr}
use mathlib.Core.Bool.{Bool, false, cond}
use mathlib.Core.List.{List}
use native.Mathlib.Nat.{div-add-mod', div-lt_iff_lt-mul, mod-lt, zero-add, zero-div}
use native.Mathlib.Numerals.{add-one}
use native.Mathlib.Decide.{ℕ_discrete, dec_le, dec_lt}
use native.Mathlib.Omega.{arith}
use borrow.Author.Tests.{eq-eqb, le-leb, leb-true, ne_eqb}
use lib.Arith.{digits_lt}
use lib.Count.{ones, count_trailing_zeros}
use lib.Dec.{eqb, leb}
use lib.ListN.{length, take, drop, get_or, length-take, get_or-eq_default}
use lib.Seq.{sets, length-sets, ext_get_or, get_or-take, take-length}
use Rattle.rules.specs.Shape.{Shape, byte_at, off, pool_size, row, row_at, row_size, zone, zones_at}
use Rattle.rules.specs.Parity.{skip, xor_to}
use Rattle.rules.specs.Repair.{any_above, any_two, bit, differences, lost, mask_at, rebuilt, repaired, tab_from}
use Rattle.rules.proofs.Bool.{split}
use Rattle.rules.proofs.Words.{sets-after, sets-before, sets-in}
use Rattle.rules.proofs.Xor.{xor_to-cong}
use Rattle.rules.proofs.Shape.{Good, cell-high, cell-low, column-cell, off-cell, row-cell, zone-cell}
use Rattle.rules.proofs.Parts.{part_ext}
use Rattle.rules.proofs.Differences.{differences-most, differences-same, differences-sets, differences-stored}
use Rattle.rules.proofs.Sound.{single-bits}
use Rattle.rules.proofs.Repair.{bit-unique, repaired-at, repaired-length, tab-at, tab-length}
use Rattle.columns.specs.Column.{other_byte, row_byte}
use Rattle.parity.proofs.Places.{byte-off, column-place}
use Rattle.repair.specs.Column.{column_at, column_rebuilt}
use Rattle.repair.proofs.Masks.{above-bits, lost-row, one_bit}

-- ---- the first masks

past : (k : ℕ) (ms : List ℕ) (j : ℕ) → k ≤ j → get_or (take k ms) j 0 ≡ 0
past k ms j h = get_or-eq_default (take k ms) 0 (rw (length-take k ms) (omega arith))

next : (k : ℕ) (ms : List ℕ) (j : ℕ) → j ≢ k → get_or (take (suc k) ms) j 0 ≡ get_or (take k ms) j 0
next k ms j n = go (dec_lt j k)
  where
    go : Dec (j < k) → get_or (take (suc k) ms) j 0 ≡ get_or (take k ms) j 0
    go (yes l) = get_or-take (suc k) ms j 0 (omega arith) ∙ sym (get_or-take k ms j 0 l)
    go (no l) = past (suc k) ms j (omega arith) ∙ sym (past k ms j (omega arith))

-- no bit of 0 is set
bit-zero : (m r : ℕ) → m ≡ 0 → eqb (bit m r) 1 ≡ false
bit-zero m r e = rw (e, zero-div (2 ^ r))

module _ (sh : Shape) (p : List ℕ) where
  -- a byte whose column has no lost page stays
  repaired-kept : (ms : List ℕ) (i : ℕ) → i < length p → mask_at sh ms i ≡ 0 → get_or (repaired sh ms p) i 0 ≡ get_or p i 0
  repaired-kept ms i h e = repaired-at sh p ms i h ∙ rw (bit-zero (mask_at sh ms i) (row sh i) e) (split (leb (zones_at sh) i) (λ q. rw q) (λ q. rw q))

  -- a list tells only by its masks
  repaired-same : (ms ns : List ℕ) → ((j : ℕ) → get_or ms j 0 ≡ get_or ns j 0) → repaired sh ms p ≡ repaired sh ns p
  repaired-same ms ns h =
      ext_get_or 0 _ _ (repaired-length sh p ms ∙ sym (repaired-length sh p ns)) (λ i l.
      let k : i < length p = rw (repaired-length sh p ms) at l in
      repaired-at sh p ms i k ∙ rw (h (zone sh i * sh.cols + off sh i / sh.page)) (sym (repaired-at sh p ns i k)))

  pub repaired-none : (ms : List ℕ) → repaired sh (take 0 ms) p ≡ p
  repaired-none ms =
      ext_get_or 0 _ _ (repaired-length sh p (take 0 ms)) (λ i l. repaired-kept (take 0 ms) i (rw (repaired-length sh p (take 0 ms)) at l) (past 0 ms (zone sh i * sh.cols + off sh i / sh.page) (omega arith)))

  -- a mask of no bits
  pub repaired-zero : (ms : List ℕ) (k : ℕ) → get_or ms k 0 ≡ 0 → repaired sh (take (k + 1) ms) p ≡ repaired sh (take k ms) p
  repaired-zero ms k e =
      rw add-one (repaired-same (take (suc k) ms) (take k ms) (λ j. go j (ℕ_discrete j k)))
    where
      go : (j : ℕ) → Dec (j ≡ k) → get_or (take (suc k) ms) j 0 ≡ get_or (take k ms) j 0
      go j (yes q) = get_or-take (suc k) ms j 0 (omega arith) ∙ ap (λ (x : ℕ). get_or ms x 0) q ∙ e ∙ sym (past k ms j (omega arith))
      go j (no n) = next k ms j n

-- ---- a mask of one bit: its column's lost page is rebuilt

module _ (sh : Shape) (g : Good sh) (p ms : List ℕ) (size : length p ≡ pool_size sh) (k r : ℕ)
    (hz : k / sh.cols < sh.zones) (one : ones (get_or ms k 0) ≤ 1) (set : bit (get_or ms k 0) r ≡ 1) (hr : r ≤ sh.rows) where
  col-lt : k % sh.cols < sh.cols
  col-lt = mod-lt k g.cols-pos

  -- the column, and its lost page
  abbrev at : ℕ
  at = byte_at sh (k / sh.cols) 0 (k % sh.cols * sh.page)

  abbrev cell : ℕ → ℕ → ℕ
  cell r o = byte_at sh (k / sh.cols) r (k % sh.cols * sh.page + o)

  in-column : (r o : ℕ) → r ≤ sh.rows → o < sh.page → zone sh (cell r o) * sh.cols + off sh (cell r o) / sh.page ≡ k
  in-column r o h l = column-cell sh g (k / sh.cols) r (k % sh.cols) o h col-lt l ∙ div-add-mod' k sh.cols

  in_row : (o r' : ℕ) → o < sh.page → row_at sh (cell r o) r' ≡ cell r' o
  unfolding row_at
  in_row o r' l = rw (zone-cell sh g (k / sh.cols) r (k % sh.cols * sh.page + o) hr (digits_lt col-lt l), off-cell sh g (k / sh.cols) r (k % sh.cols * sh.page + o) (digits_lt col-lt l))

  -- no byte of the column has changed so far
  kept : (r o : ℕ) → r ≤ sh.rows → o < sh.page → get_or (repaired sh (take k ms) p) (cell r o) 0 ≡ get_or p (cell r o) 0
  kept r o h l =
      repaired-kept sh p (take k ms) (cell r o) (rw size (cell-high sh g (k / sh.cols) r (k % sh.cols * sh.page + o) hz h (digits_lt col-lt l)))
      (ap (λ (x : ℕ). get_or (take k ms) x 0) (in-column r o h l) ∙ past k ms k (omega arith))

  -- a byte of the lost page becomes the exclusive or of the others
  rebuilt-in : (o : ℕ) → o < sh.page
      → rebuilt sh (take (suc k) ms) p (cell r o) ≡ other_byte (repaired sh (take k ms) p) at (row_size sh) (sh.rows + 1) r o
  unfolding other_byte
  rebuilt-in o l =
      let e : row sh (cell r o) ≡ r = row-cell sh g (k / sh.cols) r (k % sh.cols * sh.page + o) hr (digits_lt col-lt l) in
      let m : mask_at sh (take (suc k) ms) (cell r o) ≡ get_or ms k 0 =
      ap (λ (x : ℕ). get_or (take (suc k) ms) x 0) (in-column r o hr l) ∙ get_or-take (suc k) ms k 0 (omega arith) in
      rw (le-leb (zones_at sh) (cell r o) (cell-low sh g (k / sh.cols) r (k % sh.cols * sh.page + o)), m, e, eq-eqb (bit (get_or ms k 0) r) 1 set, add-one)
      (xor_to-cong (suc sh.rows) (skip r (λ r'. get_or p (row_at sh (cell r o) r') 0)) (skip r (row_byte (repaired sh (take k ms) p) at (row_size sh) o))
      (λ r' h. ap (λ (x : ℕ). skip r (λ y. x) r') (same r' h)))
    where
      same : (r' : ℕ) → r' < suc sh.rows → get_or p (row_at sh (cell r o) r') 0 ≡ row_byte (repaired sh (take k ms) p) at (row_size sh) o r'
      same r' h =
          ap (λ (x : ℕ). get_or p x 0) (in_row o r' l) ∙ sym (kept r' o (omega arith) l)
          ∙ ap (λ (x : ℕ). get_or (repaired sh (take k ms) p) x 0) (byte-off sh (k / sh.cols) r' (k % sh.cols * sh.page) o)

  -- any other byte is lost now if it was before
  lost-out : (i : ℕ) → (i < at + r * row_size sh) ⊎ (at + r * row_size sh + sh.page ≤ i) → lost sh (take (suc k) ms) i ≡ lost sh (take k ms) i
  lost-out i out = split (leb (zones_at sh) i) (λ e. rw e (go (leb-true (zones_at sh) i e) (ℕ_discrete (zone sh i * sh.cols + off sh i / sh.page) k))) (λ e. rw e)
    where
      page-end : off sh i % sh.page < sh.page
      page-end = mod-lt (off sh i) (let h = g.page-min in omega arith)

      outside : i ≡ at + r * row_size sh + off sh i % sh.page → (i < at + r * row_size sh) ⊎ (at + r * row_size sh + sh.page ≤ i) → ⊥
      outside q (inl h) = omega arith
      outside q (inr h) = let b = page-end in omega arith

      go : zones_at sh ≤ i → Dec (zone sh i * sh.cols + off sh i / sh.page ≡ k) → eqb (bit (mask_at sh (take (suc k) ms) i) (row sh i)) 1 ≡ eqb (bit (mask_at sh (take k ms) i) (row sh i)) 1
      go low (no n) = ap (λ (x : ℕ). eqb (bit x (row sh i)) 1) (next k ms (zone sh i * sh.cols + off sh i / sh.page) n)
      go low (yes e) =
          ap (λ (x : ℕ). eqb (bit x (row sh i)) 1) (ap (λ (x : ℕ). get_or (take (suc k) ms) x 0) e ∙ get_or-take (suc k) ms k 0 (omega arith))
          ∙ ne_eqb (bit (get_or ms k 0) (row sh i)) 1 (λ b. outside (column-place sh g i k r low e (bit-unique (row sh i) r (get_or ms k 0) one b set)) out)
          ∙ sym (bit-zero (mask_at sh (take k ms) i) (row sh i) (ap (λ (x : ℕ). get_or (take k ms) x 0) e ∙ past k ms k (omega arith)))

  rebuilt-out : (i : ℕ) → i < length p → (i < at + r * row_size sh) ⊎ (at + r * row_size sh + sh.page ≤ i)
      → rebuilt sh (take (suc k) ms) p i ≡ get_or (repaired sh (take k ms) p) i 0
  rebuilt-out i h out =
      ap (λ (b : Bool). cond b (xor_to (suc sh.rows) (skip (row sh i) (λ r. get_or p (row_at sh i r) 0))) (get_or p i 0)) (lost-out i out)
      ∙ sym (repaired-at sh p (take k ms) i h)

  abbrev new-page : List ℕ
  new-page = tab_from 0 sh.page (other_byte (repaired sh (take k ms) p) at (row_size sh) (sh.rows + 1) r)

  page-inside : at + r * row_size sh + sh.page ≤ length p
  page-inside =
      let h : sh.page - 1 < sh.page = (let k = g.page-min in omega arith) in
      let l = cell-high sh g (k / sh.cols) r (k % sh.cols * sh.page + (sh.page - 1)) hz hr (digits_lt col-lt h) in
      let b = byte-off sh (k / sh.cols) r (k % sh.cols * sh.page) (sh.page - 1) in
      rw size (let m = g.page-min in omega arith)

  repaired-byte : (i : ℕ) → i < length p → Dec (i < at + r * row_size sh) → Dec (at + r * row_size sh + sh.page ≤ i)
      → rebuilt sh (take (suc k) ms) p i ≡ get_or (sets (repaired sh (take k ms) p) (at + r * row_size sh) new-page) i 0
  repaired-byte i h (yes d) e = rebuilt-out i h (inl d) ∙ sym (sets-before (repaired sh (take k ms) p) (at + r * row_size sh) new-page i d)
  repaired-byte i h (no d) (yes e) =
      rebuilt-out i h (inr e) ∙ sym (sets-after (repaired sh (take k ms) p) (at + r * row_size sh) new-page i (rw (tab-length 0 sh.page (other_byte (repaired sh (take k ms) p) at (row_size sh) (sh.rows + 1) r)) e))
  repaired-byte i h (no d) (no e) =
      let o : ℕ = i - (at + r * row_size sh) in
      let l : o < sh.page = omega arith in
      let j : at + r * row_size sh + o ≡ i = omega arith in
      let n = tab-length 0 sh.page (other_byte (repaired sh (take k ms) p) at (row_size sh) (sh.rows + 1) r) in
      ap (rebuilt sh (take (suc k) ms) p) (sym j ∙ sym (byte-off sh (k / sh.cols) r (k % sh.cols * sh.page) o)) ∙ rebuilt-in o l
      ∙ ap (other_byte (repaired sh (take k ms) p) at (row_size sh) (sh.rows + 1) r) (sym (zero-add o))
      ∙ sym (tab-at 0 sh.page (other_byte (repaired sh (take k ms) p) at (row_size sh) (sh.rows + 1) r) o l)
      ∙ sym (sets-in (repaired sh (take k ms) p) (at + r * row_size sh) new-page o (rw (n, repaired-length sh p (take k ms)) page-inside) (rw n l))
      ∙ ap (λ (x : ℕ). get_or (sets (repaired sh (take k ms) p) (at + r * row_size sh) new-page) x 0) j

  pub repaired-one : repaired sh (take (k + 1) ms) p ≡ column_rebuilt sh (repaired sh (take k ms) p) k r
  unfolding column_rebuilt
  repaired-one =
      rw (add-one k) (ext_get_or 0 (repaired sh (take (suc k) ms) p) (sets (repaired sh (take k ms) p) (at + r * row_size sh) new-page)
      (repaired-length sh p (take (suc k) ms) ∙ sym (length-sets (repaired sh (take k ms) p) (at + r * row_size sh) new-page ∙ repaired-length sh p (take k ms)))
      (λ i l. let h : i < length p = rw (repaired-length sh p (take (suc k) ms)) at l in
      repaired-at sh p (take (suc k) ms) i h ∙ repaired-byte i h (dec_lt i (at + r * row_size sh)) (dec_le (at + r * row_size sh + sh.page) i)))

  -- the page to be rebuilt is as it was, so that what its rebuilding alters comes on top of what was altered so far
  page-kept : take sh.page (drop (at + r * row_size sh) p) ≡ take sh.page (drop (at + r * row_size sh) (repaired sh (take k ms) p))
  page-kept =
      part_ext p (repaired sh (take k ms) p) (at + r * row_size sh) sh.page (sym (repaired-length sh p (take k ms)))
      (λ o l. rw (← (byte-off sh (k / sh.cols) r (k % sh.cols * sh.page) o)) (sym (kept r o hr l)))

  pub altered-one : let q = repaired sh (take k ms) p in
      differences p (column_rebuilt sh q k r) ≡ differences p q + differences q (column_rebuilt sh q k r)
  unfolding column_rebuilt
  altered-one =
      let q : List ℕ = repaired sh (take k ms) p in
      let n = tab-length 0 sh.page (other_byte q at (row_size sh) (sh.rows + 1) r) in
      let b = page-inside in
      let l = repaired-length sh p (take k ms) in
      differences-sets p q (at + r * row_size sh) sh.page b l page-kept new-page n
      ∙ ap (λ (x : ℕ). differences p q + x) (ap (λ (x : List ℕ). differences x new-page) (page-kept ∙ ap (λ (x : ℕ). take x (drop (at + r * row_size sh) q)) (sym n))
      ∙ sym (differences-stored q new-page (at + r * row_size sh) (omega arith)))

-- ---- column k of a loss list

-- the first k columns are repaired, which altered n bytes
pub record Repairing (sh : Shape) (p ms : List ℕ) (k : ℕ) (q : List ℕ) (n : ℕ) : Type 0 where
  pub pool-is : q ≡ repaired sh (take k ms) p
  pub count : n ≡ differences p q

pub repairing-none : (sh : Shape) (p ms : List ℕ) → Repairing sh p ms 0 p 0
repairing-none sh p ms = record { pool-is = sym (repaired-none sh p ms); count = sym (differences-same p) }

pub column-range : (k zones cols : ℕ) → 0 < cols → k < zones * cols → (k / cols < zones) × (k % cols < cols)
column-range k zones cols h l = ((div-lt_iff_lt-mul h).1 l, mod-lt k h)

pub column-rebuilt : (sh : Shape) (p q : List ℕ) (k at n r : ℕ) → at ≡ column_at sh k → n ≡ row_size sh
    → q ≡ sets p (at + r * n) (tab_from 0 sh.page (other_byte p at n (sh.rows + 1) r)) → q ≡ column_rebuilt sh p k r
unfolding column_rebuilt
column-rebuilt sh p q k at n r e f h = h ∙ rw (e, f)

module _ {sh : Shape} {p ms : List ℕ} {k : ℕ} {q : List ℕ} {n : ℕ} (c : Repairing sh p ms k q n) where
  pub repairing-size : length q ≡ length p
  repairing-size = ap length c.pool-is ∙ repaired-length sh p (take k ms)

  -- no more bytes are altered than there are
  pub repairing-few : n ≤ length p
  repairing-few = let h = differences-most p q in let e = c.count in omega arith

  -- all columns are repaired
  pub repairing-all : length ms ≡ k → q ≡ repaired sh ms p
  repairing-all e = c.pool-is ∙ ap (λ (x : List ℕ). repaired sh x p) (ap (λ (x : ℕ). take x ms) (sym e) ∙ take-length ms)

-- a pool of this shape, and a mask for each of its columns, at most one bit set and none above bit R
pub record Rebuildable (sh : Shape) (p ms : List ℕ) : Type 0 where
  pub good : Good sh
  pub size : length p ≡ pool_size sh
  pub rows : sh.rows ≤ 15
  pub masks : length ms ≡ sh.zones * sh.cols
  pub above : any_above sh ms ≡ false
  pub two : any_two ms ≡ false

module _ {sh : Shape} {p ms : List ℕ} (g : Rebuildable sh p ms) (k : ℕ) where
  pub mask-small : get_or ms k 0 < 2 ^ suc sh.rows
  mask-small = above-bits sh ms g.above k

  pub mask_one : (get_or ms k 0 ≡ 0 → ⊥) → ones (get_or ms k 0) ≡ 1
  mask_one n = one_bit (get_or ms k 0) (single-bits ms g.two k) n

  module _ {q q' : List ℕ} {n n' : ℕ} (c : Repairing sh p ms k q n) where
    -- no page of the column is lost
    pub repairing-zero : get_or ms k 0 ≡ 0 → q' ≡ q → n' ≡ n → Repairing sh p ms (k + 1) q' n'
    repairing-zero z e d =
        record { pool-is = e ∙ c.pool-is ∙ sym (repaired-zero sh p ms k z); count = d ∙ c.count ∙ ap (differences p) (sym e) }

    -- one is
    pub repairing-lost : k < length ms → (get_or ms k 0 ≡ 0 → ⊥) → q' ≡ column_rebuilt sh q k (count_trailing_zeros 16 (get_or ms k 0)) → n' ≡ n + differences q q'
        → Repairing sh p ms (k + 1) q' n'
    repairing-lost h z e d =
        let t : ℕ = count_trailing_zeros 16 (get_or ms k 0) in
        let l = lost-row (suc sh.rows) (get_or ms k 0) (let r = g.rows in omega arith) mask-small (mask_one z) in
        let hz = (column-range k sh.zones sh.cols g.good.cols-pos (rw g.masks at h)).0 in
        let b = single-bits ms g.two k in
        let e' : q' ≡ column_rebuilt sh (repaired sh (take k ms) p) k t = e ∙ ap (λ (x : List ℕ). column_rebuilt sh x k t) c.pool-is in
        record {
          pool-is = e' ∙ sym (repaired-one sh g.good p ms g.size k t hz b l.0 (omega arith));
          count = d ∙ ap₂ ◌+◌ (c.count ∙ ap (differences p) c.pool-is) (ap₂ differences c.pool-is e')
              ∙ sym (altered-one sh g.good p ms g.size k t hz b l.0 (omega arith)) ∙ ap (differences p) (sym e');
        }
