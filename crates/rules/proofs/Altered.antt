-- What repair's number means (A.8), over any page size: the differing bytes of the pages that the list names and of no other
-- (`altered-sum`), at most a page a column (`altered-most`), none exactly where the pool is unchanged (`altered-none`, `altered-same`); the
-- same repair repeated alters nothing (`repair-again`).
use Prim.Native.Nat.{ℕ, zero, suc, ◌+◌, ◌*◌, ◌/◌, ◌%◌, ◌≤◌, ◌<◌}
use mathlib.Core.Path.{◌≡◌, refl, sym, ap, ap₂, ◌∙◌}
use mathlib.Core.Bool.{Bool, true, false, cond}
use mathlib.Core.Option.{Option, none, some}
use mathlib.Core.List.{List}
use native.Mathlib.Nat.{le_of_suc-le-suc, mul_comm, suc-mul, zero-add, zero-mul}
use native.Mathlib.Numerals.{add-one}
use native.Mathlib.Omega.{arith}
use borrow.Author.Tests.{eqb-true, le-leb, lt-leb}
use lib.Arith.{digits_div, digits_lt, digits_mod}
use lib.Dec.{eqb}
use lib.ListN.{length, take, drop, get_or, length-take}
use lib.Seq.{ext_get_or, take_all}
use Rattle.rules.specs.Shape.{Shape, byte_at, pool_size, zones_at}
use Rattle.rules.specs.Test.{first}
use Rattle.rules.specs.Header.{open_tests, shape_in}
use Rattle.rules.specs.Seals.{read_tests}
use Rattle.rules.specs.Scrub.{sum_to}
use Rattle.rules.specs.Repair.{Repaired, altered, any_two, bit, conclude_repair, differences, lost, rebuilt, repair, repair_tests, repaired}
use Rattle.rules.proofs.Bool.{split}
use Rattle.rules.proofs.Sums.{sum-add, sum-cong, sum-le, sum-mul, sum_one, sum-swap, zero-sum}
use Rattle.rules.proofs.Test.{Passed, first-passed, passed-left, passed-right}
use Rattle.rules.proofs.Parts.{part_ext}
use Rattle.rules.proofs.Differences.{differences-most, differences-none, differences-same, differences-take}
use Rattle.rules.proofs.Shape.{Good, cell-high, cell-low, column-cell, row-cell, size-eq}
use Rattle.rules.proofs.Repair.{bit-unique, rebuilt-same, repaired-at, repaired-length}
use Rattle.rules.proofs.Header.{front-headers, front_reads, passed-good, passed_length, shape_same}
use Rattle.rules.proofs.Sound.{single-bits}

-- ---- the differing bytes, page by page

-- the differing bytes of the n from a on
abbrev apart : ℕ → List ℕ → List ℕ → ℕ → ℕ
apart n p q a = differences (take n (drop a p)) (take n (drop a q))

-- m parts of n bytes, one after another
differences-parts : (m n : ℕ) (p q : List ℕ) → length p ≡ length q → m * n ≤ length p
    → differences (take (m * n) p) (take (m * n) q) ≡ sum_to m (λ i. apart n p q (i * n))
unfolding sum_to differences
differences-parts zero n p q e h = rw (zero-mul n)
differences-parts (suc m) n p q e h =
    let k : m * n ≤ length p = omega (arith, suc-mul m n) in
    rw (suc-mul m n) (differences-take p q (m * n) n e k ∙ ap (λ (x : ℕ). x + apart n p q (m * n)) (differences-parts m n p q e k))

apart-most : (n : ℕ) (p q : List ℕ) (a : ℕ) → apart n p q a ≤ n
apart-most n p q a = let h = differences-most (take n (drop a p)) (take n (drop a q)) in let l = length-take n (drop a p) in omega arith

-- the page in row r of column k, counted zone by zone
abbrev pub page_in : Shape → List ℕ → ℕ → ℕ → List ℕ
page_in sh p k r = take sh.page (drop (byte_at sh (k / sh.cols) r (k % sh.cols * sh.page)) p)

-- the bytes that differ in it, if the list names it
abbrev pub altered_in : Shape → List ℕ → List ℕ → List ℕ → ℕ → ℕ → ℕ
altered_in sh ms p q k r = cond (eqb (bit (get_or ms k 0) r) 1) (differences (page_in sh p k r) (page_in sh q k r)) 0

module _ (sh : Shape) (g : Good sh) (p ms : List ℕ) (len : length p ≡ pool_size sh) where
  -- the bytes altered in the page that begins at a
  abbrev altered_at : ℕ → ℕ
  altered_at = apart sh.page p (repaired sh ms p)

  -- what is not lost stays; so all before the zones, and a page of such bytes has none altered
  kept : (i : ℕ) → i < pool_size sh → lost sh ms i ≡ false → get_or (repaired sh ms p) i 0 ≡ get_or p i 0
  kept i h e = repaired-at sh p ms i (omega arith) ∙ rw e

  front_kept : (i : ℕ) → i < zones_at sh → get_or (repaired sh ms p) i 0 ≡ get_or p i 0
  front_kept i h = kept i (let e = size-eq sh g in omega arith) (rw (lt-leb (zones_at sh) i h))

  page-kept : (a : ℕ) → ((o : ℕ) → o < sh.page → get_or (repaired sh ms p) (a + o) 0 ≡ get_or p (a + o) 0) → altered_at a ≡ 0
  page-kept a h =
      ap (differences (take sh.page (drop a p))) (part_ext (repaired sh ms p) p a sh.page (repaired-length sh p ms) h)
      ∙ differences-same (take sh.page (drop a p))

  module _ (z c r : ℕ) (hz : z < sh.zones) (hc : c < sh.cols) (hr : r ≤ sh.rows) where
    at_off : (o : ℕ) → byte_at sh z r (c * sh.page) + o ≡ byte_at sh z r (c * sh.page + o)
    unfolding byte_at
    at_off o = omega arith

    -- where the page stands among the pool's pages
    page-place : (18 + ((z * suc sh.rows + r) * sh.cols + c)) * sh.page ≡ byte_at sh z r (c * sh.page)
    unfolding byte_at
    page-place = omega arith

    -- its bytes are lost exactly if the list names it
    lost-page : (o : ℕ) → o < sh.page → lost sh ms (byte_at sh z r (c * sh.page + o)) ≡ eqb (bit (get_or ms (z * sh.cols + c) 0) r) 1
    lost-page o h =
        rw (le-leb (zones_at sh) _ (cell-low sh g z r (c * sh.page + o)), column-cell sh g z r c o hr hc h, row-cell sh g z r (c * sh.page + o) hr (digits_lt hc h))

    altered-page : altered_at ((18 + ((z * suc sh.rows + r) * sh.cols + c)) * sh.page) ≡ altered_in sh ms p (repaired sh ms p) (z * sh.cols + c) r
    altered-page =
        rw (page-place, digits_div z hc, digits_mod z hc)
        (split (eqb (bit (get_or ms (z * sh.cols + c) 0) r) 1) (λ e. rw e)
        (λ e. rw e (page-kept (byte_at sh z r (c * sh.page)) (λ o h. rw (at_off o) (kept _ (cell-high sh g z r (c * sh.page + o) hz hr (digits_lt hc h)) (lost-page o h ∙ e))))))

  -- a zone row by row is the zone column by column
  zone-sum : (z : ℕ) → z < sh.zones
      → sum_to (suc sh.rows) (λ r. sum_to sh.cols (λ c. altered_at ((18 + ((z * suc sh.rows + r) * sh.cols + c)) * sh.page)))
      ≡ sum_to sh.cols (λ c. sum_to (suc sh.rows) (altered_in sh ms p (repaired sh ms p) (z * sh.cols + c)))
  zone-sum z hz =
      sum-swap (suc sh.rows) sh.cols _
      ∙ sum-cong sh.cols _ _ (λ c hc. sum-cong (suc sh.rows) _ _ (λ r hr. altered-page z c r hz hc (le_of_suc-le-suc hr)))

  -- THE SUM, over lists: for any list of masks
  pub repaired-sum : differences p (repaired sh ms p) ≡ sum_to (sh.zones * sh.cols) (λ k. sum_to (suc sh.rows) (altered_in sh ms p (repaired sh ms p) k))
  repaired-sum =
      ap₂ differences (all p refl) (all (repaired sh ms p) (repaired-length sh p ms))
      ∙ differences-parts pages sh.page p (repaired sh ms p) (sym (repaired-length sh p ms)) (omega (arith, size))
      ∙ sum-add 18 (sh.zones * suc sh.rows * sh.cols) _
      ∙ ap₂ ◌+◌ (zero-sum 18 _ (λ i h. page-kept (i * sh.page) (λ o l. front_kept (i * sh.page + o) (digits_lt h l))))
      (sum-mul (sh.zones * suc sh.rows) sh.cols _ ∙ sum-mul sh.zones (suc sh.rows) _)
      ∙ zero-add _
      ∙ sum-cong sh.zones _ _ zone-sum
      ∙ sym (sum-mul sh.zones sh.cols _)
    where
      pages : ℕ
      pages = 18 + sh.zones * suc sh.rows * sh.cols

      size : length p ≡ pages * sh.page
      size = len ∙ unfold pool_size in rw (add-one sh.rows)

      all : (l : List ℕ) → length l ≡ length p → l ≡ take (pages * sh.page) l
      all l e = sym (take_all (pages * sh.page) l (omega (arith, size)))

  -- at most a page a column, where no mask has two bits
  pub repaired-most : any_two ms ≡ false → differences p (repaired sh ms p) ≤ sh.page * (sh.zones * sh.cols)
  repaired-most h =
      rw (repaired-sum, mul_comm sh.page (sh.zones * sh.cols)) (sum-le (sh.zones * sh.cols) sh.page _ (λ k. sum_one (suc sh.rows) sh.page _ (most k)
      (λ r r' a b. bit-unique r r' (get_or ms k 0) (single-bits ms h k) (set k r a) (set k r' b))))
    where
      most : (k r : ℕ) → altered_in sh ms p (repaired sh ms p) k r ≤ sh.page
      most k r =
          split (eqb (bit (get_or ms k 0) r) 1) (λ e. rw e (apart-most sh.page p (repaired sh ms p) (byte_at sh (k / sh.cols) r (k % sh.cols * sh.page))))
          (λ e. rw e (omega arith))

      set : (k r : ℕ) → 0 < altered_in sh ms p (repaired sh ms p) k r → bit (get_or ms k 0) r ≡ 1
      set k r a =
          split (eqb (bit (get_or ms k 0) r) 1) (λ e. eqb-true (bit (get_or ms k 0) r) 1 e)
          (λ e. absurd (let z : ◌<◌ 0 0 = rw e at a in omega arith))

  -- each lost byte is rebuilt from bytes that stayed
  pub repaired-again : any_two ms ≡ false → repaired sh ms (repaired sh ms p) ≡ repaired sh ms p
  repaired-again h =
      ext_get_or 0 _ _ again-length (λ i l. let k : i < length p = rw (again-length, repaired-length sh p ms) at l in
      repaired-at sh (repaired sh ms p) ms i (rw (repaired-length sh p ms) k) ∙ byte i k (lost sh ms i) refl)
    where
      again-length : length (repaired sh ms (repaired sh ms p)) ≡ length (repaired sh ms p)
      again-length = repaired-length sh (repaired sh ms p) ms

      byte : (i : ℕ) → i < length p → (b : Bool) → lost sh ms i ≡ b → rebuilt sh ms (repaired sh ms p) i ≡ get_or (repaired sh ms p) i 0
      byte i k false e = rw e
      byte i k true e = rebuilt-same sh g ms p (repaired sh ms p) (single-bits ms h) kept i (omega arith) e ∙ sym (repaired-at sh p ms i k)

-- ---- what an answer `altered n` tells

module _ (p ms : List ℕ) (n : ℕ) (e : (repair p ms).answer ≡ altered n) where
  -- it comes only where no test applies
  none-applies : first (repair_tests p ms) ≡ none
  unfolding repair
  none-applies = go (first (repair_tests p ms)) refl e
    where
      go : (r : Option ℕ) → first (repair_tests p ms) ≡ r → (conclude_repair p r (repaired (shape_in p) ms p)).answer ≡ altered n → first (repair_tests p ms) ≡ none
      go none q a = q
      go (some m) q a = absurd (unfold conclude_repair in (let z : ◌≡◌ {A = ℕ} 0 1 = cc in omega arith))

  repair-is : repair p ms ≡ record { answer = altered (differences p (repaired (shape_in p) ms p)); pool = repaired (shape_in p) ms p }
  unfolding repair conclude_repair
  repair-is = rw none-applies

  pool-is : (repair p ms).pool ≡ repaired (shape_in p) ms p
  pool-is = ap (λ (x : Repaired). x.pool) repair-is

  number_is : n ≡ differences p (repaired (shape_in p) ms p)
  number_is = let a = ap (λ (x : Repaired). x.answer) repair-is in cc

  passed : Passed (repair_tests p ms)
  passed = first-passed (repair_tests p ms) none-applies

  opens : Passed (open_tests p)
  unfolding repair_tests read_tests
  opens = passed-left (open_tests p) _ (passed-left (read_tests p) _ passed)

  good : Good (shape_in p)
  good = passed-good p opens

  whole : length p ≡ pool_size (shape_in p)
  whole = passed_length p opens

  single : any_two ms ≡ false
  unfolding repair_tests
  single = (passed-right (read_tests p) _ passed).1.0

  -- THE SUM
  pub altered-sum : n ≡ sum_to ((shape_in p).zones * (shape_in p).cols) (λ k. sum_to (suc (shape_in p).rows) (altered_in (shape_in p) ms p (repair p ms).pool k))
  altered-sum = rw pool-is (number_is ∙ repaired-sum (shape_in p) good p ms whole)

  pub altered-most : n ≤ (shape_in p).page * ((shape_in p).zones * (shape_in p).cols)
  altered-most = rw number_is (repaired-most (shape_in p) good p ms whole single)

  -- it is 0 exactly where the pool is unchanged
  pub altered-none : n ≡ 0 → (repair p ms).pool ≡ p
  altered-none z = pool-is ∙ sym (differences-none p (repaired (shape_in p) ms p) (sym (repaired-length (shape_in p) p ms)) (sym number_is ∙ z))

  pub altered-same : (repair p ms).pool ≡ p → n ≡ 0
  altered-same s = number_is ∙ ap (differences p) (sym pool-is ∙ s) ∙ differences-same p

  -- THE SAME REPAIR REPEATED alters nothing
  pub repair-again : repair (repair p ms).pool ms ≡ record { answer = altered 0; pool = (repair p ms).pool }
  repair-again = rw pool-is again
    where
      q : List ℕ
      q = repaired (shape_in p) ms p

      front : (i : ℕ) → i < zones_at (shape_in p) → get_or q i 0 ≡ get_or p i 0
      front = front_kept (shape_in p) good p ms whole

      headers : shape_in q ≡ shape_in p
      headers = shape_same q p (front-headers p q good whole (repaired-length (shape_in p) p ms) front)

      tests : repair_tests q ms ≡ repair_tests p ms
      tests = unfold repair_tests in rw (front_reads p q good whole (repaired-length (shape_in p) p ms) front, headers)

      again : repair q ms ≡ record { answer = altered 0; pool = q }
      again = unfold repair conclude_repair in rw (tests, none-applies, headers, repaired-again (shape_in p) good p ms whole single, differences-same q)
