-- Laws of poolscan's text: the decimal digits of a number, by its last digit and by their number; the lines, as text (`lines-text`) and as runs
-- (`lines_runs`); and their totals: as many objects as scrub meets, the cells before each zone's break, the bytes of the book's bodies.
-- Assumes nothing.
use Prim.Native.Nat.{ℕ, zero, suc, ◌+◌, ◌*◌, ◌/◌, ◌%◌, ◌^◌, ◌≤◌, ◌<◌}
use mathlib.Core.Path.{◌≡◌, refl, sym, ap, ap₂, ◌∙◌}
use mathlib.Core.Bool.{Bool, true, false, not}
use mathlib.Core.List.{List, [], ◌∷◌, ◌++◌, append_assoc, append-nil}
use mathlib.Core.Option.{none}
use native.Mathlib.Nat.{add_assoc, add-zero, pow-suc, zero-add}
use native.Mathlib.Omega.{arith}
use lib.ListN.{length, length-append}
use lib.Dec.{ltb}
use borrow.Author.Tests.{le-ltb, lt-ltb, ltb-false, ltb-true}
use Rattle.rules.specs.Words.{Bytes, ascii}
use Rattle.rules.specs.Shape.{Shape, zone_cells}
use Rattle.rules.specs.Test.{first}
use Rattle.rules.specs.Header.{open_tests, shape_in}
use Rattle.rules.specs.Runs.{Run, cell_count, cells, free, is_free, object}
use Rattle.rules.specs.Book.{Listed, book}
use Rattle.rules.specs.Search.{free_cells}
use Rattle.rules.specs.Zones.{book_from, pool_book, runs_from, walk_in}
use Rattle.rules.specs.Seals.{read_tests}
use Rattle.rules.specs.Sound.{Sound, book_of}
use Rattle.rules.specs.Scrub.{broken_zones, count_runs, objects_met, sum_to}
use Rattle.rules.specs.Scan.{Line, body_length, body_total, broken, broken_line, decimal, decimal_to, free_total, line_text, lines_from, lines_of, lines_text, object_lines, one_object, run, run_line, runs_in, scan_lines, scan_tests, sum_runs, zone_lines, zones_text}
use Rattle.rules.proofs.Bool.{split}
use Rattle.rules.proofs.Sums.{sum-add, sum-append, sum-cong, sum_same}
use Rattle.rules.proofs.Test.{first-passed, not-not, passed-left}
use Rattle.rules.proofs.Laid.{laid-length}
use Rattle.rules.proofs.Book.{size-append}
use Rattle.rules.proofs.Zones.{Fits, good-fits, zone-length}
use Rattle.rules.proofs.StagedBook.{whole-laid}
use Rattle.rules.proofs.Header.{passed-good, passed_length}
use Rattle.rules.proofs.Sound.{sound-fits}
use Rattle.rules.proofs.Scrub.{books-count, count-zero, from-scrub}

-- More steps than a number's digits change nothing.
decimal-fuel : (f g n : ℕ) → n < f → n < g → decimal_to f n ≡ decimal_to g n
unfolding decimal_to
decimal-fuel zero g n h k = absurd (omega arith)
decimal-fuel (suc f) zero n h k = absurd (omega arith)
decimal-fuel (suc f) (suc g) n h k =
    split (ltb n 10)
    (λ e. rw e)
    (λ e.
    let l : 10 ≤ n = ltb-false n 10 e in
    rw (e, decimal-fuel f g (n / 10) (omega arith) (omega arith)))

pub decimal-one : (n : ℕ) → n < 10 → decimal n ≡ (48 + n) ∷ []
unfolding decimal decimal_to
decimal-one n h = rw (lt-ltb n 10 h)

pub decimal-more : (n : ℕ) → 10 ≤ n → decimal n ≡ decimal (n / 10) ++ ((48 + n % 10) ∷ [])
unfolding decimal decimal_to
decimal-more n h = rw (le-ltb n 10 h, decimal-fuel n (suc (n / 10)) (n / 10) (omega arith) (omega arith))

-- A number below the k-th power of ten: k steps give all its digits, and these are at most k.
pub decimal-steps : (k n : ℕ) → n < 10 ^ suc k → decimal_to (suc k) n ≡ decimal n
unfolding decimal_to
decimal-steps zero n h = rw (decimal-one n h, lt-ltb n 10 h)
decimal-steps (suc k) n h =
    split (ltb n 10)
    (λ e. rw (e, decimal-one n (ltb-true n 10 e)))
    (λ e.
    let h' : n < 10 ^ suc k * 10 = rw (pow-suc 10 (suc k)) at h in
    rw (e, decimal-more n (ltb-false n 10 e), decimal-steps k (n / 10) (omega arith)))

pub decimal-length : (k n : ℕ) → n < 10 ^ suc k → length (decimal n) ≤ suc k
decimal-length zero n h = rw (decimal-one n h) (omega arith)
decimal-length (suc k) n h =
    split (ltb n 10)
    (λ e. rw (decimal-one n (ltb-true n 10 e)) (omega arith))
    (λ e.
    let l : 10 ≤ n = ltb-false n 10 e in
    let h' : n < 10 ^ suc k * 10 = rw (pow-suc 10 (suc k)) at h in
    let i = decimal-length k (n / 10) (omega arith) in
    rw (decimal-more n l, length-append (decimal (n / 10)) ((48 + n % 10) ∷ [])) (omega arith))

-- The highest tag.
pub decimal-highest : decimal 4294967295 ≡ ascii "4294967295"
unfolding decimal_to
decimal-highest = sym (decimal-steps 9 4294967295 (omega arith))

-- ---- the lines, as text

text-append : (a b : List Line) → lines_text (a ++ b) ≡ lines_text a ++ lines_text b
unfolding lines_text
text-append [] b = refl
text-append (l ∷ a) b = ap (λ (t : List ℕ). line_text l ++ t) (text-append a b) ∙ sym (append_assoc (line_text l) (lines_text a) (lines_text b))

zone-text : (z c : ℕ) (rs : List Run) (w : Bool) → lines_text (lines_of z c rs w) ≡ zone_lines z c rs w
unfolding lines_text line_text lines_of zone_lines
zone-text z c [] true = refl
zone-text z c [] false = append-nil (broken_line z c)
zone-text z c (r ∷ rs) w = ap (λ (t : List ℕ). run_line z c r ++ t) (zone-text z (c + cells r) rs w)

module _ (sh : Shape) (p : List ℕ) where
  zones-text : (z n : ℕ) → lines_text (lines_from sh p z n) ≡ zones_text sh p z n
  unfolding lines_text lines_from zones_text
  zones-text z zero = refl
  zones-text z (suc n) =
      text-append (lines_of z 0 (walk_in sh p z).runs (walk_in sh p z).whole) (lines_from sh p (suc z) n)
      ∙ ap₂ ◌++◌ (zone-text z 0 (walk_in sh p z).runs (walk_in sh p z).whole) (zones-text (suc z) n)

  pub lines-text : lines_text (scan_lines sh p) ≡ zones_text sh p 0 sh.zones
  unfolding scan_lines
  lines-text = zones-text 0 sh.zones

-- a broken line stands at the cell behind the runs above it
pub broken-behind : (z c : ℕ) (rs : List Run) → lines_of z c rs false ≡ lines_of z c rs true ++ (broken z (c + cell_count rs) ∷ [])
unfolding lines_of cell_count
broken-behind z c [] = ap (λ (x : ℕ). broken z x ∷ []) (sym (add-zero c))
broken-behind z c (r ∷ rs) =
    ap (λ (ls : List Line). run z c r ∷ ls)
    (broken-behind z (c + cells r) rs ∙ ap (λ (x : ℕ). lines_of z (c + cells r) rs true ++ (broken z x ∷ [])) (add_assoc c (cells r) (cell_count rs)))

-- ---- the lines, as runs

in-append : (a b : List Line) → runs_in (a ++ b) ≡ runs_in a ++ runs_in b
unfolding runs_in
in-append [] b = refl
in-append (run z c r ∷ a) b = ap (λ (rs : List Run). r ∷ rs) (in-append a b)
in-append (broken z c ∷ a) b = in-append a b

zone-runs : (z c : ℕ) (rs : List Run) (w : Bool) → runs_in (lines_of z c rs w) ≡ rs
unfolding runs_in lines_of
zone-runs z c [] true = refl
zone-runs z c [] false = refl
zone-runs z c (r ∷ rs) w = ap (λ (xs : List Run). r ∷ xs) (zone-runs z (c + cells r) rs w)

module _ (sh : Shape) (p : List ℕ) where
  zones-runs : (z n : ℕ) → runs_in (lines_from sh p z n) ≡ runs_from sh p z n
  unfolding runs_in lines_from runs_from
  zones-runs z zero = refl
  zones-runs z (suc n) =
      in-append (lines_of z 0 (walk_in sh p z).runs (walk_in sh p z).whole) (lines_from sh p (suc z) n)
      ∙ ap₂ ◌++◌ (zone-runs z 0 (walk_in sh p z).runs (walk_in sh p z).whole) (zones-runs (suc z) n)

  pub lines_runs : runs_in (scan_lines sh p) ≡ runs_from sh p 0 sh.zones
  unfolding scan_lines
  lines_runs = zones-runs 0 sh.zones

-- ---- sums over runs

objects-count : (rs : List Run) → sum_runs one_object rs ≡ count_runs (λ r. not (is_free r)) rs
unfolding sum_runs count_runs
objects-count [] = refl
objects-count (free n ∷ rs) = rw (objects-count rs)
objects-count (object n t b g ∷ rs) = rw (objects-count rs)

-- the cells of an object
abbrev pub object_cells : Run → ℕ
object_cells (free n) = 0
object_cells (object n t b g) = n

free-and-objects : (rs : List Run) → sum_runs free_cells rs + sum_runs object_cells rs ≡ cell_count rs
unfolding sum_runs cell_count
free-and-objects [] = refl
free-and-objects (free n ∷ rs) = omega (arith, free-and-objects rs)
free-and-objects (object n t b g ∷ rs) = omega (arith, free-and-objects rs)

-- the bytes of the bodies that a book lists
unfoldable pub listed_bytes : List Listed → ℕ
listed_bytes [] = 0
listed_bytes (x ∷ xs) = length x.body + listed_bytes xs

listed-append : (a b : List Listed) → listed_bytes (a ++ b) ≡ listed_bytes a + listed_bytes b
unfolding listed_bytes
listed-append [] b = omega arith
listed-append (x ∷ a) b = rw (listed-append a b) (omega arith)

book-bytes : (c : ℕ) (rs : List Run) → sum_runs body_length rs ≡ listed_bytes (book c rs)
unfolding sum_runs listed_bytes book
book-bytes c [] = refl
book-bytes c (free n ∷ rs) = omega (arith, book-bytes (c + n) rs)
book-bytes c (object n t b g ∷ rs) = omega (arith, book-bytes (c + n) rs)

-- ---- the totals, for every pool

module _ (sh : Shape) (p : List ℕ) where
  pub objects-met : object_lines (scan_lines sh p) ≡ objects_met sh p
  unfolding object_lines objects_met
  objects-met = rw (lines_runs sh p) (objects-count (runs_from sh p 0 sh.zones))

  zones-cells : (z n : ℕ) → cell_count (runs_from sh p z n) ≡ sum_to n (λ i. cell_count (walk_in sh p (z + i)).runs)
  unfolding runs_from cell_count sum_to
  zones-cells z zero = refl
  zones-cells z (suc n) =
      let f : ℕ → ℕ = λ i. cell_count (walk_in sh p (z + i)).runs in
      let a = size-append (walk_in sh p z).runs (runs_from sh p (suc z) n) in
      let b : cell_count (runs_from sh p (suc z) n) ≡ sum_to n (λ i. f (1 + i)) =
      zones-cells (suc z) n ∙ sum-cong n _ _ (λ i l. ap (λ (x : ℕ). cell_count (walk_in sh p x).runs) {x = suc z + i} {y = z + (1 + i)} (omega arith)) in
      let c : cell_count (walk_in sh p z).runs ≡ f 0 = ap (λ (x : ℕ). cell_count (walk_in sh p x).runs) (sym (add-zero z)) in
      let d : sum_to (suc n) f ≡ sum_to 1 f + sum_to n (λ i. f (1 + i)) = ap (λ (x : ℕ). sum_to x f) {x = suc n} {y = 1 + n} (omega arith) ∙ sum-add 1 n f in
      omega (arith, a, b, c, d)

  -- free lines and object lines have the cells before each zone's break
  pub cells-before-breaks : free_total (scan_lines sh p) + sum_runs object_cells (runs_in (scan_lines sh p)) ≡ sum_to sh.zones (λ z. cell_count (walk_in sh p z).runs)
  unfolding free_total
  cells-before-breaks = free-and-objects (runs_in (scan_lines sh p)) ∙ ap cell_count (lines_runs sh p) ∙ zones-cells 0 sh.zones ∙ sum-cong sh.zones _ _ (λ i l. ap (λ (x : ℕ). cell_count (walk_in sh p x).runs) (zero-add i))

  -- and where no zone is broken, all cells
  whole_cells : Fits sh p → ((z : ℕ) → z < sh.zones → (walk_in sh p z).whole ≡ true)
      → free_total (scan_lines sh p) + sum_runs object_cells (runs_in (scan_lines sh p)) ≡ sh.zones * zone_cells sh
  whole_cells f w =
      cells-before-breaks
      ∙ sum_same sh.zones (zone_cells sh) _ (λ z l. let e = laid-length (whole-laid sh p z (w z l)) in let k = zone-length sh p z f l in omega arith)

  zones-bytes : (z n : ℕ) → sum_runs body_length (runs_from sh p z n) ≡ listed_bytes (book_from sh p z n)
  unfolding sum_runs runs_from listed_bytes book_from
  zones-bytes z zero = refl
  zones-bytes z (suc n) =
      let rs : List Run = (walk_in sh p z).runs in
      sum-append body_length rs (runs_from sh p (suc z) n)
      ∙ rw (book-bytes (z * zone_cells sh) rs, zones-bytes (suc z) n) (sym (listed-append (book (z * zone_cells sh) rs) (book_from sh p (suc z) n)))

  pub bytes-listed : body_total (scan_lines sh p) ≡ listed_bytes (pool_book sh p)
  unfolding body_total pool_book
  bytes-listed = ap (sum_runs body_length) (lines_runs sh p) ∙ zones-bytes 0 sh.zones

-- In a pool that poolscan lists, without a broken zone, free lines and object lines have all its cells.
pub unbroken-cells : (p : List ℕ) → Bytes p → first (scan_tests p) ≡ none → broken_zones (shape_in p) p ≡ 0
    → free_total (scan_lines (shape_in p) p) + sum_runs object_cells (runs_in (scan_lines (shape_in p) p)) ≡ (shape_in p).zones * zone_cells (shape_in p)
unfolding scan_tests read_tests broken_zones
unbroken-cells p b e h =
    let o = passed-left (open_tests p) _ (first-passed _ e).1 in
    whole_cells (shape_in p) p (good-fits (shape_in p) p (passed-good p o) (passed_length p o) b)
    (λ z l. not-not _ (count-zero (shape_in p).zones (λ z. not (walk_in (shape_in p) p z).whole) h z l))

-- THE TOTALS OF A SOUND POOL: its book's objects and the bytes of their bodies; free lines and object lines have all its cells
pub sound-totals : (p : List ℕ) → Sound p
    → (object_lines (scan_lines (shape_in p) p) ≡ length (book_of p)) × (body_total (scan_lines (shape_in p) p) ≡ listed_bytes (book_of p))
    × (free_total (scan_lines (shape_in p) p) + sum_runs object_cells (runs_in (scan_lines (shape_in p) p)) ≡ (shape_in p).zones * zone_cells (shape_in p))
unfolding objects_met book_of pool_book
sound-totals p s =
    let sh : Shape = shape_in p in (
      objects-met sh p ∙ books-count sh p sh.zones 0,
      bytes-listed sh p,
      whole_cells sh p (sound-fits p s) (λ z l. (from-scrub sh p sh.zones 0 s.zones).0 z (omega arith) (omega arith)),
    )
