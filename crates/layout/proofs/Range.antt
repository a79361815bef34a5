-- The code's shape: its length is that of 01 and fits, and a header's shape is in range. Assumes nothing.
use Prim.Native.Nat.{ℕ, ◌+◌, ◌-◌, ◌*◌, ◌/◌, ◌%◌, ◌≤◌, ◌<◌}
use mathlib.Core.Path.{◌≡◌, refl, sym, ap, ◌∙◌}
use mathlib.Core.Bool.{Bool, true, false}
use mathlib.Core.List.{List}
use native.Mathlib.Nat.{add-mul, mul-le-mul, mul-le-mul_right}
use native.Mathlib.Omega.{arith}
use lib.ListN.{get_or}
use Rattle.rules.specs.Shape.{InZones, Shape as PoolShape, byte_at, off, page_size, pool_size, row_at, row_size, shape, zone, zone_at, zones_at}
use Rattle.rules.specs.Header.{header_ok, header_shape, in_range as ranges}
use Rattle.rules.proofs.Bool.{split}
use Rattle.rules.proofs.Shape.{Good, off-lt, zone-end, zone-lt}
use Rattle.rules.proofs.Header.{header-range, range-good, range-ranged}
use Rattle.layout.specs.declared.Shape.{Shape}
use Rattle.std.proofs.Common.{Result, Ok, Err}
use Rattle.std.specs.Result.{IsOk}
use Rattle.refusals.specs.declared.Refusal.{Refusal}
use Rattle.refusals.specs.Number.{number_of}
use Rattle.layout.specs.Meaning.{InRange, checked, checked_of, good, refused, shape_of}

-- each shape is in range
pub in_range : (s : Shape) → InRange (shape_of s)
unfolding ranges
in_range s = record { ranged = s.ranged; paged = s.paged }

pub shape-good : (s : Shape) → Good (shape_of s)
shape-good s = let r = in_range s in range-good (shape_of s) r.paged r.ranged

-- the largest page
pub page-most : (s : Shape) → s.page ≤ page_size
page-most s = let e = s.paged in omega arith

-- ---- what the numbers of a shape in range amount to

pub record Bounds (page rows cols zones : ℕ) : Type 0 where
  pub page-low : 256 ≤ page
  pub page-high : page ≤ 4096
  pub rows-low : 1 ≤ rows
  pub rows-high : rows ≤ 15
  pub cols-low : 1 ≤ cols
  pub cols-high : cols ≤ 64
  pub zones-low : 1 ≤ zones
  pub zones-high : zones ≤ 16
  -- rows, bytes of a row and of a zone; all rows and pages
  pub row : cols * page ≤ 262144
  pub row-some : 256 ≤ cols * page
  pub zone : (rows + 1) * (cols * page) ≤ 4194304
  pub all-rows : zones * (rows + 1) ≤ 256
  pub all-pages : zones * (rows + 1) * cols ≤ 16384
  pub some-pages : 2 ≤ zones * (rows + 1) * cols
  -- cells of a zone
  pub pages : rows * cols ≤ 960
  pub cells : rows * cols * (page / 64) ≤ 61440

pub bounds : (s : Shape) → Bounds s.page s.rows s.cols s.zones
bounds s =
    let b = range-ranged (shape_of s) (in_range s).ranged in
    let e = s.paged in
    let more : s.rows + 1 ≤ 16 = omega arith in
    let few : 2 ≤ s.rows + 1 = omega arith in
    let low : 256 ≤ s.page = omega arith in
    let high : s.page ≤ 4096 = omega arith in
    let part : s.page / 64 ≤ 64 = omega arith in
    let row : s.cols * s.page ≤ 64 * 4096 = mul-le-mul b.cols-high high in
    let rows : s.zones * (s.rows + 1) ≤ 16 * 16 = mul-le-mul b.zones-high more in
    let pages : s.rows * s.cols ≤ 15 * 64 = mul-le-mul b.rows-high b.cols-high in
    record {
      page-low = low;
      page-high = high;
      rows-low = b.rows-low;
      rows-high = b.rows-high;
      cols-low = b.cols-low;
      cols-high = b.cols-high;
      zones-low = b.zones-low;
      zones-high = b.zones-high;
      row = row;
      row-some = mul-le-mul b.cols-low low;
      zone = mul-le-mul more row;
      all-rows = rows;
      all-pages = mul-le-mul rows b.cols-high;
      some-pages = mul-le-mul (mul-le-mul b.zones-low few) b.cols-low;
      pages = pages;
      cells = mul-le-mul pages part;
    }

-- a pool has more than the header pages and the logs, and its length is far below 2^32
pub size-bounds : (s : Shape) → (zones_at (shape_of s) + 2 * s.page ≤ pool_size (shape_of s)) × (pool_size (shape_of s) ≤ 67182592)
unfolding pool_size
size-bounds s =
    let b = bounds s in
    let low : (18 + 2) * s.page ≤ (18 + s.zones * (s.rows + 1) * s.cols) * s.page = mul-le-mul_right s.page (let k = b.some-pages in omega arith) in
    let k : 18 + s.zones * (s.rows + 1) * s.cols ≤ 16402 = (let h = b.all-pages in omega arith) in
    let high : (18 + s.zones * (s.rows + 1) * s.cols) * s.page ≤ 16402 * 4096 = mul-le-mul k b.page-high in
    (omega arith, omega arith)

-- ---- places

pub zones-below : (s : Shape) → (z : ℕ) → z ≤ s.zones → z * ((s.rows + 1) * (s.cols * s.page)) ≤ 16 * 4194304
zones-below s z h = let b = bounds s in mul-le-mul (let k : z ≤ 16 = (let l = b.zones-high in omega arith) in k) b.zone

pub zone-at-le : (s : Shape) → (z : ℕ) → z ≤ s.zones → zone_at (shape_of s) z ≤ pool_size (shape_of s)
unfolding zone_at
zone-at-le s z h = let e = zone-end (shape_of s) (shape-good s) in let m = mul-le-mul_right ((s.rows + 1) * (s.cols * s.page)) h in omega arith

-- the number of a row, and of its first byte behind the zones' start
pub record RowBounds (page rows cols z r : ℕ) : Type 0 where
  pub before : z * (rows + 1) ≤ 240
  pub number : z * (rows + 1) + r ≤ 255
  pub place : (z * (rows + 1) + r) * (cols * page) ≤ 255 * 262144

pub row-bounds : (s : Shape) → {z r : ℕ} → z < s.zones → r ≤ s.rows → RowBounds s.page s.rows s.cols z r
row-bounds s {z} {r} hz hr =
    let b = bounds s in
    let a : z ≤ 15 = (let k = b.zones-high in omega arith) in
    let c : s.rows + 1 ≤ 16 = (let k = b.rows-high in omega arith) in
    let m : z * (s.rows + 1) ≤ 15 * 16 = mul-le-mul a c in
    let k : z * (s.rows + 1) + r ≤ 255 = (let l = b.rows-high in omega arith) in
    record { before = m; number = k; place = mul-le-mul k b.row }

module _ (sh : PoolShape) (g : Good sh) where
  pub column-below : (c : ℕ) → c < sh.cols → c * sh.page < row_size sh
  column-below c h = let m : c * sh.page + 1 * sh.page ≤ sh.cols * sh.page = rw (← (add-mul c 1 sh.page)) (mul-le-mul_right sh.page (omega arith)) in let k = g.page-min in omega arith

  pub place_in : (t n m : ℕ) → InZones sh t → n ≡ row_size sh → m ≡ zones_at sh → ((t - m) / n / (sh.rows + 1) < sh.zones) × ((t - m) % n < row_size sh)
  unfolding zone off
  place_in t n m h e f = rw (e, f) (zone-lt sh g t h, off-lt sh g t)

  pub place-row : (t r n m a : ℕ) → n ≡ row_size sh → m ≡ zones_at sh → a ≡ byte_at sh ((t - m) / n / (sh.rows + 1)) r ((t - m) % n) → a ≡ row_at sh t r
  unfolding zone off row_at
  place-row t r n m a e f q = q ∙ rw (e, f)

-- ---- the constructor

module _ (R C Z : ℕ) (b : Bool) (e : b ≡ ranges (shape R C Z)) where
  pub new-good : b ≡ true → good (shape R C Z) ≡ checked (shape R C Z)
  unfolding checked
  new-good h = rw (← e, h)

  pub new-out : b ≡ false → refused 1 ≡ checked (shape R C Z)
  unfolding checked
  new-out h = rw (← e, h)

-- what its answers say
pub made-good : (sh t : PoolShape) → good t ≡ checked sh → (t ≡ sh) × (ranges sh ≡ true)
unfolding checked
made-good sh t e =
    split (ranges sh)
    (λ y. let q : good t ≡ good sh = rw y at e in (cc, y))
    (λ f. absurd (let q : good t ≡ refused 1 = rw f at e in let z : ◌≡◌ {A = ℕ} 0 1 = cc in omega arith))

pub made-out : (sh : PoolShape) (n : ℕ) → refused n ≡ checked sh → (ranges sh ≡ false) × (n ≡ 1)
unfolding checked
made-out sh n e =
    split (ranges sh)
    (λ t. absurd (let q : refused n ≡ good sh = rw t at e in let z : ◌≡◌ {A = ℕ} 0 1 = cc in omega arith))
    (λ f. let q : refused n ≡ refused 1 = rw f at e in (f, cc))

-- ---- a header's shape

module _ (h : List ℕ) (R C Z : ℕ) (e : R ≡ get_or h 4 0) (f : C ≡ get_or h 5 0) (g : Z ≡ get_or h 6 0) where
  header-checked : shape R C Z ≡ header_shape h
  unfolding header_shape
  header-checked = rw (e, f, g)

  pub header_made : (t : PoolShape) → good t ≡ checked (shape R C Z) → t ≡ header_shape h
  header_made t m = (made-good (shape R C Z) t m).0 ∙ header-checked

  -- a valid header's is made
  header-out : header_ok h ≡ true → (n : ℕ) → refused n ≡ checked (shape R C Z) → ⊥
  header-out ok n m =
      let z : true ≡ false = sym (header-range h ok) ∙ ap ranges (sym header-checked) ∙ (made-out (shape R C Z) n m).0 in
      let y : ◌≡◌ {A = ℕ} 0 1 = cc in omega arith

  pub header-some : header_ok h ≡ true → (r : Result Shape Refusal) → checked_of r ≡ checked (shape R C Z) → IsOk r
  header-some ok (Ok s) m = refl
  header-some ok (Err x) m = absurd (header-out ok (number_of x) m)
