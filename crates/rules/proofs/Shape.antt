-- Laws of places: zone, row and offset of a place, data rows and cells, and shapes within the limits of 01.
use mathlib.Core.Path.{◌≡◌, sym, ap, ◌∙◌}
use Prim.Native.Nat.{ℕ, ◌+◌, ◌-◌, ◌*◌, ◌/◌, ◌%◌, ◌^◌, ◌≤◌, ◌<◌}
use native.Mathlib.Nat.{mod-lt, div-lt_iff_lt-mul, div-add-mod', add-sub_cancel_left, mul-pos, mul-le-mul, mul-add-mod_self_right}
use native.Mathlib.Omega.{arith}
use lib.Arith.{digits_div, digits_mod, digits_lt}
use Rattle.rules.specs.Shape.{InZones, Shape, byte_at, off, pool_size, row, row_at, row_size, zone, zone_at, zone_cells, zones_at}

-- the place of a word of a data row
pub record InData (sh : Shape) (t : ℕ) : Type 0 where
  pub inside : InZones sh t
  pub data-row : row sh t < sh.rows

-- what the laws ask of a shape: whole cells in a page, room for a log of 127 entries in 8 pages, run lengths that 2 bytes hold, places that 8 hold
pub record Good (sh : Shape) : Type 0 where
  pub page-min : 256 ≤ sh.page
  pub page-cells : sh.page % 64 ≡ 0
  pub rows-pos : 0 < sh.rows
  pub cols-pos : 0 < sh.cols
  pub runs : zone_cells sh < 65536
  pub limit : pool_size sh < 2 ^ 64

module _ (sh : Shape) (g : Good sh) where
  pub span_pos : 0 < row_size sh
  span_pos = mul-pos g.cols-pos (let h = g.page-min in omega arith)

  pub page-eq : sh.page ≡ sh.page / 8 * 8
  page-eq = let h = g.page-cells in sym (let e = div-add-mod' sh.page 8 in omega arith)

  pub size-eq : pool_size sh ≡ zones_at sh + sh.zones * (sh.rows + 1) * row_size sh
  unfolding pool_size
  size-eq = omega arith

  rows-mod : (x : ℕ) → x % (sh.rows + 1) < sh.rows + 1
  rows-mod x = mod-lt x (omega arith)

  pub zone-cell : (z r o : ℕ) → r ≤ sh.rows → o < row_size sh → zone sh (byte_at sh z r o) ≡ z
  unfolding zone byte_at
  zone-cell z r o hr ho =
      rw (add-sub_cancel_left (zones_at sh) ((z * (sh.rows + 1) + r) * row_size sh + o), digits_div (z * (sh.rows + 1) + r) ho)
      (digits_div z (omega arith))

  pub row-cell : (z r o : ℕ) → r ≤ sh.rows → o < row_size sh → row sh (byte_at sh z r o) ≡ r
  unfolding row byte_at
  row-cell z r o hr ho =
      rw (add-sub_cancel_left (zones_at sh) ((z * (sh.rows + 1) + r) * row_size sh + o), digits_div (z * (sh.rows + 1) + r) ho)
      (digits_mod z (omega arith))

  pub off-cell : (z r o : ℕ) → o < row_size sh → off sh (byte_at sh z r o) ≡ o
  unfolding off byte_at
  off-cell z r o ho =
      rw (add-sub_cancel_left (zones_at sh) ((z * (sh.rows + 1) + r) * row_size sh + o)) (digits_mod (z * (sh.rows + 1) + r) ho)

  pub cell_self : (t : ℕ) → zones_at sh ≤ t → byte_at sh (zone sh t) (row sh t) (off sh t) ≡ t
  unfolding zone row off byte_at
  cell_self t h = rw (div-add-mod' ((t - zones_at sh) / row_size sh) (sh.rows + 1), div-add-mod' (t - zones_at sh) (row_size sh)) (omega arith)

  pub off-lt : (t : ℕ) → off sh t < row_size sh
  unfolding off
  off-lt t = mod-lt (t - zones_at sh) span_pos

  pub zone-below : (t : ℕ) → zones_at sh ≤ t → t < pool_size sh → zone sh t < sh.zones
  unfolding zone
  zone-below t low high =
      (div-lt_iff_lt-mul {k = sh.rows + 1} (omega arith)).1
      ((div-lt_iff_lt-mul {k = row_size sh} span_pos).1 (let e = size-eq in omega arith))

  pub zone-lt : (t : ℕ) → InZones sh t → zone sh t < sh.zones
  zone-lt t h = zone-below t h.low h.high

  cell-units : (x o : ℕ) → zones_at sh + (x * row_size sh + o) ≡ (18 * (sh.page / 8) + x * (sh.cols * (sh.page / 8))) * 8 + o
  cell-units x o =
      ap (λ (y : ℕ). 18 * y + (x * (sh.cols * y) + o)) page-eq ∙ units x (sh.page / 8) o
    where
      units : (x u o : ℕ) → 18 * (u * 8) + (x * (sh.cols * (u * 8)) + o) ≡ (18 * u + x * (sh.cols * u)) * 8 + o
      units x u o = omega arith

  cell-mod : (z r o : ℕ) → byte_at sh z r o % 8 ≡ o % 8
  unfolding byte_at
  cell-mod z r o =
      ap (λ (y : ℕ). y % 8) (cell-units (z * (sh.rows + 1) + r) o)
      ∙ mul-add-mod_self_right (18 * (sh.page / 8) + (z * (sh.rows + 1) + r) * (sh.cols * (sh.page / 8))) 8 o

  pub off-even : (t : ℕ) → zones_at sh ≤ t → t % 8 ≡ 0 → off sh t % 8 ≡ 0
  off-even t l h = sym (cell-mod (zone sh t) (row sh t) (off sh t)) ∙ ap (λ (y : ℕ). y % 8) (cell_self t l) ∙ h

  pub cell-low : (z r o : ℕ) → zones_at sh ≤ byte_at sh z r o
  unfolding byte_at
  cell-low z r o = omega arith

  pub cell-high : (z r o : ℕ) → z < sh.zones → r ≤ sh.rows → o < row_size sh → byte_at sh z r o < pool_size sh
  unfolding byte_at
  cell-high z r o hz hr ho =
      let k : r < sh.rows + 1 = omega arith in
      let h = digits_lt (digits_lt hz k) ho in
      rw size-eq (omega arith)

  pub cell_in : (z r o : ℕ) → z < sh.zones → r ≤ sh.rows → o < row_size sh → o % 8 ≡ 0 → InZones sh (byte_at sh z r o)
  cell_in z r o hz hr ho e = record { low = cell-low z r o; high = cell-high z r o hz hr ho; even = cell-mod z r o ∙ e }

  pub size-even : pool_size sh % 8 ≡ 0
  size-even =
      ap (λ (y : ℕ). y % 8) (size-eq ∙ omega arith ∙ cell-units (sh.zones * (sh.rows + 1)) 0)
      ∙ mul-add-mod_self_right (18 * (sh.page / 8) + sh.zones * (sh.rows + 1) * (sh.cols * (sh.page / 8))) 8 0

  -- ---- a place in another row of the same column

  pub row_in : (t r : ℕ) → InZones sh t → r ≤ sh.rows → InZones sh (row_at sh t r)
  unfolding row_at
  row_in t r h hr = cell_in (zone sh t) r (off sh t) (zone-lt t h) hr (off-lt t) (off-even t h.low h.even)

  pub row_below : (t : ℕ) → row sh t ≤ sh.rows
  unfolding row
  row_below t = let h = rows-mod ((t - zones_at sh) / row_size sh) in omega arith

  pub row_of : (t r : ℕ) → r ≤ sh.rows → row sh (row_at sh t r) ≡ r
  unfolding row_at
  row_of t r hr = row-cell (zone sh t) r (off sh t) hr (off-lt t)

  pub row-data : (t r : ℕ) → InZones sh t → r < sh.rows → InData sh (row_at sh t r)
  row-data t r h hr = record { inside = row_in t r h (omega arith); data-row = rw (row_of t r (omega arith)) hr }

  -- the places of a column are the same from each of its rows
  pub row-row : (t r r' : ℕ) → r ≤ sh.rows → row_at sh (row_at sh t r) r' ≡ row_at sh t r'
  unfolding row_at
  row-row t r r' hr = rw (zone-cell (zone sh t) r (off sh t) hr (off-lt t), off-cell (zone sh t) r (off sh t) (off-lt t))

  pub row-self : (t : ℕ) → zones_at sh ≤ t → row_at sh t (row sh t) ≡ t
  unfolding row_at
  row-self t h = cell_self t h

  pub fits : (t : ℕ) → t % 8 ≡ 0 → t < pool_size sh → t + 8 ≤ pool_size sh
  fits t e h = let k = size-even in omega arith

  -- the column, counted zone by zone, of a byte of column c of zone z
  pub column-cell : (z r c o : ℕ) → r ≤ sh.rows → c < sh.cols → o < sh.page
      → zone sh (byte_at sh z r (c * sh.page + o)) * sh.cols + off sh (byte_at sh z r (c * sh.page + o)) / sh.page ≡ z * sh.cols + c
  column-cell z r c o hr hc ho =
      rw (zone-cell z r (c * sh.page + o) hr (digits_lt hc ho), off-cell z r (c * sh.page + o) (digits_lt hc ho), digits_div c ho)

-- the limits of 01 on R, C and Z, at a page of whole cells of 256 to 4,096 bytes
pub good-shape : (sh : Shape) → 256 ≤ sh.page → sh.page ≤ 4096 → sh.page % 64 ≡ 0 → 0 < sh.rows → sh.rows ≤ 15 → 0 < sh.cols → sh.cols ≤ 64 → sh.zones ≤ 16
    → Good sh
unfolding pool_size zone_cells
good-shape sh p p' e r r' c c' z =
    let k : sh.rows + 1 ≤ 16 = omega arith in
    let a = mul-le-mul (mul-le-mul z k) c' in
    let n : 18 + sh.zones * (sh.rows + 1) * sh.cols ≤ 18 + 16 * 16 * 64 = omega arith in
    let b = mul-le-mul n p' in
    let u : sh.page / 64 ≤ 64 = omega arith in
    let d = mul-le-mul (mul-le-mul r' c') u in
    record { page-min = p; page-cells = e; rows-pos = r; cols-pos = c; runs = omega arith; limit = omega arith }

module _ (sh : Shape) (g : Good sh) where
  -- a zone begins with its first data row, which begins with a cell; its data rows are its cells
  pub zone-cells : sh.rows * row_size sh ≡ 64 * zone_cells sh
  unfolding zone_cells
  zone-cells = ap (λ (x : ℕ). sh.rows * (sh.cols * x)) whole ∙ units (sh.page / 64)
    where
      whole : sh.page ≡ sh.page / 64 * 64
      whole = let h = g.page-cells in omega arith

      units : (u : ℕ) → sh.rows * (sh.cols * (u * 64)) ≡ 64 * (sh.rows * sh.cols * u)
      units u = omega arith

  pub zone-at : (z o : ℕ) → byte_at sh z 0 o ≡ zone_at sh z + o
  unfolding byte_at zone_at
  zone-at z o = omega arith

  pub zone-even : (z : ℕ) → zone_at sh z % 8 ≡ 0
  zone-even z = ap (λ (x : ℕ). x % 8) (omega (arith, zone-at z 0)) ∙ cell-mod sh g z 0 0

  pub zone-end : zone_at sh sh.zones ≡ pool_size sh
  unfolding zone_at
  zone-end = sym (size-eq sh g ∙ omega arith)

  cell-of : (z d m i : ℕ) → d * row_size sh + m ≡ i → zone_at sh z + i ≡ byte_at sh z d m
  unfolding zone_at byte_at
  cell-of z d m i e = omega arith

  -- the bytes of a zone's cells lie in data rows
  pub row-in-zone : (z i : ℕ) → i < 64 * zone_cells sh → row sh (zone_at sh z + i) < sh.rows
  row-in-zone z i h =
      let d : ℕ = i / row_size sh in
      let l : d < sh.rows = (div-lt_iff_lt-mul (span_pos sh g)).1 (rw zone-cells h) in
      let e : row sh (zone_at sh z + i) ≡ d =
      ap (row sh) (cell-of z d (i % row_size sh) i (div-add-mod' i (row_size sh))) ∙ row-cell sh g z d (i % row_size sh) (omega arith) (mod-lt i (span_pos sh g)) in
      rw e l

  pub zone-low : (z : ℕ) → zones_at sh ≤ zone_at sh z
  unfolding zone_at
  zone-low z = omega arith
