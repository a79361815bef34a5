-- Pages, zones, rows and columns (01, "The pool's bytes"): every offset of the pool, and the limits. The page size is a part of the
-- shape, so that what is proved of parity, cuts and repair holds for each; a version 1 header gives 256. Assumes nothing.
--
--   page 0      header          pages 18 ..       zone 0: R data rows of C pages, row after row, then the parity row of C pages
--   page 1      its copy                          zone 1, and so on
--   pages 2-9   log A
--   pages 10-17 log B
use Rattle.std.specs.Prelude.{ℕ, ◌+◌, ◌-◌, ◌*◌, ◌/◌, ◌%◌, ◌≤◌, ◌<◌, ◌≡◌}

-- ---- The limits that belong to the type of the pool's shape, as its constants.

-- A page is 256 bytes.
abbrev pub page_size : ℕ
page_size = 256

-- A log, and so a transaction, has up to 127 entries.
abbrev pub entry_limit : ℕ
entry_limit = 127

-- A body has up to 496 bytes.
abbrev pub body_limit : ℕ
body_limit = 496

-- Staging memory has at least 2,032 bytes.
abbrev pub staging_size : ℕ
staging_size = 2032

-- ---- Sizes that the formats fix: a cell, the head of a run, a staged or logged entry, and what stands before a log's entries.

abbrev pub cell_size : ℕ
cell_size = 64

abbrev pub head_size : ℕ
head_size = 16

abbrev pub entry_size : ℕ
entry_size = 16

abbrev pub log_head : ℕ
log_head = 16

-- ---- The shape, and where everything lies.

pub record Shape : Type 0 where
  pub page : ℕ
  pub rows : ℕ  -- R, data rows of a zone
  pub cols : ℕ  -- C, pages of a row
  pub zones : ℕ  -- Z

-- The shape with R data rows, C pages a row and Z zones, at a page of 256.
abbrev pub shape : ℕ → ℕ → ℕ → Shape
shape R C Z = record { page = page_size; rows = R; cols = C; zones = Z }

module _ (sh : Shape) where
  -- Page 0 is the header, page 1 its copy, pages 2 to 9 log A, pages 10 to 17 log B, then the zones.
  abbrev pub log_a : ℕ
  log_a = 2 * sh.page

  abbrev pub log_b : ℕ
  log_b = 10 * sh.page

  abbrev pub zones_at : ℕ
  zones_at = 18 * sh.page

  -- The bytes of a row, and of a zone: R data rows and one parity row, each of C pages, row after row.
  abbrev pub row_size : ℕ
  row_size = sh.cols * sh.page

  abbrev pub zone_size : ℕ
  zone_size = (sh.rows + 1) * row_size

  -- The length is exactly (18 + Z × (R + 1) × C) × page.
  unfoldable pub pool_size : ℕ
  pool_size = (18 + sh.zones * (sh.rows + 1) * sh.cols) * sh.page

  -- The data rows of a zone are cells of 64 bytes: 4 × R × C of them at a page of 256.
  unfoldable pub zone_cells : ℕ
  zone_cells = sh.rows * sh.cols * (sh.page / cell_size)

  -- Where zone z begins.
  unfoldable pub zone_at : ℕ → ℕ
  zone_at z = zones_at + z * zone_size

  -- The byte at offset o of row r of zone z; row R is the parity row.
  unfoldable pub byte_at : ℕ → ℕ → ℕ → ℕ
  byte_at z r o = zones_at + ((z * (sh.rows + 1) + r) * row_size + o)

  -- A place's zone, its row there, and its offset in the row.
  unfoldable pub zone : ℕ → ℕ
  zone t = (t - zones_at) / row_size / (sh.rows + 1)

  unfoldable pub row : ℕ → ℕ
  row t = (t - zones_at) / row_size % (sh.rows + 1)

  unfoldable pub off : ℕ → ℕ
  off t = (t - zones_at) % row_size

  -- The place in row r of t's column, and in its parity row.
  unfoldable pub row_at : ℕ → ℕ → ℕ
  row_at t r = byte_at (zone t) r (off t)

  abbrev pub parity_at : ℕ → ℕ
  parity_at t = row_at t sh.rows

-- t is the place of a word of the zones.
pub record InZones (sh : Shape) (t : ℕ) : Type 0 where
  pub low : zones_at sh ≤ t
  pub high : t < pool_size sh
  pub even : t % 8 ≡ 0
