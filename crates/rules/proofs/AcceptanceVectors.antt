-- Worked numbers of the definitions, in the order of 01: each is computed on both sides. The checks were worked out apart from the
-- definitions, as Adler-32 (RFC 1950), which has the same two sums and modulus. Files are checked by name, this one first: a slip in
-- a definition meets a number here before any proof. Assumes nothing.
use Prim.Native.Nat.{ℕ, zero, suc, ◌+◌, ◌-◌, ◌*◌, ◌%◌}
use mathlib.Core.Path.{◌≡◌, refl}
use mathlib.Core.Bool.{Bool, true, false}
use mathlib.Core.Option.{none, some}
use mathlib.Core.List.{List, [], ◌∷◌, ◌++◌}
use lib.Count.{ones, ones_in}
use lib.IntN.{pos, negsuc}
use lib.ListN.{length, take, drop, replicate, set}
use lib.Seq.{sets}
use Rattle.rules.specs.Words.{all_zero, ascii, digits, field, number, put, word}
use Rattle.rules.specs.Check.{check, high, low, reduced, residue, updated}
use Rattle.rules.specs.Shape.{Shape, byte_at, log_a, log_b, off, parity_at, pool_size, row, row_at, zone, zone_at, zone_cells}
use Rattle.rules.specs.Test.{first}
use Rattle.rules.specs.Header.{differing, header_bytes, header_front, header_id, header_ok, header_shape, id_in, in_range, letters, open_tests, page_at, same, shape_in, valid_header, within}
use Rattle.rules.specs.Runs.{Run, Walk, behind_body, cells_for, check_run, check_word, fits, free, free_head, free_ok, good_in, head_bytes, next_run, object, object_bytes, object_ok, onward, read_run, run_of, walk, zone_walk}
use Rattle.rules.specs.Book.{Listed, book, enter, find, overwrite, strike}
use Rattle.rules.specs.Search.{Place, fit, joined, run_at}
use Rattle.rules.specs.Zones.{all_good, body_of, book_from, good_from, head_at, is_damaged, is_object, object_tests, pool_book, run_there, runs_from, walk_in, zone_data}
use Rattle.rules.specs.Seals.{read_tests, unsealed}
use Rattle.rules.specs.Staging.{Phase, Store, closed, commit_length, committing, entries_at, entry_bytes, fresh, good_target, good_targets, impossible, is_live, lay, live, past_commit, touch, touch_range, touch_words, unusable, word_count, word_from}
use Rattle.rules.specs.Answer.{Given, address, conclude, conclude_pool, refused, taken}
use Rattle.rules.specs.Plan.{Plan, allocate, failed, fit_address, fit_in, fit_test, fitted, joined_at, plan, release, search, touch_free, touch_joined, touch_object, touch_write, write}
use Rattle.rules.specs.Calls.{begun, call, call_tests, calls, conclude_start, entries_in, live_tests, record_tests, staged, transaction_start}
use Rattle.rules.specs.NewBook.{new_book, new_books, on_address, on_taken}
use Rattle.rules.specs.Parity.{column_byte, parity_word, xor_to}
use Rattle.rules.specs.Look.{conclude_look, look, look_tests, part, refused as look_refused, seen}
use Rattle.rules.specs.Repair.{altered, any_above, any_two, conclude_repair, differences, refused as repair_refused, repair, repair_tests, repaired, tab_from}
use Rattle.rules.specs.Mend.{mend_header, mended}
use Rattle.rules.specs.Scrub.{all_to, broken_zones, column_right, conclude_scrub, count_runs, count_to, damaged_met, objects_met, refused as scrub_refused, scrub, sum_to, wrong_columns}
use Rattle.rules.specs.Format.{format_tests, fresh_pool, fresh_zone, fresh_zones}
use Rattle.rules.specs.Sound.{book_of}
use Rattle.rules.specs.Tag.{absent, at, conclude_look_up, first_from, first_tagged, found as looked_up, look_up, look_up_tests, refused as look_up_refused, whole_test, with_tag}
use Rattle.rules.specs.Scan.{body_total, broken, broken_line, columns_line, conclude_scan, decimal, decimal_to, free_total, line_text, lines_from, lines_of, lines_text, object_lines, pool_line, pool_text, poolscan, quality, run, run_line, run_text, runs_in, scan_lines, scan_tests, sum_runs, total_line, total_text, zone_lines, zones_text}

-- Each definition of the rules that computes, opened at once.
opened : Unit {0}
unfolding number digits field word put reduced low high check updated pool_size zone_cells zone_at byte_at zone row off row_at first same within in_range header_front header_bytes page_at header_shape header_id header_ok valid_header shape_in id_in differing open_tests cells_for free_ok object_ok all_zero good_in run_of read_run fits check_run next_run onward walk zone_walk head_bytes free_head object_bytes check_word book enter strike overwrite find fit run_at joined zone_data walk_in runs_from book_from pool_book all_good good_from run_there is_object is_damaged body_of head_at object_tests unsealed read_tests touch touch_words word_from word_count touch_range is_live commit_length past_commit impossible conclude conclude_pool fit_in search fit_test fit_address touch_free touch_object touch_write joined_at touch_joined plan entries_in conclude_start transaction_start record_tests live_tests call_tests staged call calls begun on_address on_taken new_book new_books xor_to parity_word tab_from repaired any_above any_two repair_tests differences conclude_repair repair mended count_runs count_to all_to sum_to column_right wrong_columns broken_zones objects_met damaged_met fresh_zone fresh_zones fresh_pool format_tests decimal_to decimal quality run_text run_line broken_line line_text lines_text lines_of lines_from scan_lines zone_lines zones_text runs_in sum_runs object_lines body_total free_total total_text total_line pool_line columns_line pool_text scan_tests conclude_scan poolscan look_tests conclude_look look seen mend_header conclude_scrub scrub book_of with_tag first_from first_tagged whole_test look_up_tests looked_up conclude_look_up look_up ones ones_in
opened = tt

abbrev shape : ℕ → ℕ → ℕ → ℕ → Shape
shape p r c z = record { page = p; rows = r; cols = c; zones = z }

abbrev store : ℕ → ℕ → Store
store o w = record { at = o; val = w }

abbrev listed : ℕ → ℕ → List ℕ → Listed
listed a t b = record { addr = a; tag = t; body = b }

-- ==== The pool's bytes

-- ---- Numbers, little-endian

-- The lowest byte first; digits above the width fall away.
pub digits-low-first : (digits 4 0x04030201 ≡ 1 ∷ 2 ∷ 3 ∷ 4 ∷ []) × (digits 2 0x030201 ≡ 1 ∷ 2 ∷ [])
unfolding opened
digits-low-first = (refl, refl)

-- Digits 1, 2, 3 spell hex 030201.
pub number-low-first : number 3 suc ≡ 0x030201
unfolding opened
number-low-first = refl

-- A field of two bytes at place 1; past the end of a list stand zeros.
pub field-low-first : (field 2 (9 ∷ 1 ∷ 2 ∷ 9 ∷ []) 1 ≡ 0x0201) × (field 4 (1 ∷ 2 ∷ []) 0 ≡ 0x0201)
unfolding opened
field-low-first = (refl, refl)

-- A word is 8 bytes.
pub word-low-first : word (9 ∷ 1 ∷ 2 ∷ 3 ∷ 4 ∷ 5 ∷ 6 ∷ 7 ∷ 8 ∷ 9 ∷ []) 1 ≡ 0x0807060504030201
unfolding opened
word-low-first = refl

-- A store of a word leaves the bytes around it.
pub put-low-first : put (replicate 10 9) 1 0x0807060504030201 ≡ 9 ∷ 1 ∷ 2 ∷ 3 ∷ 4 ∷ 5 ∷ 6 ∷ 7 ∷ 8 ∷ 9 ∷ []
unfolding opened
put-low-first = refl

-- ---- The check

-- 65520 stays, 65521 becomes 0; so does twice 65521, and the highest number of 32 bits becomes 224.
pub reduced-limits : (reduced 65520 ≡ 65520) × (reduced 65521 ≡ 0) × (reduced 65522 ≡ 1) × (reduced 131042 ≡ 0) × (reduced 4294967295 ≡ 224)
unfolding opened
reduced-limits = (refl, refl, refl, refl, refl)

-- One byte: the low sum starts at 1, the high one adds the new low sum.
pub check-one-byte : check (2 ∷ []) ≡ 0x00030003
unfolding opened
check-one-byte = refl

-- 1,200 bytes hex FF: the low sum is reduced four times, the high one hundreds of times.
pub check-long : check (replicate 1200 255) ≡ 0x8224AB8D
unfolding opened
check-long = refl

-- 1,000 bytes, each 7 more than the one before.
pub check-mixed : check (tab_from 0 1000 (λ i. i * 7 % 256)) ≡ 0x5762EE44
unfolding opened
check-mixed = refl

-- A low sum of exactly 65521 becomes 0.
pub check-at-modulus : check (replicate 256 255 ++ (240 ∷ [])) ≡ 0x08000000
unfolding opened
check-at-modulus = refl

-- Over several parts: the sums go on from part to part.
pub check-parts :
    (check (ascii "SGPL" ++ (ascii "pool" ++ ascii "abc")) ≡ 0x17610417)
    × (high (low 1 (ascii "SGPL")) (high 1 0 (ascii "SGPL")) (ascii "poolabc") ≡ 0x1761)
    × (low (low 1 (ascii "SGPL")) (ascii "poolabc") ≡ 0x0417)
unfolding opened
check-parts = (refl, refl, refl)

-- "abc", its byte at place 1 of 3 changed: to "adc", and, a negative difference, to "aac".
pub updated-small : (updated 0x024D0127 2 0x62 0x64 ≡ 0x02510129) × (updated 0x024D0127 2 0x62 0x61 ≡ 0x024B0126)
unfolding opened
updated-small = (refl, refl)

-- The first of 600 bytes, from 0 to 255 and from 255 to 0: 600 × 255 is reduced.
pub updated-large :
    (updated (check (replicate 600 0)) 600 0 255 ≡ 0x581E0100) × (check (255 ∷ replicate 599 0) ≡ 0x581E0100)
    × (updated (check (replicate 600 255)) 600 255 0 ≡ 0x615954C8) × (check (0 ∷ replicate 599 255) ≡ 0x615954C8)
unfolding opened
updated-large = (refl, refl, refl, refl)

-- -1 is 65520, and -65521 is 0.
pub residue-limits : (residue (pos 65521) ≡ 0) × (residue (negsuc 0) ≡ 65520) × (residue (negsuc 65520) ≡ 0)
residue-limits = (refl, refl, refl)

-- ---- The shape. R 2, C 2, Z 2 at a page of 8 bytes: rows of 16 bytes, zones at 144 and 192.

-- The smallest and the largest pool.
pub pool_size-limits : (pool_size (shape 256 1 1 1) ≡ 5120) × (pool_size (shape 256 15 64 16) ≡ 4198912)
unfolding opened
pool_size-limits = (refl, refl)

-- Logs at pages 2 and 10, zones from page 18 on; a zone's cells are 4 × R × C.
pub layout :
    (log_a (shape 256 2 2 1) ≡ 512) × (log_b (shape 256 2 2 1) ≡ 2560) × (zone_at (shape 256 2 2 2) 1 ≡ 6144) × (zone_cells (shape 256 2 3 1) ≡ 24)
unfolding opened
layout = (refl, refl, refl, refl)

-- Byte 9 of the parity row of zone 1, and back; the byte above it in row 0.
pub place :
    (byte_at (shape 8 2 2 2) 1 2 9 ≡ 233) × (zone (shape 8 2 2 2) 233 ≡ 1) × (row (shape 8 2 2 2) 233 ≡ 2)
    × (off (shape 8 2 2 2) 233 ≡ 9) × (row_at (shape 8 2 2 2) 233 0 ≡ 201) × (parity_at (shape 8 2 2 2) 201 ≡ 233)
unfolding opened
place = (refl, refl, refl, refl, refl, refl)

-- ---- The header

-- Letters, R, C, Z, version and id; and a page that begins so, with the right check, the rest zero.
abbrev front : List ℕ → ℕ → ℕ → ℕ → ℕ → ℕ → List ℕ
front l r c z v id = l ++ (r ∷ c ∷ z ∷ v ∷ digits 8 id)

abbrev checked : List ℕ → List ℕ
checked h = h ++ (digits 4 (check h) ++ replicate 236 0)

-- The header of R 2, C 2, Z 1 with id 1, byte by byte.
abbrev header : List ℕ
header = ascii "SGPL" ++ (2 ∷ 2 ∷ 1 ∷ 1 ∷ 1 ∷ 0 ∷ 0 ∷ 0 ∷ 0 ∷ 0 ∷ 0 ∷ 0 ∷ 0x3E ∷ 0x01 ∷ 0xEE ∷ 0x11 ∷ replicate 236 0)

pub header_bytes-is : (header_bytes (shape 256 2 2 1) 1 ≡ header) × (header_ok header ≡ true) × (header_id header ≡ 1)
unfolding opened
header_bytes-is = (refl, refl, refl)

-- The id is 8 bytes.
pub header_bytes-id : take 20 (drop 8 (header_bytes (shape 256 2 2 1) 0x0807060504030201)) ≡ 1 ∷ 2 ∷ 3 ∷ 4 ∷ 5 ∷ 6 ∷ 7 ∷ 8 ∷ 97 ∷ 1 ∷ 94 ∷ 18 ∷ replicate 8 0
unfolding opened
header_bytes-id = refl

-- The ranges' limits are valid; an id with only its last byte set is not 0.
pub header-valid :
    (header_ok (checked (front letters 1 1 1 1 1)) ≡ true) × (header_ok (checked (front letters 15 64 16 1 1)) ≡ true)
    × (header_ok (checked (front letters 2 2 1 1 0x0100000000000000)) ≡ true)
unfolding opened
header-valid = (refl, refl, refl)

-- Invalid, each with the right check: other letters; R 0 and 16; C 0 and 65; Z 0 and 17; version 0 and 2; id 0.
pub header-field-invalid :
    (header_ok (checked (front (ascii "SGPM") 2 2 1 1 1)) ≡ false)
    × (header_ok (checked (front letters 0 2 1 1 1)) ≡ false) × (header_ok (checked (front letters 16 2 1 1 1)) ≡ false)
    × (header_ok (checked (front letters 2 0 1 1 1)) ≡ false) × (header_ok (checked (front letters 2 65 1 1 1)) ≡ false)
    × (header_ok (checked (front letters 2 2 0 1 1)) ≡ false) × (header_ok (checked (front letters 2 2 17 1 1)) ≡ false)
    × (header_ok (checked (front letters 2 2 1 0 1)) ≡ false) × (header_ok (checked (front letters 2 2 1 2 1)) ≡ false)
    × (header_ok (checked (front letters 2 2 1 1 0)) ≡ false)
unfolding opened
header-field-invalid = (refl, refl, refl, refl, refl, refl, refl, refl, refl, refl)

-- Invalid: another check; a byte of the id changed under the check; the first and the last byte of the rest not zero; a short page.
pub header-page-invalid :
    (header_ok (set header 16 0x3F) ≡ false) × (header_ok (set header 15 1) ≡ false) × (header_ok (set header 20 1) ≡ false)
    × (header_ok (set header 255 1) ≡ false) × (header_ok (take 255 header) ≡ false)
unfolding opened
header-page-invalid = (refl, refl, refl, refl, refl)

-- One valid copy is enough: the header's, else the copy's.
pub shape_in-one-copy :
    (shape_in (header ++ replicate 256 0) ≡ shape 256 2 2 1) × (shape_in (replicate 256 0 ++ header) ≡ shape 256 2 2 1)
    × (shape_in (set header 4 3 ++ header) ≡ shape 256 2 2 1)
unfolding opened
shape_in-one-copy = (refl, refl, refl)

-- 2 under 512 bytes; 3 neither valid; 4 both valid and different; 2 not the header's length, with both copies or one.
pub open_tests-refusals :
    (first (open_tests (take 511 (header ++ header))) ≡ some 2) × (first (open_tests (replicate 512 0)) ≡ some 3)
    × (first (open_tests (header ++ checked (front letters 2 2 1 1 2))) ≡ some 4) × (first (open_tests (header ++ header)) ≡ some 2)
    × (first (open_tests (header ++ replicate 256 0)) ≡ some 2) × (first (open_tests (replicate 256 0 ++ header)) ≡ some 2)
unfolding opened
open_tests-refusals = (refl, refl, refl, refl, refl, refl)

-- The smallest pool opens, also with one valid copy; a byte more gives 2.
abbrev smallest : Shape
smallest = shape 256 1 1 1

pub open_tests-opens :
    (first (open_tests (fresh_pool smallest 1)) ≡ none) × (first (open_tests (set (fresh_pool smallest 1) 0 0)) ≡ none)
    × (first (open_tests (set (fresh_pool smallest 1) 256 0)) ≡ none) × (first (open_tests (fresh_pool smallest 1 ++ (0 ∷ []))) ≡ some 2)
unfolding opened
open_tests-opens = (refl, refl, refl, refl)

-- ---- Parity. R 2, C 2, Z 1 at a page of 8 bytes; sevens where header and logs would be.

abbrev grid : List ℕ
grid =
    replicate 144 7 ++ (replicate 8 0x0F ++ (replicate 8 0x11 ++ (replicate 8 0xF0 ++ (replicate 8 0x22 ++ (replicate 8 0xFF ++ replicate 8 0x33)))))

-- The exclusive or of the column's pages, parity page included, is zero; with a changed byte it is the change.
pub column_byte-is :
    (column_byte (shape 8 2 2 1) grid 0 0 ≡ 0) × (column_byte (shape 8 2 2 1) grid 0 15 ≡ 0)
    × (column_byte (shape 8 2 2 1) (set grid 144 0x0E) 0 0 ≡ 1) × (column_byte (shape 8 2 2 1) (set grid 176 0) 0 0 ≡ 0xFF)
unfolding opened
column_byte-is = (refl, refl, refl, refl)

-- The parity word of a column is that of its data rows, named by a place in any of its rows.
pub parity_word-is :
    (parity_word (shape 8 2 2 1) grid 144 ≡ 0xFFFFFFFFFFFFFFFF) × (parity_word (shape 8 2 2 1) grid 160 ≡ 0xFFFFFFFFFFFFFFFF)
    × (parity_word (shape 8 2 2 1) grid 184 ≡ 0x3333333333333333)
unfolding opened
parity_word-is = (refl, refl, refl)

-- ==== Cells and runs

-- A run of free cells with any other bytes behind its head; the object with tag 5 and body "a", and one of two cells.
abbrev free_run : ℕ → List ℕ
free_run n = free_head n ++ replicate (64 * n - 16) 9

abbrev object_a : List ℕ
object_a = object_bytes 5 (ascii "a")

abbrev run_a : Run
run_a = object 1 5 (ascii "a") true

abbrev object_b : List ℕ
object_b = object_bytes 7 (replicate 49 0x62)

abbrev run_b : Run
run_b = object 2 7 (replicate 49 0x62) true

abbrev found : List Run → Bool → Walk
found rs w = record { runs = rs; whole = w }

-- The fewest cells that hold 16 + body.
pub cells_for-limits : (cells_for 1 ≡ 1) × (cells_for 48 ≡ 1) × (cells_for 49 ≡ 2) × (cells_for 112 ≡ 2) × (cells_for 113 ≡ 3) × (cells_for 496 ≡ 8)
unfolding opened
cells_for-limits = (refl, refl, refl, refl, refl, refl)

-- Kind, run length, body length, check, tag; then the body and zeros to the cells' end.
pub free_head-is : free_head 16 ≡ 1 ∷ 0 ∷ 16 ∷ 0 ∷ 0 ∷ 0 ∷ 0 ∷ 0 ∷ 0x12 ∷ 0 ∷ 0xB8 ∷ 0 ∷ 0 ∷ 0 ∷ 0 ∷ 0 ∷ []
unfolding opened
free_head-is = refl

pub object_bytes-is : object_a ≡ 2 ∷ 0 ∷ 1 ∷ 0 ∷ 1 ∷ 0 ∷ 0 ∷ 0 ∷ 0x6B ∷ 0 ∷ 0xB5 ∷ 0 ∷ 5 ∷ 0 ∷ 0 ∷ 0 ∷ 0x61 ∷ replicate 47 0
unfolding opened
object_bytes-is = refl

-- Head bytes 8 to 15 when the body becomes "b": the new check, the tag.
pub check_word-is : check_word (take 16 object_a) (ascii "b") ≡ 0x6C ∷ 0 ∷ 0xB6 ∷ 0 ∷ 5 ∷ 0 ∷ 0 ∷ 0 ∷ []
unfolding opened
check_word-is = refl

-- Two objects and a free run, whose other bytes are not read; a free run between objects; one object of the largest body.
pub zone_walk-whole :
    (zone_walk (object_a ++ (object_b ++ free_run 3)) ≡ found (run_a ∷ run_b ∷ free 3 ∷ []) true)
    × (zone_walk (object_b ++ (free_run 2 ++ object_a)) ≡ found (run_b ∷ free 2 ∷ run_a ∷ []) true)
    × (zone_walk (object_bytes 5 (replicate 496 1)) ≡ found (object 8 5 (replicate 496 1) true ∷ []) true)
unfolding opened
zone_walk-whole = (refl, refl, refl)

-- Damaged, and the zone not broken: the body, the tag or the check changed; a body length that still fits the cells.
pub zone_walk-damaged :
    (zone_walk (set object_a 16 0x62 ++ free_run 3) ≡ found (object 1 5 (ascii "b") false ∷ free 3 ∷ []) true)
    × (zone_walk (set object_a 12 6 ++ free_run 3) ≡ found (object 1 6 (ascii "a") false ∷ free 3 ∷ []) true)
    × (zone_walk (set object_a 8 0 ++ free_run 3) ≡ found (object 1 5 (ascii "a") false ∷ free 3 ∷ []) true)
    × (zone_walk (set object_a 4 2 ++ free_run 3) ≡ found (object 1 5 (0x61 ∷ 0 ∷ []) false ∷ free 3 ∷ []) true)
unfolding opened
zone_walk-damaged = (refl, refl, refl, refl)

-- Likewise: the first byte behind the body is not zero; the last one before the run's end.
pub zone_walk-stray :
    (zone_walk (set object_a 17 1 ++ free_run 3) ≡ found (object 1 5 (ascii "a") false ∷ free 3 ∷ []) true)
    × (zone_walk (set object_b 127 1 ++ free_run 3) ≡ found (object 2 7 (replicate 49 0x62) false ∷ free 3 ∷ []) true)
unfolding opened
zone_walk-stray = (refl, refl)

-- How many bytes stand behind a body of m bytes, up to its last cell's end.
abbrev count_behind : ℕ → ℕ
count_behind m = length (behind_body (take 16 (object_bytes 5 (replicate m 1))) (drop 16 (object_bytes 5 (replicate m 1))))

pub behind_body-lengths :
    (count_behind 1 ≡ 47) × (count_behind 47 ≡ 1) × (count_behind 48 ≡ 0) × (count_behind 49 ≡ 63) × (count_behind 112 ≡ 0) × (count_behind 113 ≡ 63)
    × (count_behind 495 ≡ 1) × (count_behind 496 ≡ 0)
unfolding opened
behind_body-lengths = (refl, refl, refl, refl, refl, refl, refl, refl)

-- An object with a body of m bytes, 64 bytes behind its run, and its byte i changed to 1.
abbrev good_with : ℕ → ℕ → Bool
good_with m i = good_in (take 16 (object_bytes 5 (replicate m 0))) (drop 16 (set (object_bytes 5 (replicate m 0) ++ replicate 64 0) i 1))

-- The first byte behind the body, the last before the run's end, and the one right behind the run, which leaves it good.
pub good_in-limits :
    (good_with 1 17 ≡ false) × (good_with 1 63 ≡ false) × (good_with 1 64 ≡ true) × (good_with 47 63 ≡ false) × (good_with 47 64 ≡ true) × (good_with 48 64 ≡ true)
    × (good_with 49 65 ≡ false) × (good_with 49 127 ≡ false) × (good_with 49 128 ≡ true) × (good_with 495 511 ≡ false) × (good_with 495 512 ≡ true) × (good_with 496 512 ≡ true)
unfolding opened
good_in-limits = (refl, refl, refl, refl, refl, refl, refl, refl, refl, refl, refl, refl)

-- Broken at cell 1, behind an object that is kept: a head with the right check, and any bytes behind it up to three cells.
abbrev behind : List ℕ → Walk
behind h = zone_walk (object_a ++ (h ++ replicate (192 - length h) 0))

abbrev break : Walk
break = found (run_a ∷ []) false

-- Another kind; run length 0.
pub break-kind : (behind (head_bytes 0 3 0 0 []) ≡ break) × (behind (head_bytes 3 1 1 5 (0 ∷ [])) ≡ break) × (behind (head_bytes 1 0 0 0 []) ≡ break)
unfolding opened
break-kind = (refl, refl, refl)

-- An object's lengths: body 0; body 497; too many and too few cells.
pub break-lengths :
    (behind (head_bytes 2 1 0 5 []) ≡ break) × (zone_walk (object_a ++ object_bytes 5 (replicate 497 1)) ≡ break)
    × (behind (head_bytes 2 2 1 5 (0 ∷ [])) ≡ break) × (behind (head_bytes 2 1 49 5 (replicate 49 0)) ≡ break)
unfolding opened
break-lengths = (refl, refl, refl, refl)

-- A run past the zone's end: free, object.
pub break-past-end : (behind (free_head 4) ≡ break) × (zone_walk (object_a ++ take 64 object_b) ≡ break)
unfolding opened
break-past-end = (refl, refl)

-- A free head with body length 1; with tag 1; with a wrong check.
pub break-free-head : (behind (head_bytes 1 3 1 0 []) ≡ break) × (behind (head_bytes 1 3 0 1 []) ≡ break) × (behind (set (free_head 3) 8 0) ≡ break)
unfolding opened
break-free-head = (refl, refl, refl)

-- A free run right after a free run: the break stands at the second.
pub break-free-after-free : zone_walk (object_a ++ (free_run 1 ++ free_run 2)) ≡ found (run_a ∷ free 1 ∷ []) false
unfolding opened
break-free-after-free = refl

-- ---- Format

-- One free run, all other bytes zero, the head again in the parity row; R 2, C 1 at a page of 64 bytes.
pub fresh_zone-is : fresh_zone (shape 64 2 1 1) ≡ free_head 2 ++ (replicate 112 0 ++ (free_head 2 ++ replicate 48 0))
unfolding opened
fresh_zone-is = refl

-- 1 R, C or Z outside its range, or id 0, before 2 another length.
pub format_tests-refusals :
    (first (format_tests (replicate 5120 9) smallest 1) ≡ none) × (first (format_tests (replicate 5119 9) smallest 1) ≡ some 2)
    × (first (format_tests (replicate 5121 9) smallest 1) ≡ some 2) × (first (format_tests [] smallest 0) ≡ some 1)
    × (first (format_tests [] (shape 256 16 1 1) 1) ≡ some 1) × (first (format_tests [] (shape 256 1 65 1) 1) ≡ some 1)
    × (first (format_tests [] (shape 256 1 1 17) 1) ≡ some 1) × (first (format_tests [] smallest 1) ≡ some 2)
unfolding opened
format_tests-refusals = (refl, refl, refl, refl, refl, refl, refl, refl)

-- ==== Transactions

-- ---- Searching and joining

-- The lowest free run that is long enough: of 1, 2 and 3 cells; none of 6.
abbrev runs : List Run
runs = run_a ∷ free 1 ∷ run_b ∷ free 2 ∷ run_a ∷ free 5 ∷ []

abbrev cells_at : ℕ → ℕ → Place
cells_at c n = record { cell = c; count = n }

pub fit-lowest :
    (fit 1 0 runs ≡ some (cells_at 1 1)) × (fit 2 0 runs ≡ some (cells_at 4 2)) × (fit 3 0 runs ≡ some (cells_at 7 5)) × (fit 6 0 runs ≡ none)
unfolding opened
fit-lowest = (refl, refl, refl, refl)

-- The run that begins at a cell; none begins inside a run.
pub run_at-is : (run_at 2 0 runs ≡ some run_b) × (run_at 4 0 runs ≡ some (free 2)) × (run_at 3 0 runs ≡ none) × (run_at 12 0 runs ≡ none)
unfolding opened
run_at-is = (refl, refl, refl, refl)

-- Joined with free neighbours on both sides, the left only, the right only, none.
pub joined_is :
    (joined 2 0 0 runs ≡ cells_at 1 5) × (joined 1 0 0 (free 1 ∷ run_b ∷ run_a ∷ []) ≡ cells_at 0 3)
    × (joined 1 0 0 (run_a ∷ run_b ∷ free 2 ∷ []) ≡ cells_at 1 4) × (joined 1 0 0 (run_a ∷ run_b ∷ run_a ∷ []) ≡ cells_at 1 2)
    × (joined 3 0 0 (free 1 ∷ run_b ∷ run_a ∷ []) ≡ cells_at 3 1)
unfolding opened
joined_is = (refl, refl, refl, refl, refl)

-- ---- Touching

-- A word touched twice keeps one entry, in order of first touch.
pub touch-twice :
    (touch 8 3 (store 8 1 ∷ store 16 2 ∷ []) ≡ store 8 3 ∷ store 16 2 ∷ [])
    × (touch 0 3 (store 8 1 ∷ store 16 2 ∷ []) ≡ store 8 1 ∷ store 16 2 ∷ store 0 3 ∷ [])
unfolding opened
touch-twice = (refl, refl)

-- The words that hold 4 bytes from place 14 on: those at 8 and 16. One byte: one word; 8 aligned bytes: one; 8 others: two.
pub word_count-is :
    (word_from 14 ≡ 8) × (word_count 14 4 ≡ 2) × (word_from 16 ≡ 16) × (word_count 15 1 ≡ 1) × (word_count 16 8 ≡ 1) × (word_count 17 8 ≡ 2)
unfolding opened
word_count-is = (refl, refl, refl, refl, refl, refl)

pub touch_range-is : touch_range 14 4 (tab_from 0 32 (λ i. i)) (store 16 0 ∷ []) ≡ store 16 0x1716151413121110 ∷ store 8 0x0F0E0D0C0B0A0908 ∷ []
unfolding opened
touch_range-is = refl

-- Entries in memory: target offset, then the word; and read back.
pub entry_bytes-is :
    (entry_bytes (store 0x0201 3 ∷ []) ≡ 1 ∷ 2 ∷ 0 ∷ 0 ∷ 0 ∷ 0 ∷ 0 ∷ 0 ∷ 3 ∷ 0 ∷ 0 ∷ 0 ∷ 0 ∷ 0 ∷ 0 ∷ 0 ∷ [])
    × (entries_at (entry_bytes (store 8 1 ∷ store 16 2 ∷ [])) 0 2 ≡ store 8 1 ∷ store 16 2 ∷ [])
unfolding opened
entry_bytes-is = (refl, refl)

-- ---- What the calls stage. R 4, C 1, Z 2 at a page of 64 bytes: 4 cells a zone, zones at 1152 and 1472, parity rows not read.

abbrev two : Shape
two = shape 64 4 1 2

abbrev pool2 : List ℕ → List ℕ → List ℕ
pool2 a b = replicate 1152 0 ++ (a ++ (replicate 64 0 ++ (b ++ replicate 64 0)))

-- Tag 5 and body "a" into a free zone: 8 words of the cell, 2 of the remainder's head; the address is the cell's.
pub allocate-entries :
    ((plan two (pool2 (free_run 4) (free_run 4)) [] (allocate 5 (ascii "a"))).entries
    ≡ store 1152 0x100010002 ∷ store 1160 0x500B5006B ∷ store 1168 0x61 ∷ store 1176 0 ∷ store 1184 0 ∷ store 1192 0 ∷ store 1200 0
    ∷ store 1208 0 ∷ store 1216 0x30001 ∷ store 1224 0x360005 ∷ [])
    × ((plan two (pool2 (free_run 4) (free_run 4)) [] (allocate 5 (ascii "a"))).answer ≡ address 0)
unfolding opened
allocate-entries = (refl, refl)

-- Behind an object of two cells, and in zone 1 behind a full zone 0: where the first word lies, and the address.
pub allocate-place :
    (take 1 (plan two (pool2 (object_b ++ free_run 2) (free_run 4)) [] (allocate 5 (ascii "a"))).entries ≡ store 1280 0x100010002 ∷ [])
    × ((plan two (pool2 (object_b ++ free_run 2) (free_run 4)) [] (allocate 5 (ascii "a"))).answer ≡ address 2)
    × (take 1 (plan two (pool2 (object_b ++ object_b) (object_a ++ free_run 3)) [] (allocate 5 (ascii "a"))).entries ≡ store 1536 0x100010002 ∷ [])
    × ((plan two (pool2 (object_b ++ object_b) (object_a ++ free_run 3)) [] (allocate 5 (ascii "a"))).answer ≡ address 5)
unfolding opened
allocate-place = (refl, refl, refl, refl)

-- No cell remains: no head is touched behind the object.
pub allocate-no-remainder : length (plan two (pool2 (object_b ++ free_run 2) (free_run 4)) [] (allocate 5 (replicate 49 1))).entries ≡ 16
unfolding opened
allocate-no-remainder = refl

-- Write: the check word first, then the words of the range. One byte; bytes 6 to 9 of a body, over two words that keep their others.
pub write_entries :
    ((plan two (pool2 (object_a ++ free_run 3) (free_run 4)) [] (write 0 0 (ascii "b"))).entries ≡ store 1160 0x500B6006C ∷ store 1168 0x62 ∷ [])
    × (drop 1 (plan two (pool2 (free_run 2 ++ object_b) (free_run 4)) [] (write 2 6 (ascii "aaaa"))).entries
    ≡ store 1296 0x6161626262626262 ∷ store 1304 0x6262626262626161 ∷ [])
unfolding opened
write_entries = (refl, refl)

-- Written again: the new words take the places of the earlier ones.
abbrev written_b : List Store
written_b = store 1160 0x500B6006C ∷ store 1168 0x62 ∷ []

pub write_again :
    (plan two (lay (pool2 (object_a ++ free_run 3) (free_run 4)) written_b) written_b (write 0 0 (ascii "a"))).entries
    ≡ store 1160 0x500B5006B ∷ store 1168 0x61 ∷ []
unfolding opened
write_again = refl

-- Free touches the two head words of the joined run: joined behind, before, on both sides.
pub release-entries :
    ((plan two (pool2 (object_a ++ free_run 3) (free_run 4)) [] (release 0)).entries ≡ store 1152 0x40001 ∷ store 1160 0x400006 ∷ [])
    × ((plan two (pool2 (free_run 4) (free_run 2 ++ object_b)) [] (release 6)).entries ≡ store 1472 0x40001 ∷ store 1480 0x400006 ∷ [])
    × ((plan two (pool2 (free_run 1 ++ (object_a ++ free_run 2)) (free_run 4)) [] (release 1)).entries ≡ store 1152 0x40001 ∷ store 1160 0x400006 ∷ [])
    × ((plan two (pool2 (object_a ++ (object_a ++ object_b)) (free_run 4)) [] (release 1)).entries ≡ store 1216 0x10001 ∷ store 1224 0x220003 ∷ [])
unfolding opened
release-entries = (refl, refl, refl, refl)

-- 26 when nothing fits; 23 when zone 0 is broken, also behind a run that fits; a fit in zone 0 though zone 1 is broken.
pub search-order :
    (search two (pool2 (object_b ++ free_run 2) (free_run 1 ++ (object_b ++ free_run 1))) 3 0 2 ≡ failed 26)
    × (search two (pool2 (replicate 256 0) (free_run 4)) 1 0 2 ≡ failed 23)
    × (search two (pool2 (free_run 1 ++ replicate 192 0) (free_run 4)) 1 0 2 ≡ failed 23)
    × (search two (pool2 (object_a ++ free_run 3) (replicate 256 0)) 3 0 2 ≡ fitted 0 (cells_at 1 3))
    × (search two (pool2 (object_a ++ free_run 3) (replicate 256 0)) 4 0 2 ≡ failed 23)
unfolding opened
search-order = (refl, refl, refl, refl, refl)

-- 6 body 0 or above 496, before the search; 496 is taken as far as 26.
pub allocate-refusals :
    (first (plan two (pool2 (replicate 256 0) []) [] (allocate 5 [])).tests ≡ some 6)
    × (first (plan two (pool2 (free_run 4) (free_run 4)) [] (allocate 5 (replicate 497 1))).tests ≡ some 6)
    × (first (plan two (pool2 (free_run 4) (free_run 4)) [] (allocate 5 (replicate 496 1))).tests ≡ some 26)
    × (first (plan two (pool2 (free_run 4) (free_run 4)) [] (allocate 5 (replicate 240 1))).tests ≡ none)
unfolding opened
allocate-refusals = (refl, refl, refl, refl)

-- 5 address not below Z × cells; 23 its zone is broken; 24 no object begins there; 25 it is damaged. Another zone's break is not met.
pub object-refusals :
    (first (object_tests two (pool2 (object_a ++ free_run 3) (free_run 4)) 8) ≡ some 5)
    × (first (object_tests two (pool2 (object_a ++ free_run 3) (replicate 256 0)) 7) ≡ some 23)
    × (first (object_tests two (pool2 (object_a ++ replicate 192 0) (free_run 4)) 0) ≡ some 23)
    × (first (object_tests two (pool2 (object_a ++ free_run 3) (free_run 4)) 1) ≡ some 24)
    × (first (object_tests two (pool2 (object_b ++ free_run 2) (free_run 4)) 1) ≡ some 24)
    × (first (object_tests two (pool2 (set object_a 16 0 ++ free_run 3) (free_run 4)) 0) ≡ some 25)
    × (first (object_tests two (pool2 (object_a ++ free_run 3) (replicate 256 0)) 0) ≡ none)
unfolding opened
object-refusals = (refl, refl, refl, refl, refl, refl, refl)

-- 7 range empty or past the body; up to its end is taken.
pub write-refusals :
    (first (plan two (pool2 (object_b ++ free_run 2) []) [] (write 0 0 [])).tests ≡ some 7)
    × (first (plan two (pool2 (object_b ++ free_run 2) []) [] (write 0 48 (1 ∷ 1 ∷ []))).tests ≡ some 7)
    × (first (plan two (pool2 (object_b ++ free_run 2) []) [] (write 0 49 (1 ∷ []))).tests ≡ some 7)
    × (first (plan two (pool2 (object_b ++ free_run 2) []) [] (write 0 47 (1 ∷ 1 ∷ []))).tests ≡ none)
unfolding opened
write-refusals = (refl, refl, refl, refl)

-- ---- Whole calls on the smallest pool

-- On bytes that are no pool; their id reads as 0.
abbrev given_of : ℕ → ℕ → Phase → Given
given_of id n ph = record { pool = []; staging = replicate 2032 0; txn = record { id = id; count = n; phase = ph } }

abbrev given : ℕ → Phase → Given
given = given_of 0

-- A transaction is begun with the pool's id: that of the first valid header. Without a header, or with a seal set, it is not, and the record
-- handed back is closed and has id 0.
pub id_in-is :
    (id_in (fresh_pool smallest 7) ≡ 7) × (id_in (set (fresh_pool smallest 7) 8 9) ≡ 7) × (id_in (set (fresh_pool smallest 7) 264 9) ≡ 7)
    × (id_in (set (set (fresh_pool smallest 7) 0 0) 8 9) ≡ 7)
unfolding opened
id_in-is = (refl, refl, refl, refl)

pub transaction_start-is :
    (transaction_start (fresh_pool smallest 7) ≡ record { answer = taken; txn = record { id = 7; count = 0; phase = live } })
    × (transaction_start [] ≡ record { answer = refused 2; txn = record { id = 0; count = 0; phase = closed } })
    × (transaction_start (set (fresh_pool smallest 7) 512 1) ≡ record { answer = refused 21; txn = record { id = 0; count = 0; phase = closed } })
unfolding opened
transaction_start-is = (refl, refl, refl)

-- A record of another pool is refused, closed or not.
pub call-other-pool :
    ((call (record { pool = fresh_pool smallest 1; staging = replicate 2032 0; txn = fresh 2 }) (release 0)).answer ≡ refused 11)
    × ((call (record { pool = fresh_pool smallest 1; staging = replicate 2032 0; txn = unusable }) (release 0)).answer ≡ refused 11)
unfolding opened
call-other-pool = (refl, refl)

-- Allocate answers address 0 and stages 10 entries; staging bytes beyond them stay.
pub call-allocate :
    ((call (begun (fresh_pool smallest 1) (replicate 2040 9)) (allocate 5 (ascii "a"))).answer ≡ address 0)
    × (drop 144 (call (begun (fresh_pool smallest 1) (replicate 2040 9)) (allocate 5 (ascii "a"))).left.staging
    ≡ entry_bytes (store 4680 0x360005 ∷ []) ++ replicate 1880 9)
unfolding opened
call-allocate = (refl, refl)

-- Later calls see earlier staged words: the object in the last cell freed, and freed again.
abbrev object_pool : List ℕ
object_pool = header_bytes smallest 1 ++ (header_bytes smallest 1 ++ (replicate 4096 0 ++ (free_run 3 ++ (object_a ++ replicate 256 0))))

pub calls-in-turn : (calls (begun object_pool (replicate 2032 0)) (release 3 ∷ release 3 ∷ [])).answers ≡ taken ∷ refused 24 ∷ []
unfolding opened
calls-in-turn = refl

-- Behind 2, 3, 4, 2: 9 staging under 2,032 bytes; 10 committing without entries; 11 another pool's. Then 29 not open.
pub call-refusals :
    (first (drop 4 (record_tests (begun [] (replicate 2031 0)))) ≡ some 9) × (first (drop 4 (record_tests (given 0 live))) ≡ none)
    × (first (drop 4 (record_tests (given_of 1 0 (committing 0)))) ≡ some 10) × (first (drop 4 (record_tests (given_of 1 0 closed))) ≡ some 11)
    × (first (live_tests (given 0 closed)) ≡ some 29)
    × (first (live_tests (given 0 (committing 0))) ≡ some 29) × (first (live_tests (given 0 live)) ≡ none)
unfolding opened
call-refusals = (refl, refl, refl, refl, refl, refl, refl)

-- A refusal leaves pool, staging and record as given.
pub call-refused-changes-nothing :
    ((call (begun (fresh_pool smallest 1) (replicate 2031 0)) (allocate 5 (ascii "a"))).left.txn.count ≡ 0)
    × (mend_header (replicate 256 9 ++ replicate 256 0) ≡ record { answer = refused 3; pool = replicate 256 9 ++ replicate 256 0 })
unfolding opened
call-refused-changes-nothing = (refl, refl)

-- 27, behind all others, more than 127 words: the entries that a call would leave are counted.
abbrev stores : ℕ → ℕ → List Store
stores o zero = []
stores o (suc n) = store o 1 ∷ stores (o + 8) n

abbrev touching : List Store → Plan
touching es = record { tests = []; answer = taken; entries = es }

pub call_tests-limit :
    (first (drop 9 (call_tests (given 0 live) (touching (stores 4608 127)))) ≡ none)
    × (first (drop 9 (call_tests (given 0 live) (touching (stores 4608 128)))) ≡ some 27)
unfolding opened
call_tests-limit = (refl, refl)

-- 21 a seal is not zero: log A at 16, log B at 80; at a page of 256, log A at 512.
pub unsealed-is :
    (unsealed (shape 8 2 2 1) (replicate 144 0) ≡ true) × (unsealed (shape 8 2 2 1) (set (replicate 144 0) 23 1) ≡ false)
    × (unsealed (shape 8 2 2 1) (set (replicate 144 0) 80 1) ≡ false) × (unsealed (shape 8 2 2 1) (set (replicate 144 0) 24 1) ≡ true)
    × (first (drop 4 (read_tests (replicate 512 0 ++ (1 ∷ [])))) ≡ some 21) × (first (live_tests (record { pool = replicate 512 0 ++ (1 ∷ []); staging = []; txn = fresh 0 })) ≡ some 21)
unfolding opened
unsealed-is = (refl, refl, refl, refl, refl, refl)

-- ---- Look

-- The place and length of that object's body, and its bytes; no object begins in cell 0. An empty part means refused.
pub look_is :
    (look object_pool 3 ≡ part 4816 1) × (seen object_pool (part 4816 1) ≡ ascii "a") × (look object_pool 0 ≡ look_refused 24)
    × (seen object_pool (look_refused 24) ≡ [])
unfolding opened
look_is = (refl, refl, refl, refl)

-- ==== Commit, cut, recovery

-- ---- Targets, and impossible records. R 2, C 2, Z 2 at a page of 8 bytes.

-- In data rows of either zone, at the first word and the last; not in the parity row, unaligned, below the zones, past the end.
pub good_target-is :
    (good_target (shape 8 2 2 2) 144 ≡ true) × (good_target (shape 8 2 2 2) 168 ≡ true) × (good_target (shape 8 2 2 2) 216 ≡ true)
    × (good_target (shape 8 2 2 2) 176 ≡ false) × (good_target (shape 8 2 2 2) 232 ≡ false) × (good_target (shape 8 2 2 2) 148 ≡ false)
    × (good_target (shape 8 2 2 2) 136 ≡ false) × (good_target (shape 8 2 2 2) 240 ≡ false)
unfolding opened
good_target-is = (refl, refl, refl, refl, refl, refl, refl, refl)

-- None repeats.
pub good_targets-is :
    (good_targets (shape 8 2 2 2) (store 144 1 ∷ store 152 1 ∷ []) ≡ true)
    × (good_targets (shape 8 2 2 2) (store 144 1 ∷ store 152 1 ∷ store 144 2 ∷ []) ≡ false)
    × (good_targets (shape 8 2 2 2) (store 144 1 ∷ store 176 1 ∷ []) ≡ false)
unfolding opened
good_targets-is = (refl, refl, refl)

-- 2 entries are possible, one in the parity row is not. The limit of 127 entries: Staging's `impossible-count` and `possible-few`.
pub impossible-targets :
    (impossible smallest (entry_bytes (stores 4848 2)) 2 live ≡ false) × (impossible smallest (entry_bytes (stores 4856 2)) 2 live ≡ true)
unfolding opened
impossible-targets = (refl, refl)

-- A commit of one entry has 15 steps: place 14 is in its list, place 15 past it. Without entries there is no list.
pub impossible-place :
    (commit_length 0 ≡ 0) × (commit_length 2 ≡ 21) × (commit_length 10 ≡ 69)
    × (impossible smallest (entry_bytes (stores 4608 1)) 1 (committing 14) ≡ false)
    × (impossible smallest (entry_bytes (stores 4608 1)) 1 (committing 15) ≡ true)
    × (impossible smallest [] 0 (committing 0) ≡ true)
    × (impossible smallest [] 0 closed ≡ false)
unfolding opened
impossible-place = (refl, refl, refl, refl, refl, refl, refl)

-- ---- The book

-- Each object's address, tag and body; the first run begins at cell address 4.
pub book-is : book 4 (free 1 ∷ run_b ∷ run_a ∷ []) ≡ listed 5 7 (replicate 49 0x62) ∷ listed 7 5 (ascii "a") ∷ []
unfolding opened
book-is = refl

-- Zone 0 broken behind an object, an object in zone 1: its address is zone × cells + cell.
pub pool_book-is : pool_book two (pool2 (object_a ++ replicate 192 0) (free_run 1 ++ (object_b ++ object_a))) ≡ listed 0 5 (ascii "a") ∷ listed 5 7 (replicate 49 0x62) ∷ listed 7 5 (ascii "a") ∷ []
unfolding opened
pool_book-is = refl

-- No zone broken and no object damaged.
pub good_from-is :
    (good_from two (pool2 (object_a ++ free_run 3) (free_run 4)) 0 2 ≡ true)
    × (good_from two (pool2 (free_run 4) (set object_a 16 0 ++ free_run 3)) 0 2 ≡ false)
    × (good_from two (pool2 (free_run 4) (replicate 256 0)) 0 2 ≡ false)
unfolding opened
good_from-is = (refl, refl, refl)

abbrev books : List Listed
books = listed 2 5 (ascii "abc") ∷ listed 6 7 (ascii "abc") ∷ []

-- Entered ascending by address: in front, between, at the end.
pub new_book-allocate :
    (new_book (allocate 9 (ascii "x")) (address 0) books ≡ listed 0 9 (ascii "x") ∷ books)
    × (new_book (allocate 9 (ascii "x")) (address 4) books ≡ listed 2 5 (ascii "abc") ∷ listed 4 9 (ascii "x") ∷ listed 6 7 (ascii "abc") ∷ [])
    × (new_book (allocate 9 (ascii "x")) (address 8) books ≡ books ++ (listed 8 9 (ascii "x") ∷ []))
unfolding opened
new_book-allocate = (refl, refl, refl)

-- A write taken lays its bytes over its range of the body named; a free taken strikes out the object named.
pub new_book-taken :
    (new_book (write 6 1 (ascii "xy")) taken books ≡ listed 2 5 (ascii "abc") ∷ listed 6 7 (ascii "axy") ∷ [])
    × (new_book (release 6) taken books ≡ listed 2 5 (ascii "abc") ∷ []) × (new_book (release 2) taken books ≡ listed 6 7 (ascii "abc") ∷ [])
    × (find 6 books ≡ some (listed 6 7 (ascii "abc"))) × (find 4 books ≡ none)
unfolding opened
new_book-taken = (refl, refl, refl, refl, refl)

-- A refused call alters nothing.
pub new_book-refused :
    (new_book (allocate 9 (ascii "x")) (refused 26) books ≡ books) × (new_book (write 6 1 (ascii "xy")) (refused 7) books ≡ books)
    × (new_book (release 6) (refused 25) books ≡ books)
unfolding opened
new_book-refused = (refl, refl, refl)

-- A list of calls with its answers, in turn.
pub new_books-is :
    new_books (allocate 9 (ascii "x") ∷ release 2 ∷ write 4 0 (ascii "y") ∷ []) (address 4 ∷ taken ∷ taken ∷ []) books ≡ listed 4 9 (ascii "y") ∷ listed 6 7 (ascii "abc") ∷ []
unfolding opened
new_books-is = refl

-- ---- The look-up by tag (A.1)

abbrev tagged : List Listed
tagged = books ++ (listed 8 5 (ascii "d") ∷ listed 11 5 (ascii "e") ∷ [])

pub with_tag-is :
    (with_tag 5 tagged ≡ listed 2 5 (ascii "abc") ∷ listed 8 5 (ascii "d") ∷ listed 11 5 (ascii "e") ∷ [])
    × (with_tag 7 tagged ≡ listed 6 7 (ascii "abc") ∷ []) × (with_tag 6 tagged ≡ [])
unfolding opened
with_tag-is = (refl, refl, refl)

-- The lowest address at or above: from 0; from that very address; from the one behind it; from the last; from behind the last. No such tag.
pub first_tagged-is :
    (first_tagged 5 0 tagged ≡ some 2) × (first_tagged 5 2 tagged ≡ some 2) × (first_tagged 5 3 tagged ≡ some 8) × (first_tagged 5 11 tagged ≡ some 11)
    × (first_tagged 5 12 tagged ≡ none) × (first_tagged 6 0 tagged ≡ none)
unfolding opened
first_tagged-is = (refl, refl, refl, refl, refl, refl)

-- Damage hides no tag. A break is met though it stands behind the object; a seal, and bytes that are no pool.
pub look_up-is :
    (look_up object_pool 5 0 ≡ at 3) × (look_up object_pool 5 3 ≡ at 3) × (look_up object_pool 5 4 ≡ absent) × (look_up object_pool 7 0 ≡ absent)
    × (look_up (set object_pool 4816 0) 5 0 ≡ at 3)
    × (look_up (header_bytes smallest 1 ++ (header_bytes smallest 1 ++ (replicate 4096 0 ++ (object_a ++ replicate 448 0)))) 5 0 ≡ look_up_refused 23)
    × (look_up (set object_pool 512 1) 5 0 ≡ look_up_refused 21) × (look_up [] 5 0 ≡ look_up_refused 2)
unfolding opened
look_up-is = (refl, refl, refl, refl, refl, refl, refl, refl)

-- ==== Repair and scrub

-- Row 1 of column 0 and the parity row of column 1 lost, whatever bytes they hold; row 0 of both; none.
pub repaired-is :
    (repaired (shape 8 2 2 1) (2 ∷ 4 ∷ []) (sets (sets grid 160 (replicate 8 9)) 184 (replicate 8 9)) ≡ grid)
    × (repaired (shape 8 2 2 1) (1 ∷ 1 ∷ []) (sets grid 144 (replicate 16 9)) ≡ grid) × (repaired (shape 8 2 2 1) (0 ∷ 0 ∷ []) grid ≡ grid)
unfolding opened
repaired-is = (refl, refl, refl)

-- Only lost pages change.
pub repaired-others : repaired (shape 8 2 2 1) (4 ∷ 0 ∷ []) (set (set grid 144 0) 152 0) ≡ set (set (set grid 144 0) 152 0) 176 0xF0
unfolding opened
repaired-others = refl

-- Places that differ: none, one, all; the last; none in no bytes. Bytes count, whatever bits differ.
pub differences-are :
    (differences grid grid ≡ 0) × (differences grid (set grid 144 0xFF) ≡ 1) × (differences (replicate 256 0) (replicate 256 0xEE) ≡ 256)
    × (differences (1 ∷ 2 ∷ 3 ∷ []) (1 ∷ 2 ∷ 4 ∷ []) ≡ 1) × (differences [] [] ≡ 0)
unfolding opened
differences-are = (refl, refl, refl, refl, refl)

-- What repair answers, with the pool left: a page of 8 bytes all wrong; two pages, of which one has a wrong byte and one is as its column says;
-- none lost; a refusal's number alone.
pub repair-answers :
    (conclude_repair (sets grid 160 (replicate 8 9)) none (repaired (shape 8 2 2 1) (2 ∷ 0 ∷ []) (sets grid 160 (replicate 8 9))) ≡ record { answer = altered 8; pool = grid })
    × (conclude_repair (set grid 184 9) none (repaired (shape 8 2 2 1) (2 ∷ 4 ∷ []) (set grid 184 9)) ≡ record { answer = altered 1; pool = grid })
    × (conclude_repair grid none (repaired (shape 8 2 2 1) (0 ∷ 0 ∷ []) grid) ≡ record { answer = altered 0; pool = grid })
    × (repair grid (4 ∷ 0 ∷ []) ≡ record { answer = repair_refused 2; pool = grid })
unfolding opened
repair-answers = (refl, refl, refl, refl)

-- A bit above R is set; a mask has two bits or more.
pub masks :
    (any_above (shape 256 2 2 1) (4 ∷ 7 ∷ []) ≡ false) × (any_above (shape 256 2 2 1) (0 ∷ 8 ∷ []) ≡ true) × (any_two (0 ∷ 1 ∷ 4 ∷ 0x80 ∷ []) ≡ false)
    × (any_two (0 ∷ 5 ∷ []) ≡ true) × (any_two (0xC0 ∷ []) ≡ true)
unfolding opened
masks = (refl, refl, refl, refl, refl)

-- R 2, C 2, Z 1. 8 not Z × C masks, or a bit above R, in any mask before 28; 28 two bits.
pub repair_tests-refusals :
    (first (drop 5 (repair_tests (header ++ header) (4 ∷ 1 ∷ []))) ≡ none) × (first (drop 5 (repair_tests (header ++ header) (4 ∷ []))) ≡ some 8)
    × (first (drop 5 (repair_tests (header ++ header) (0 ∷ 0 ∷ 0 ∷ []))) ≡ some 8)
    × (first (drop 5 (repair_tests (header ++ header) (5 ∷ 8 ∷ []))) ≡ some 8)
    × (first (drop 5 (repair_tests (header ++ header) (5 ∷ 0 ∷ []))) ≡ some 28)
unfolding opened
repair_tests-refusals = (refl, refl, refl, refl, refl)

-- Header mending copies the valid header over an invalid one; two equal ones stay.
pub mended-is :
    (mended (header ++ replicate 256 9) ≡ header ++ header) × (mended (set header 4 0 ++ header) ≡ header ++ header)
    × (mended (header ++ header) ≡ header ++ header)
unfolding opened
mended-is = (refl, refl, refl)

-- Zone 0 broken behind a good and a damaged object; zone 1 a free run.
abbrev broken_pool : List ℕ
broken_pool = pool2 (object_a ++ (set object_a 16 0 ++ replicate 128 0)) (free_run 4)

-- Objects met, the damaged one included; broken zones. Runs before a break count.
pub scrub-counts :
    (objects_met two broken_pool ≡ 2) × (damaged_met two broken_pool ≡ 1) × (broken_zones two broken_pool ≡ 1)
    × (broken_zones two (pool2 (free_run 4) (free_run 4)) ≡ 0)
    × (scrub (replicate 512 0) ≡ scrub_refused 3)
unfolding opened
scrub-counts = (refl, refl, refl, refl, refl)

-- Columns with wrong parity: none; one, for its first or its last byte; both.
pub wrong_columns-is :
    (wrong_columns (shape 8 2 2 1) grid ≡ 0) × (wrong_columns (shape 8 2 2 1) (set grid 144 0) ≡ 1)
    × (wrong_columns (shape 8 2 2 1) (set grid 191 0) ≡ 1)
    × (wrong_columns (shape 8 2 2 1) (sets grid 151 (0 ∷ 0 ∷ [])) ≡ 2)
unfolding opened
wrong_columns-is = (refl, refl, refl, refl)

-- ==== poolscan

-- The highest digit first, no zero in front. The highest tag: Scan's `decimal-highest`.
pub decimal-is : (decimal 0 ≡ ascii "0") × (decimal 7 ≡ ascii "7") × (decimal 10 ≡ ascii "10") × (decimal 1024 ≡ ascii "1024")
unfolding opened
decimal-is = (refl, refl, refl, refl)

-- Tag, body length and good or bad; free cells.
pub run_line-is :
    (run_line 0 3 (object 2 1000 (replicate 49 0) true) ≡ ascii "(run 0 3 (object 1000 49 good))\n")
    × (run_line 1 0 (object 1 5 (ascii "a") false) ≡ ascii "(run 1 0 (object 5 1 bad))\n") × (run_line 0 1 (free 15) ≡ ascii "(run 0 1 (free 15))\n")
unfolding opened
run_line-is = (refl, refl, refl)

-- The broken line stands for the remaining runs, from the cell behind the last one.
pub zone_lines-broken : zone_lines 2 0 (run_b ∷ free 3 ∷ []) false ≡ ascii "(run 2 0 (object 7 49 good))\n(run 2 2 (free 3))\n(broken 2 5)\n"
unfolding opened
zone_lines-broken = refl

-- R 1, C 1, Z 1 at a page of 64 bytes: the object, and the parity row, here equal to the data row.
pub pool_text-is :
    pool_text (shape 64 1 1 1) (replicate 1152 0 ++ (object_a ++ object_a)) ≡ ascii "(pool 1 1 1)\n(run 0 0 (object 5 1 good))\n(columns (off 0))\n(total (objects 1) (bytes 1) (free 0))\n"
unfolding opened
pool_text-is = refl

-- Columns with wrong parity.
pub columns_line-is : columns_line 1024 ≡ ascii "(columns (off 1024))\n"
unfolding opened
columns_line-is = refl

-- A broken zone, and a zone behind it.
pub zones_text-broken :
    zones_text two broken_pool 0 2 ≡ ascii "(run 0 0 (object 5 1 good))\n(run 0 1 (object 5 1 bad))\n(broken 0 2)\n(run 1 0 (free 4))\n"
unfolding opened
zones_text-broken = refl

-- The totals of an object line, a broken line and a free line; and of no lines.
pub total_line-is :
    (total_line (run 0 0 run_b ∷ broken 0 2 ∷ run 1 0 (free 15) ∷ []) ≡ ascii "(total (objects 1) (bytes 49) (free 15))\n")
    × (total_line [] ≡ ascii "(total (objects 0) (bytes 0) (free 0))\n")
unfolding opened
total_line-is = (refl, refl)

-- The damaged object counts.
pub total_line-broken : total_line (scan_lines two broken_pool) ≡ ascii "(total (objects 2) (bytes 2) (free 4))\n"
unfolding opened
total_line-broken = refl

-- R 1, C 5, Z 1: a free run and an object, then a break, which hides a free run. The parity row is zero, and so each column is wrong.
pub pool_text-broken :
    pool_text (shape 64 1 5 1) (replicate 1152 0 ++ (free_run 2 ++ (object_a ++ (replicate 64 9 ++ (free_run 1 ++ replicate 320 0))))) ≡ ascii "(pool 1 5 1)\n(run 0 0 (free 2))\n(run 0 2 (object 5 1 good))\n(broken 0 3)\n(columns (off 5))\n(total (objects 1) (bytes 1) (free 2))\n"
unfolding opened
pool_text-broken = refl

-- A refusal prints only its number; more than 65,536 bytes give 2 at once.
pub poolscan-refused :
    (poolscan (replicate 511 0) ≡ ascii "(refused 2)\n") × (poolscan (replicate 512 0) ≡ ascii "(refused 3)\n")
    × (first (scan_tests (replicate 65537 0)) ≡ some 2)
unfolding opened
poolscan-refused = (refl, refl, refl)
