-- The starred bench examples of 01, one list proved from the definitions.
use Prim.Native.Nat.{ℕ, ◌+◌, ◌-◌}
use mathlib.Core.Path.{◌≡◌, refl, sym}
use mathlib.Core.Option.{none, some}
use mathlib.Core.List.{List, [], ◌∷◌, ◌++◌}
use lib.ListN.{length, replicate, take}
use lib.Seq.{sets}
use Rattle.rules.specs.Words.{all_zero, digits, field, number, put, word}
use Rattle.rules.specs.Check.{check, high, low, reduced, updated}
use Rattle.rules.specs.Shape.{Shape, byte_at, off, pool_size, row, row_at, zone, zone_at, zone_cells}
use Rattle.rules.specs.Test.{first}
use Rattle.rules.specs.Header.{differing, header_bytes, header_front, header_id, header_ok, header_shape, id_in, in_range, open_tests, page_at, same, shape_in, valid_header, within}
use Rattle.rules.specs.Runs.{cells_for, check_run, check_word, fits, free_head, free_ok, good_in, head_bytes, head_check, next_run, object_bytes, object_ok, onward, read_run, run_of, walk, zone_walk}
use Rattle.rules.specs.Search.{run_at}
use Rattle.rules.specs.Zones.{body_of, head_at, is_damaged, is_object, object_tests, run_there, walk_in, zone_data}
use Rattle.rules.specs.Seals.{read_tests, unsealed}
use Rattle.rules.specs.Staging.{impossible, is_live, lay, past_commit, touch, touch_range, touch_words, word_count, word_from}
use Rattle.rules.specs.Answer.{After, conclude, taken}
use Rattle.rules.specs.Plan.{plan, touch_write, write}
use Rattle.rules.specs.Calls.{begun, call, call_tests, conclude_start, entries_in, live_tests, record_tests, staged, transaction_start}
use Rattle.rules.specs.Parity.{column_byte, parity_word, xor_to}
use Rattle.rules.specs.Format.{fresh_pool, fresh_zone, fresh_zones}
use Rattle.rules.proofs.Xor.{xor-zero-eq}

-- R 2, C 2, Z 1, with any id: here 1.
abbrev pub bench : Shape
bench = record { page = 256; rows = 2; cols = 2; zones = 1 }

abbrev pub bench_pool : List ℕ
bench_pool = fresh_pool bench 1

-- The pool with the tag 5 object: header, copy and empty logs; the object in cell 0, then 15 free cells; the parity row repeats that row.
unfoldable pub front : List ℕ
front = header_bytes bench 1 ++ (header_bytes bench 1 ++ replicate 4096 0)

unfoldable pub first_row : List ℕ
first_row = object_bytes 5 (0x61 ∷ []) ++ (free_head 15 ++ replicate 432 0)

unfoldable pub object_pool : List ℕ
object_pool = front ++ (first_row ++ (replicate 512 0 ++ first_row))

-- There, a write of 62.
abbrev pub written : After
written = call (begun object_pool (replicate 2032 0)) (write 0 0 (0x62 ∷ []))

-- A pool of that shape with these first bytes of row 0, row 1 and the parity row.
abbrev pub with_column : ℕ → ℕ → ℕ → List ℕ
with_column x y z = replicate 4608 0 ++ ((x ∷ replicate 511 0) ++ ((y ∷ replicate 511 0) ++ (z ∷ replicate 511 0)))

pub examples :
    -- check of no bytes; of "abc"
    (check [] ≡ 0x00000001) × (check (0x61 ∷ 0x62 ∷ 0x63 ∷ []) ≡ 0x024D0127)
    -- free head, 16 cells; 15 cells
    × (head_check (free_head 16) ≡ 0x00B80012) × (head_check (free_head 15) ≡ 0x00AE0011)
    -- object, tag 5, body hex 61; after a write of 62: the check of the whole, the check brought up to date at place 12 of 13, and the
    -- head that the call stages
    × (head_check (take 16 (object_bytes 5 (0x61 ∷ []))) ≡ 0x00B5006B)
    × (field 4 (check_word (take 16 (object_bytes 5 (0x61 ∷ []))) (sets (0x61 ∷ []) 0 (0x62 ∷ []))) 0 ≡ 0x00B6006C)
    × (updated 0x00B5006B (13 - 12) 0x61 0x62 ≡ 0x00B6006C)
    × (written.answer ≡ taken) × (field 4 (lay object_pool (entries_in written.left)) (4608 + 8) ≡ 0x00B6006C)
    -- body 48 takes 1 cell, 49 takes 2, 496 takes 8
    × (cells_for 48 ≡ 1) × (cells_for 49 ≡ 2) × (cells_for 496 ≡ 8)
    -- R 2, C 2, Z 1: 6,144 bytes, and the fresh pool opens; 6,143 and 6,145 give 2
    × (pool_size bench ≡ 6144) × (length bench_pool ≡ 6144) × (first (open_tests bench_pool) ≡ none)
    × (first (open_tests (take 6143 bench_pool)) ≡ some 2) × (first (open_tests (bench_pool ++ (0 ∷ []))) ≡ some 2)
    -- data bytes hex 0F and F0: parity FF, as the parity word and as the one byte with which the column's parity is right
    × (parity_word bench (with_column 0x0F 0xF0 0) 4608 ≡ 0xFF)
    × (column_byte bench (with_column 0x0F 0xF0 0xFF) 0 0 ≡ 0) × ((b : ℕ) → column_byte bench (with_column 0x0F 0xF0 b) 0 0 ≡ 0 → b ≡ 0xFF)
unfolding number digits field word put check low high reduced updated byte_at zone row off row_at zone_at pool_size zone_cells first same within in_range header_front header_bytes page_at header_shape header_id header_ok valid_header shape_in id_in differing open_tests cells_for free_ok object_ok all_zero good_in run_of read_run fits check_run next_run onward walk zone_walk head_bytes free_head object_bytes check_word run_at zone_data walk_in body_of is_object is_damaged run_there head_at object_tests unsealed read_tests touch touch_words word_from word_count touch_range is_live past_commit impossible conclude touch_write plan entries_in conclude_start transaction_start record_tests live_tests call_tests staged call begun xor_to parity_word fresh_zone fresh_zones fresh_pool front first_row object_pool
examples =
    (refl, refl, refl, refl, refl, refl, refl, refl, refl, refl, refl, refl, refl, refl, refl, refl, refl, refl, refl, λ b e. sym (xor-zero-eq 0xFF b e))
