-- poolscan's own example of 01 (`scan-example`): the pool with the tag 5 object gives exactly the five lines. The parity of its 512 columns
-- of bytes is proved for any first row, and not computed. Assumes nothing.
use Prim.Native.Nat.{ℕ, zero, suc, ◌+◌, ◌<◌}
use mathlib.Core.Path.{◌≡◌, refl, ap, ap₂, ◌∙◌}
use mathlib.Core.Option.{none}
use mathlib.Core.Bool.{true}
use mathlib.Core.List.{List, [], ◌∷◌, ◌++◌}
use native.Mathlib.Omega.{arith}
use lib.Bits.{bit_xor, xor_self, xor_zero_l, xor_zero_r}
use lib.ListN.{length, get_or, replicate, get_or-append, length-replicate}
use lib.Seq.{get_or-append-add}
use Rattle.rules.specs.Words.{all_zero, ascii, digits, field, number, word}
use Rattle.rules.specs.Check.{check, high, low, reduced}
use Rattle.rules.specs.Shape.{byte_at, pool_size, zone_at, zone_cells}
use Rattle.rules.specs.Test.{first}
use Rattle.rules.specs.Header.{differing, header_bytes, header_front, header_id, header_ok, header_shape, in_range, open_tests, page_at, same, shape_in, valid_header, within}
use Rattle.rules.specs.Runs.{cells_for, check_run, fits, free, free_head, free_ok, good_in, head_bytes, next_run, object, object_bytes, object_ok, onward, read_run, run_of, walk, zone_walk}
use Rattle.rules.specs.Zones.{walk_in, zone_data}
use Rattle.rules.specs.Seals.{read_tests, unsealed}
use Rattle.rules.specs.Parity.{Parity, xor_to}
use Rattle.rules.specs.Scrub.{wrong_columns}
use Rattle.rules.specs.Scan.{body_total, columns_line, conclude_scan, decimal, decimal_to, free_total, line_text, lines_from, lines_of, lines_text, object_lines, pool_line, pool_text, poolscan, quality, run, run_line, run_text, runs_in, scan_lines, scan_tests, sum_runs, total_line, total_text}
use Rattle.rules.proofs.Header.{range-good}
use Rattle.rules.proofs.Scrub.{parity-scrub}
use Rattle.rules.proofs.Examples.{bench, first_row, front, object_pool}

-- ---- parity of R 2, C 2, Z 1 where the second row is zero and the parity row repeats the first

behind : (a b : List ℕ) (i j : ℕ) → j ≡ length a + i → get_or (a ++ b) j 0 ≡ get_or b i 0
behind a b i j e = ap (λ (n : ℕ). get_or (a ++ b) n 0) e ∙ get_or-append-add a b i 0

zeros-at : (n i : ℕ) → i < n → (b : List ℕ) → ◌≡◌ {A = ℕ} (get_or (replicate n 0 ++ b) i 0) 0
zeros-at zero i h b = absurd (omega arith)
zeros-at (suc n) zero h b = refl
zeros-at (suc n) (suc i) h b = zeros-at n i (omega arith) b

column : (f : ℕ → ℕ) (x : ℕ) → f 0 ≡ x → f 1 ≡ 0 → f 2 ≡ x → xor_to 3 f ≡ 0
unfolding xor_to
column f x a b c = ap₂ bit_xor (ap₂ bit_xor (ap (bit_xor 0) a ∙ xor_zero_l x) b ∙ xor_zero_r x) c ∙ xor_self x

repeated-parity : (front d : List ℕ) → length front ≡ 4608 → length d ≡ 512 → Parity bench (front ++ (d ++ (replicate 512 0 ++ d)))
unfolding byte_at
repeated-parity front d hf hd zero o hz ho =
    column _ (get_or d o 0)
    (behind front _ o _ (omega arith) ∙ get_or-append d _ 0 o (omega arith))
    (behind front _ (512 + o) _ (omega arith) ∙ (behind d _ o _ (omega arith) ∙ zeros-at 512 o ho d))
    (behind front _ (1024 + o) _ (omega arith) ∙ (behind d _ (512 + o) _ (omega arith) ∙ behind (replicate 512 0) d o (512 + o) (omega (arith, length-replicate {A = ℕ} 512 0))))
repeated-parity front d hf hd (suc z) o hz ho = absurd (omega arith)

-- ---- the pool

length_front : length front ≡ 4608
unfolding front header_bytes header_front digits check low high reduced
length_front = refl

length-row : length first_row ≡ 512
unfolding first_row object_bytes free_head head_bytes cells_for digits check low high reduced
length-row = refl

columns : wrong_columns bench object_pool ≡ 0
unfolding object_pool
columns = parity-scrub bench object_pool (range-good bench refl (unfold in_range within in refl)) (repeated-parity front first_row length_front length-row)

-- ---- the text

opens : first (scan_tests object_pool) ≡ none
unfolding object_pool front first_row scan_tests read_tests open_tests unsealed first same within in_range header_front header_bytes page_at header_shape header_id header_ok valid_header shape_in differing pool_size number digits field word check low high reduced head_bytes free_head object_bytes cells_for
opens = refl

shape_is : shape_in object_pool ≡ bench
unfolding object_pool front first_row same within in_range header_front header_bytes page_at header_shape header_id header_ok valid_header shape_in number digits field check low high reduced
shape_is = refl

lines_are : scan_lines bench object_pool ≡ run 0 0 (object 1 5 (ascii "a") true) ∷ run 0 1 (free 15) ∷ []
unfolding object_pool front first_row scan_lines lines_from lines_of walk_in zone_data zone_at zone_cells zone_walk walk onward next_run check_run fits read_run run_of free_ok object_ok all_zero good_in number digits field check low high reduced header_front header_bytes head_bytes free_head object_bytes cells_for
lines_are = refl

pub scan-example : poolscan object_pool ≡ ascii "(pool 2 2 1)\n(run 0 0 (object 5 1 good))\n(run 0 1 (free 15))\n(columns (off 0))\n(total (objects 1) (bytes 1) (free 15))\n"
unfolding poolscan conclude_scan pool_text pool_line lines_text line_text run_line run_text quality columns_line total_text total_line object_lines body_total free_total runs_in sum_runs decimal decimal_to
scan-example = rw (opens, shape_is, lines_are, columns)
