-- poolscan (01, "Bench examples"; the total line: request A.7): the text, byte by byte. Each line ends with one line feed. Assumes nothing.
use Rattle.std.specs.Prelude.{ℕ, zero, suc, ◌+◌, ◌/◌, ◌%◌, Bool, cond, List, [], ◌∷◌, ◌++◌, ltb, length}
use Rattle.std.proofs.Math.Option.{Option, none, some}
use Rattle.rules.specs.Words.{ascii}
use Rattle.rules.specs.Shape.{Shape}
use Rattle.rules.specs.Test.{Test, first, when}
use Rattle.rules.specs.Header.{shape_in}
use Rattle.rules.specs.Runs.{Run, cells, free, object}
use Rattle.rules.specs.Search.{free_cells}
use Rattle.rules.specs.Zones.{walk_in}
use Rattle.rules.specs.Seals.{read_tests}
use Rattle.rules.specs.Scrub.{wrong_columns}

-- A number in decimal, of at most f digits; a number has fewer digits than one more than itself.
unfoldable pub decimal_to : ℕ → ℕ → List ℕ
decimal_to zero n = []
decimal_to (suc f) n = cond (ltb n 10) ((48 + n) ∷ []) (decimal_to f (n / 10) ++ ((48 + n % 10) ∷ []))

unfoldable pub decimal : ℕ → List ℕ
decimal n = decimal_to (suc n) n

-- Good or bad.
unfoldable pub quality : Bool → List ℕ
quality good = cond good (ascii "good") (ascii "bad")

-- Tag, body length and good or bad; or free cells.
unfoldable pub run_text : Run → List ℕ
run_text (free n) = ascii "(free " ++ (decimal n ++ ascii ")")
run_text (object n t b g) =
    ascii "(object " ++ (decimal t ++ (ascii " " ++ (decimal (length b) ++ (ascii " " ++ (quality g ++ ascii ")")))))

-- Zone, first cell counted within the zone, then the run.
unfoldable pub run_line : ℕ → ℕ → Run → List ℕ
run_line z c r = ascii "(run " ++ (decimal z ++ (ascii " " ++ (decimal c ++ (ascii " " ++ (run_text r ++ ascii ")\n")))))

-- (broken z c) stands for zone z's remaining runs, from cell c on.
unfoldable pub broken_line : ℕ → ℕ → List ℕ
broken_line z c = ascii "(broken " ++ (decimal z ++ (ascii " " ++ (decimal c ++ ascii ")\n")))

-- ---- The lines between the first line and the columns line.

-- A run, by its zone and its first cell; or a zone's remaining runs, by the zone and the cell from which on it is broken.
pub data Line : Type 0 where
  run : ℕ → ℕ → Run → Line
  broken : ℕ → ℕ → Line

-- Its text, and the texts of lines one behind the other.
unfoldable pub line_text : Line → List ℕ
line_text (run z c r) = run_line z c r
line_text (broken z c) = broken_line z c

unfoldable pub lines_text : List Line → List ℕ
lines_text [] = []
lines_text (l ∷ ls) = line_text l ++ lines_text ls

-- Zone z: its runs, of which the first begins at cell c, and its broken line if it is not whole.
unfoldable pub lines_of : ℕ → ℕ → List Run → Bool → List Line
lines_of z c [] whole = cond whole [] (broken z c ∷ [])
lines_of z c (r ∷ rs) whole = run z c r ∷ lines_of z (c + cells r) rs whole

-- The lines of n zones from zone z on, and of all zones.
unfoldable pub lines_from : Shape → List ℕ → ℕ → ℕ → List Line
lines_from sh p z zero = []
lines_from sh p z (suc n) = lines_of z 0 (walk_in sh p z).runs (walk_in sh p z).whole ++ lines_from sh p (suc z) n

unfoldable pub scan_lines : Shape → List ℕ → List Line
scan_lines sh p = lines_from sh p 0 sh.zones

-- Their text zone by zone (law `lines-text`).
unfoldable pub zone_lines : ℕ → ℕ → List Run → Bool → List ℕ
zone_lines z c [] whole = cond whole [] (broken_line z c)
zone_lines z c (r ∷ rs) whole = run_line z c r ++ zone_lines z (c + cells r) rs whole

unfoldable pub zones_text : Shape → List ℕ → ℕ → ℕ → List ℕ
zones_text sh p z zero = []
zones_text sh p z (suc n) = zone_lines z 0 (walk_in sh p z).runs (walk_in sh p z).whole ++ zones_text sh p (suc z) n

-- ---- The totals of lines (A.7).

-- The runs in lines. A broken line has none: what it hides is not counted.
unfoldable pub runs_in : List Line → List Run
runs_in [] = []
runs_in (run z c r ∷ ls) = r ∷ runs_in ls
runs_in (broken z c ∷ ls) = runs_in ls

-- A number of each run, added up.
unfoldable pub sum_runs : (Run → ℕ) → List Run → ℕ
sum_runs f [] = 0
sum_runs f (r ∷ rs) = f r + sum_runs f rs

-- 1 for an object, good or bad; and the length of its body, as its line prints it.
abbrev pub one_object : Run → ℕ
one_object (free n) = 0
one_object (object n t b g) = 1

abbrev pub body_length : Run → ℕ
body_length (free n) = 0
body_length (object n t b g) = length b

-- The count of object lines, the sum of their body lengths, and the sum of free cells.
unfoldable pub object_lines : List Line → ℕ
object_lines ls = sum_runs one_object (runs_in ls)

unfoldable pub body_total : List Line → ℕ
body_total ls = sum_runs body_length (runs_in ls)

unfoldable pub free_total : List Line → ℕ
free_total ls = sum_runs free_cells (runs_in ls)

-- (total (objects n) (bytes b) (free f)).
unfoldable pub total_text : ℕ → ℕ → ℕ → List ℕ
total_text n b f =
    ascii "(total (objects " ++ (decimal n ++ (ascii ") (bytes " ++ (decimal b ++ (ascii ") (free " ++ (decimal f ++ ascii "))\n")))))

unfoldable pub total_line : List Line → List ℕ
total_line ls = total_text (object_lines ls) (body_total ls) (free_total ls)

-- ---- The whole text.

-- R, C, Z; columns with wrong parity.
unfoldable pub pool_line : Shape → List ℕ
pool_line sh = ascii "(pool " ++ (decimal sh.rows ++ (ascii " " ++ (decimal sh.cols ++ (ascii " " ++ (decimal sh.zones ++ ascii ")\n")))))

unfoldable pub columns_line : ℕ → List ℕ
columns_line n = ascii "(columns (off " ++ (decimal n ++ ascii "))\n")

-- The totals are those of the very lines above them.
unfoldable pub pool_text : Shape → List ℕ → List ℕ
pool_text sh p =
    pool_line sh ++ (lines_text (scan_lines sh p) ++ (columns_line (wrong_columns sh p) ++ total_line (scan_lines sh p)))

-- poolscan reads a pool of at most 65,536 bytes.
abbrev pub scan_limit : ℕ
scan_limit = 65536

-- More: refusal 2. Then as scrub.
unfoldable pub scan_tests : List ℕ → List Test
scan_tests p = when (ltb scan_limit (length p)) 2 ∷ read_tests p

-- A refusal prints only (refused n).
unfoldable pub conclude_scan : Option ℕ → List ℕ → List ℕ
conclude_scan none text = text
conclude_scan (some n) text = ascii "(refused " ++ (decimal n ++ ascii ")\n")

unfoldable pub poolscan : List ℕ → List ℕ
poolscan p = conclude_scan (first (scan_tests p)) (pool_text (shape_in p) p)
