-- zonelist (request A.14): the text, byte by byte. Each line ends with one line feed. Assumes nothing.
use Rattle.std.specs.Prelude.{ℕ, ◌-◌, cond, ◌&&◌, eqb, leb}
use Rattle.std.proofs.Math.Option.{Option, none, some}
use mathlib.Core.List.{List, [], ◌∷◌, ◌++◌, flat_map}
use Rattle.rules.specs.Words.{ascii}
use Rattle.rules.specs.Scan.{decimal}
use Rattle.arrangements.specs.Arrangements.{Extent, arrangements, free, object}

-- A run, with one blank before it.
unfoldable pub extent_text : Extent → List ℕ
extent_text (free k) = ascii " (free " ++ (decimal k ++ ascii ")")
extent_text (object k) = ascii " (object " ++ (decimal k ++ ascii ")")

-- (zone (free 1) (object 1)).
unfoldable pub zone_line : List Extent → List ℕ
zone_line a = ascii "(zone" ++ (flat_map extent_text a ++ ascii ")\n")

-- The digits 1 to 8 (49 to 56), as numbers.
unfoldable pub digit : ℕ → Option ℕ
digit d = cond (leb 49 d && leb d 56) (some (d - 48)) none

-- The number of cells asked for: the input is one such digit and a line feed (10), and nothing else.
unfoldable pub asked : List ℕ → Option ℕ
asked [] = none
asked (d ∷ []) = none
asked (d ∷ e ∷ []) = cond (eqb e 10) (digit d) none
asked (d ∷ e ∷ x ∷ xs) = none

-- A line for each arrangement of so many cells; for any other input only (refused 42).
unfoldable pub listing : Option ℕ → List ℕ
listing none = ascii "(refused 42)\n"
listing (some n) = flat_map zone_line (arrangements n)

unfoldable pub zones_listing : List ℕ → List ℕ
zones_listing input = listing (asked input)
