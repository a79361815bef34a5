-- The zones of a pool (01, "Cells and runs"): their runs, the pool's book, and whether all are good; the object at an address. The bytes v
-- are those of a pool, or of a pool as staged. Assumes nothing.
use Rattle.std.specs.Prelude.{ℕ, zero, suc, ◌+◌, ◌*◌, ◌/◌, ◌%◌, Bool, true, false, not, ◌&&◌, List, [], ◌∷◌, ◌++◌, take, drop, ltb}
use Rattle.std.proofs.Math.Option.{Option, none, some}
use Rattle.rules.specs.Shape.{Shape, cell_size, zone_at, zone_cells}
use Rattle.rules.specs.Test.{Test, when}
use Rattle.rules.specs.Runs.{Run, Walk, free, is_good, object, zone_walk}
use Rattle.rules.specs.Book.{Listed, book}
use Rattle.rules.specs.Search.{run_at}

-- A zone's data bytes, and their walk.
unfoldable pub zone_data : Shape → List ℕ → ℕ → List ℕ
zone_data s v z = take (cell_size * zone_cells s) (drop (zone_at s z) v)

unfoldable pub walk_in : Shape → List ℕ → ℕ → Walk
walk_in s v z = zone_walk (zone_data s v z)

-- The runs of n zones from zone z on.
unfoldable pub runs_from : Shape → List ℕ → ℕ → ℕ → List Run
runs_from s v z zero = []
runs_from s v z (suc n) = (walk_in s v z).runs ++ runs_from s v (suc z) n

-- The objects of n zones from zone z on. A cell address is zone × cells of a zone + cell.
unfoldable pub book_from : Shape → List ℕ → ℕ → ℕ → List Listed
book_from s v z zero = []
book_from s v z (suc n) = book (z * zone_cells s) (walk_in s v z).runs ++ book_from s v (suc z) n

unfoldable pub pool_book : Shape → List ℕ → List Listed
pool_book s v = book_from s v 0 s.zones

-- No object damaged among runs; in n zones from zone z on, no zone broken and no object damaged.
unfoldable pub all_good : List Run → Bool
all_good [] = true
all_good (r ∷ rs) = is_good r && all_good rs

unfoldable pub good_from : Shape → List ℕ → ℕ → ℕ → Bool
good_from s v z zero = true
good_from s v z (suc n) = (walk_in s v z).whole && (all_good (walk_in s v z).runs && good_from s v (suc z) n)

-- ---- The object at a cell address.

unfoldable pub run_there : Shape → List ℕ → ℕ → Option Run
run_there s v a = run_at (a % zone_cells s) 0 (walk_in s v (a / zone_cells s)).runs

unfoldable pub is_object : Option Run → Bool
is_object none = false
is_object (some (free n)) = false
is_object (some (object n t b g)) = true

unfoldable pub is_damaged : Option Run → Bool
is_damaged none = false
is_damaged (some r) = not (is_good r)

unfoldable pub body_of : Option Run → List ℕ
body_of none = []
body_of (some (free n)) = []
body_of (some (object n t b g)) = b

-- Where its head lies.
unfoldable pub head_at : Shape → ℕ → ℕ
head_at s a = zone_at s (a / zone_cells s) + cell_size * (a % zone_cells s)

-- 5 address not below Z × cells of a zone; 23 its zone is broken anywhere; 24 no object begins there; 25 object damaged.
unfoldable pub object_tests : Shape → List ℕ → ℕ → List Test
object_tests s v a =
    when (not (ltb a (s.zones * zone_cells s))) 5
    ∷ when (not (walk_in s v (a / zone_cells s)).whole) 23
    ∷ when (not (is_object (run_there s v a))) 24
    ∷ when (is_damaged (run_there s v a)) 25
    ∷ []
