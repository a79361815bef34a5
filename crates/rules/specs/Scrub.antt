-- Scrub's four counts (01, "Repair and scrub"). 01's scrub is an integrity scan. Assumes nothing.
use Rattle.std.specs.Prelude.{ℕ, zero, suc, ◌+◌, ◌*◌, Bool, true, not, cond, ◌&&◌, List, [], ◌∷◌, eqb}
use Rattle.std.proofs.Math.Option.{Option, none, some}
use Rattle.rules.specs.Shape.{Shape}
use Rattle.rules.specs.Test.{first}
use Rattle.rules.specs.Header.{shape_in}
use Rattle.rules.specs.Runs.{Run, is_free, is_good}
use Rattle.rules.specs.Zones.{runs_from, walk_in}
use Rattle.rules.specs.Seals.{read_tests}
use Rattle.rules.specs.Parity.{column_byte}

-- The runs of a list with a property.
unfoldable pub count_runs : (Run → Bool) → List Run → ℕ
count_runs f [] = 0
count_runs f (r ∷ rs) = cond (f r) 1 0 + count_runs f rs

-- The numbers below n with a property; whether all have it; and a sum over them.
unfoldable pub count_to : ℕ → (ℕ → Bool) → ℕ
count_to zero f = 0
count_to (suc n) f = count_to n f + cond (f n) 1 0

unfoldable pub all_to : ℕ → (ℕ → Bool) → Bool
all_to zero f = true
all_to (suc n) f = all_to n f && f n

unfoldable pub sum_to : ℕ → (ℕ → ℕ) → ℕ
sum_to zero f = 0
sum_to (suc n) f = sum_to n f + f n

module _ (sh : Shape) (p : List ℕ) where
  -- Column c of zone z has right parity.
  unfoldable pub column_right : ℕ → ℕ → Bool
  column_right z c = all_to sh.page (λ i. eqb (column_byte sh p z (c * sh.page + i)) 0)

  -- Columns with wrong parity.
  unfoldable pub wrong_columns : ℕ
  wrong_columns = sum_to sh.zones (λ z. count_to sh.cols (λ c. not (column_right z c)))

  unfoldable pub broken_zones : ℕ
  broken_zones = count_to sh.zones (λ z. not (walk_in sh p z).whole)

  -- Objects met, and damaged ones. Runs before a break count.
  unfoldable pub objects_met : ℕ
  objects_met = count_runs (λ r. not (is_free r)) (runs_from sh p 0 sh.zones)

  unfoldable pub damaged_met : ℕ
  damaged_met = count_runs (λ r. not (is_good r)) (runs_from sh p 0 sh.zones)

-- Objects met, damaged ones, broken zones, columns with wrong parity; or a refusal.
pub data Scrub : Type 0 where
  counts : ℕ → ℕ → ℕ → ℕ → Scrub
  refused : ℕ → Scrub

unfoldable pub conclude_scrub : Option ℕ → Scrub → Scrub
conclude_scrub none c = c
conclude_scrub (some n) c = refused n

unfoldable pub scrub : List ℕ → Scrub
scrub p =
    conclude_scrub (first (read_tests p))
    (counts (objects_met (shape_in p) p) (damaged_met (shape_in p) p) (broken_zones (shape_in p) p) (wrong_columns (shape_in p) p))
