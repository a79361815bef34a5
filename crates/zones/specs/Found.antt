-- What the search for free cells, and looking for an object at an address, find in 01's terms. Assumes nothing.
use Rattle.std.specs.Prelude.{ℕ, ◌*◌, ◌/◌, ◌%◌, ◌<◌, ◌≡◌, List, Option as Maybe, Result, Ok, Err}
use Rattle.std.proofs.Math.Option.{none, some}
use Rattle.rules.specs.Shape.{Shape as PoolShape, zone_at, zone_cells}
use Rattle.rules.specs.Test.{first}
use Rattle.rules.specs.Zones.{head_at, object_tests, run_there}
use Rattle.rules.specs.Plan.{Fit as Fits, failed, fitted}
use Rattle.refusals.specs.Number.{number_of}
use Rattle.refusals.specs.declared.Refusal.{Refusal}
use Rattle.stage.specs.declared.View.{View}
use Rattle.runs.specs.Spotted.{Located}
use Rattle.runs.specs.declared.Spot.{Spot}
use Rattle.runs.specs.declared.Zone.{Zone}
use Rattle.objects.specs.Named.{ObjectAt}
use Rattle.objects.specs.declared.Object.{Object}
use Rattle.zones.specs.declared.Fit.{Fit}

-- The zone r is zone z as v shows it: where its data bytes start, and their cells.
pub record ZoneIs (v : View) (s : PoolShape) (z : ℕ) (r : Zone) : Type 0 where
  pub view_is : r.view ≡ v
  pub from_is : r.from ≡ zone_at s z
  pub cells_is : r.cells ≡ zone_cells s

-- Zone, first cell and cells of a free run; or the refusal.
abbrev pub found_of : Result Fit Refusal → Fits
found_of (Ok f) = fitted f.zone (record { cell = f.cell; count = f.cells })
found_of (Err r) = failed (number_of r)

-- The object at address a passed the tests 5, 23, 24, 25.
pub record NamedAt (s : PoolShape) (v : List ℕ) (a n m t : ℕ) : Type 0 where
  pub passed : first (object_tests s v a) ≡ none
  pub object : ObjectAt v (head_at s a) (run_there s v a) n m t

-- The object, by its cells, its body's length and its tag; or the first refusal of these tests.
abbrev pub NamesAt : PoolShape → List ℕ → ℕ → Result Object Refusal → Type 0
NamesAt s v a (Ok o) = NamedAt s v a o.cells o.length o.tag
NamesAt s v a (Err r) = first (object_tests s v a) ≡ some (number_of r)

-- The cell at address a, located in its zone.
pub record SpotAt (s : PoolShape) (v : List ℕ) (a : ℕ) (o : Maybe Spot) : Type 0 where
  pub located : a < s.zones * zone_cells s → Located v (zone_at s (a / zone_cells s)) (zone_cells s) (a % zone_cells s) o
