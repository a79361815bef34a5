-- The free run that an object becomes (01, "Transactions": free). Assumes nothing.
use Rattle.std.specs.Prelude.{ℕ, ◌+◌, ◌*◌, ◌/◌, ◌^◌, ◌<◌, ◌≡◌, List, Result, Ok, Err}
use Rattle.std.proofs.Math.Option.{none, some}
use Rattle.rules.specs.Shape.{Shape, cell_size, zone_at, zone_cells}
use Rattle.rules.specs.Test.{first}
use Rattle.rules.specs.Zones.{object_tests}
use Rattle.rules.specs.Plan.{joined_at}
use Rattle.refusals.specs.declared.Refusal.{Refusal}
use Rattle.refusals.specs.Number.{number_of}
use Rattle.free.specs.declared.FreeRun.{FreeRun}

-- The object at address a passed the tests 5, 23, 24, 25, and the run r is its own joined with its free neighbours.
pub record Freed (s : Shape) (v : List ℕ) (a : ℕ) (r : FreeRun) : Type 0 where
  pub passed : first (object_tests s v a) ≡ none
  pub at-is : r.at ≡ zone_at s (a / zone_cells s) + cell_size * (joined_at s v a).cell
  pub cells_is : r.cells ≡ (joined_at s v a).count
  pub low : r.at + 16 < 2 ^ 32
  pub short : r.cells < 65536

-- That run, or the first refusal of these tests.
abbrev pub FreedAt : Shape → List ℕ → ℕ → Result FreeRun Refusal → Type 0
FreedAt s v a (Ok r) = Freed s v a r
FreedAt s v a (Err e) = first (object_tests s v a) ≡ some (number_of e)
