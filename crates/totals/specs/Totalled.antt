-- The totals of poolscan's lines (A.7): what a run adds, the totals of a zone, and of the pool. Assumes nothing.
use Rattle.std.specs.Prelude.{ℕ, ◌*◌, ◌≤◌, ◌<◌, ◌≡◌, Bool, cond, List}
use Rattle.rules.specs.Shape.{Shape as PoolShape}
use Rattle.rules.specs.Runs.{Run, Walk, head_length}
use Rattle.rules.specs.Search.{free_cells}
use Rattle.rules.specs.Scan.{body_length, body_total, free_total, object_lines, one_object, scan_lines, sum_runs}
use Rattle.stage.specs.View.{part}

-- Numbers that can be added: objects, bytes of bodies, free cells.
pub record Small (o b f : ℕ) : Type 0 where
  pub objects : o < 4294967296
  pub bytes : b < 4294967296
  pub free : f < 4294967296

-- What the run of n cells at byte a adds, free or not.
pub record Added (v : List ℕ) (a n : ℕ) (free : Bool) (o b f : ℕ) : Type 0 where
  pub objects : o ≡ cond free 0 1
  pub bytes : b ≡ cond free 0 (head_length (part 16 a v))
  pub cells : f ≡ cond free n 0

-- A number of each run of a zone of n cells with the walk w, added up; at most u a cell.
pub record Summed (g : Run → ℕ) (u : ℕ) (w : Walk) (n k : ℕ) : Type 0 where
  pub sum : k ≡ sum_runs g w.runs
  pub few : k ≤ u * n

-- The totals of a zone.
pub record Totalled (w : Walk) (n o b f : ℕ) : Type 0 where
  pub objects : Summed one_object 1 w n o
  pub bytes : Summed body_length 64 w n b
  pub free : Summed free_cells 1 w n f

-- The totals of the lines of a pool.
pub record LinesTotalled (s : PoolShape) (v : List ℕ) (o b f : ℕ) : Type 0 where
  pub objects : o ≡ object_lines (scan_lines s v)
  pub bytes : b ≡ body_total (scan_lines s v)
  pub free : f ≡ free_total (scan_lines s v)
  pub small : Small o b f
