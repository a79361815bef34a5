-- Where a run begins in a zone, and the free cells beside it. Assumes nothing.
use Rattle.std.specs.Prelude.{ℕ, ◌+◌, ◌≤◌, ◌≡◌, Bool, true, false, cond, List, Option, Some, None}
use Rattle.std.proofs.Math.Option.{none}
use Rattle.rules.specs.Search.{joined, lead, run_at}
use Rattle.runs.specs.Rest.{Passed, rest_of, walk_of, walk_on}
use Rattle.runs.specs.declared.Run.{Run as MetRun}
use Rattle.runs.specs.declared.Spot.{Spot}

-- The walk comes to cell c, with p free cells right before it, and looks for cell a.
pub record Coming (v : List ℕ) (from n a p c : ℕ) (after : Bool) : Type 0 where
  pub within : c ≤ n
  pub low : p ≤ c
  pub whole : (walk_on after (rest_of v from n c)).whole ≡ (walk_of v from n).whole
  pub seek : run_at a c (walk_on after (rest_of v from n c)).runs ≡ run_at a 0 (walk_of v from n).runs
  pub join : joined a p c (walk_on after (rest_of v from n c)).runs ≡ joined a 0 0 (walk_of v from n).runs

-- A run of m cells begins at cell a.
pub record Stands (v : List ℕ) (from n a p m : ℕ) (f : Bool) : Type 0 where
  pub after : Bool
  pub coming : Coming v from n a p a after
  pub passed : Passed v from n a after m f

-- The run that begins at cell a, if one does.
pub record Spotted (v : List ℕ) (from n a p : ℕ) (o : Option MetRun) : Type 0 where
  pub cell : {r : MetRun} → o ≡ Some r → r.cell ≡ a
  pub absent : o ≡ None → run_at a 0 (walk_of v from n).runs ≡ none
  pub present : {r : MetRun} → o ≡ Some r → Stands v from n a p r.cells r.free

-- The zone is broken; or it is whole, and what is told of cell a is so.
pub record Located (v : List ℕ) (from n a : ℕ) (o : Option Spot) : Type 0 where
  pub broken : o ≡ None → (walk_of v from n).whole ≡ false
  pub whole : {s : Spot} → o ≡ Some s → (walk_of v from n).whole ≡ true
  pub spotted : {s : Spot} → o ≡ Some s → Spotted v from n a s.prior s.run

-- The free cells of a run that was met.
unfoldable pub free_of : ℕ → Bool → ℕ
free_of m f = cond f m 0

-- The r free cells of the first run from cell c on.
pub record Lead (v : List ℕ) (from n c : ℕ) (after : Bool) (r : ℕ) : Type 0 where
  pub count : r ≡ lead (walk_on after (rest_of v from n c)).runs
  pub within : c + r ≤ n

-- The run at cell a joined with its free neighbours.
pub record Joined (v : List ℕ) (from n a cell count : ℕ) : Type 0 where
  pub cell-is : cell ≡ (joined a 0 0 (walk_of v from n).runs).cell
  pub count-is : count ≡ (joined a 0 0 (walk_of v from n).runs).count
  pub within : cell + count ≤ n
