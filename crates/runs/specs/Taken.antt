-- A zone's runs, taken one by one. Assumes nothing.
use Rattle.std.specs.Prelude.{ℕ, ◌+◌, ◌≤◌, ◌<◌, ◌≡◌, Bool, Option, Some, None}
use Rattle.stage.specs.Seen.{seen_by}
use Rattle.rules.specs.Runs.{Walk}
use Rattle.runs.specs.Rest.{Meets, walk_of}
use Rattle.runs.specs.declared.Run.{Run}
use Rattle.runs.specs.declared.Zone.{Zone}
use Rattle.runs.specs.declared.Runs.{Runs}

-- The walk over zone z.
abbrev pub walk_by : Zone → Walk
walk_by z = walk_of (seen_by z.view) z.from z.cells

-- Its runs from cell c on, behind a free run or not.
abbrev pub runs_on : Zone → ℕ → Bool → Runs
runs_on z c after = record { zone = z; cell = c; after = after }

-- What is left behind what is met: the runs behind the run, or none behind a break.
abbrev pub left_by : Runs → Option Run → Runs
left_by s (Some m) = runs_on s.zone (s.cell + m.cells) m.free
left_by s None = runs_on s.zone s.zone.cells s.after

-- o is met at the first cell of s, and t is left.
pub record Taken (s : Runs) (o : Option Run) (t : Runs) : Type 0 where
  pub below : s.cell < s.zone.cells
  pub meets : Meets (seen_by s.zone.view) s.zone.from s.zone.cells s.cell s.after o
  pub left : t ≡ left_by s o

-- A call of `next` gives what is met; nothing at the zone's end.
abbrev pub Gives : Runs → Option (Option Run) → Runs → Type 0
Gives s None t = s.zone.cells ≤ s.cell
Gives s (Some o) t = Taken s o t
