-- The walk over a zone's runs (01, "Cells and runs") from one of its cells on. The zone has n cells from byte `from` of v on.
-- Assumes nothing.
use Rattle.std.specs.Prelude.{ℕ, suc, ◌+◌, ◌-◌, ◌*◌, ◌%◌, ◌≤◌, ◌≡◌, Bool, List, ◌∷◌, length, Option, Some, None}
use Rattle.rules.specs.Runs.{Next, Run, Walk, broken, cells, ended, is_free, next_run, run, walk, zone_walk}
use Rattle.stage.specs.View.{part}
use Rattle.runs.specs.declared.Run.{Run as MetRun}

-- The zone lies in v.
pub record Zoned (v : List ℕ) (from n : ℕ) : Type 0 where
  pub even : from % 8 ≡ 0
  pub inside : from + 64 * n ≤ length v

-- Its walk; its bytes from cell c on; and the walk over bytes that stand behind a free run or not.
unfoldable pub walk_of : List ℕ → ℕ → ℕ → Walk
walk_of v from n = zone_walk (part (64 * n) from v)

unfoldable pub rest_of : List ℕ → ℕ → ℕ → ℕ → List ℕ
rest_of v from n c = part (64 * (n - c)) (from + 64 * c) v

unfoldable pub walk_on : Bool → List ℕ → Walk
walk_on after bs = walk (suc (length bs)) after bs

-- The run that is met at cell c, by its cells and whether it is free; none where there is no right run.
abbrev pub met : ℕ → Next → Option MetRun
met c ended = None
met c broken = None
met c (run r) = Some (record { cell = c; cells = cells r; free = is_free r })

-- What is met at cell c.
pub record Meets (v : List ℕ) (from n c : ℕ) (after : Bool) (r : Option MetRun) : Type 0 where
  pub is : r ≡ met c (next_run after (rest_of v from n c))

-- The run at cell c has m cells; the walk goes on behind it.
pub record Passed (v : List ℕ) (from n c : ℕ) (after : Bool) (m : ℕ) (f : Bool) : Type 0 where
  pub within : c + m ≤ n
  pub some : 1 ≤ m
  pub that : Run
  pub cells_is : cells that ≡ m
  pub free-is : is_free that ≡ f
  pub next : next_run after (rest_of v from n c) ≡ run that
  pub runs : (walk_on after (rest_of v from n c)).runs ≡ that ∷ (walk_on f (rest_of v from n (c + m))).runs
  pub whole : (walk_on after (rest_of v from n c)).whole ≡ (walk_on f (rest_of v from n (c + m))).whole
