-- What scrub counts (01, "Repair and scrub"): in a zone, and in the pool. Assumes nothing.
use Rattle.std.specs.Prelude.{ℕ, ◌+◌, ◌*◌, ◌≤◌, ◌≡◌, Bool, true, false, not, cond, List, length}
use Rattle.rules.specs.Shape.{Shape as PoolShape}
use Rattle.rules.specs.Runs.{Walk, head_cells, is_free, is_good, object_ok}
use Rattle.rules.specs.Scrub.{broken_zones, count_runs, damaged_met, objects_met, wrong_columns}
use Rattle.stage.specs.View.{part}
use Rattle.objects.specs.Named.{object_run}

-- The head of an object at byte a of v; its cells lie in v.
pub record ObjectThere (v : List ℕ) (a : ℕ) : Type 0 where
  pub ok : object_ok (part 16 a v) ≡ true
  pub inside : a + 64 * head_cells (part 16 a v) ≤ length v

-- The run at byte a, free or not, is a damaged object.
unfoldable pub damaged_at : List ℕ → ℕ → Bool → Bool
damaged_at v a free = cond free false (not (is_good (object_run v a (part 16 a v))))

-- Of the runs of a zone of n cells with the walk w, those that are objects, and damaged objects; and whether the zone is unbroken.
pub record Tallied (w : Walk) (n o d : ℕ) (b : Bool) : Type 0 where
  pub objects : o ≡ count_runs (λ r. not (is_free r)) w.runs
  pub damaged : d ≡ count_runs (λ r. not (is_good r)) w.runs
  pub whole : b ≡ w.whole
  pub few : o ≤ n
  pub fewer : d ≤ n

-- Scrub's four counts.
pub record Counted (s : PoolShape) (v : List ℕ) (o d b c : ℕ) : Type 0 where
  pub objects : o ≡ objects_met s v
  pub damaged : d ≡ damaged_met s v
  pub broken : b ≡ broken_zones s v
  pub columns : c ≡ wrong_columns s v
