-- Entries and their targets, as the code reads and judges them: names for 01's definitions that a proof opens only where it must.
-- Assumes nothing.
use Rattle.std.specs.Prelude.{ℕ, ◌%◌, ◌≤◌, ◌<◌, ◌≡◌, List, Bool, true}
use Rattle.rules.specs.Check.{check}
use Rattle.rules.specs.Shape.{Shape}
use Rattle.rules.specs.Staging.{Store, entries_at, entry_bytes, good_target, good_targets, none_at}

-- The n entries from place at on.
unfoldable pub read : List ℕ → ℕ → ℕ → List Store
read p at n = entries_at p at n

-- Their check.
unfoldable pub check_of : List Store → ℕ
check_of es = check (entry_bytes es)

-- t is a multiple of 8 inside a data row; no entry has the target t; all fit and none repeats.
unfoldable pub fits : Shape → ℕ → Bool
fits sh t = good_target sh t

unfoldable pub absent_from : ℕ → List Store → Bool
absent_from t es = none_at t es

unfoldable pub all_fit : Shape → List Store → Bool
all_fit sh es = good_targets sh es

-- Each place from low up to high lies in a data row: a multiple of 8 there fits.
pub record DataRows (sh : Shape) (low high : ℕ) : Type 0 where
  pub inside : (u : ℕ) → low ≤ u → u < high → u % 8 ≡ 0 → fits sh u ≡ true

-- Moreover, if t fits, it is one of them.
pub record RowsFor (sh : Shape) (t low high : ℕ) : Type 0 where
  pub rows : DataRows sh low high
  pub around : fits sh t ≡ true → (low ≤ t) × (t < high)
