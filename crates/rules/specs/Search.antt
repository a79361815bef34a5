-- Looking through the runs of one zone (01, "Transactions"); c is the first run's first cell. Assumes nothing.
use Rattle.std.specs.Prelude.{ℕ, ◌+◌, ◌-◌, Bool, false, cond, ◌||◌, List, [], ◌∷◌, leb, eqb}
use Rattle.std.proofs.Math.Option.{Option, none, some}
use Rattle.rules.specs.Runs.{Run, cells, free, object}

-- Some cells of a zone: the first, and how many.
pub record Place : Type 0 where
  pub cell : ℕ
  pub count : ℕ

-- The lowest free run of at least k cells.
unfoldable pub fit : ℕ → ℕ → List Run → Option Place
fit k c [] = none
fit k c (free n ∷ rs) = cond (leb k n) (some (record { cell = c; count = n })) (fit k (c + n) rs)
fit k c (object n t b g ∷ rs) = fit k (c + n) rs

-- The run that begins at cell a.
unfoldable pub run_at : ℕ → ℕ → List Run → Option Run
run_at a c [] = none
run_at a c (r ∷ rs) = cond (eqb c a) (some r) (run_at a (c + cells r) rs)

-- The cells of a run that is free, and of a first run that is.
abbrev pub free_cells : Run → ℕ
free_cells (free n) = n
free_cells (object n t b g) = 0

abbrev pub lead : List Run → ℕ
lead [] = 0
lead (r ∷ rs) = free_cells r

-- The run at cell a joined with its free neighbours; p free cells stand right before the first run. No cells where no run begins at a.
unfoldable pub joined : ℕ → ℕ → ℕ → List Run → Place
joined a p c [] = record { cell = 0; count = 0 }
joined a p c (r ∷ rs) =
    cond (eqb c a) (record { cell = c - p; count = p + (cells r + lead rs) }) (joined a (free_cells r) (c + cells r) rs)

-- Some run is free and has k cells at least.
unfoldable pub any_free : ℕ → List Run → Bool
any_free k [] = false
any_free k (r ∷ rs) = leb k (free_cells r) || any_free k rs
