-- An object placed in a free run (01, "Transactions"): what the search for the run finds, and the words that are touched.
-- Assumes nothing.
use Rattle.std.specs.Prelude.{ℕ, zero, suc, ◌+◌, ◌-◌, ◌*◌, ◌≤◌, ◌<◌, ◌≡◌, true, not, List, [], ◌∷◌, length, Result, Ok, Err}
use Rattle.std.proofs.Math.Option.{none, some}
use Rattle.rules.specs.Shape.{Shape, body_limit, cell_size, entry_limit, zone_cells}
use Rattle.rules.specs.Test.{Test, first, when}
use Rattle.rules.specs.Header.{within}
use Rattle.rules.specs.Runs.{cells_for, object_bytes}
use Rattle.rules.specs.Staging.{Store, touch_words}
use Rattle.rules.specs.Plan.{fit_test, fitted, search, touch_free}
use Rattle.refusals.specs.declared.Refusal.{Refusal}
use Rattle.refusals.specs.Number.{number_of}
use Rattle.stage.specs.View.{entries_of}
use Rattle.stage.specs.Touched.{Grown, missing}
use Rattle.zones.specs.declared.Fit.{Fit}
use Rattle.allocate.specs.declared.Fresh.{Fresh}

-- ---- The free run.

-- The tests of allocate for a body of m bytes: 6, then 23 or 26.
unfoldable pub body_tests : Shape → List ℕ → ℕ → List Test
body_tests s v m = when (not (within 1 m body_limit)) 6 ∷ fit_test (search s v (cells_for m) 0 s.zones) ∷ []

-- They are passed, and f is the run.
pub record FitAt (s : Shape) (v : List ℕ) (m : ℕ) (f : Fit) : Type 0 where
  pub passed : first (body_tests s v m) ≡ none
  pub found : search s v (cells_for m) 0 s.zones ≡ fitted f.zone (record { cell = f.cell; count = f.cells })
  pub zone-lt : f.zone < s.zones
  pub inside : f.cell + f.cells ≤ zone_cells s
  pub long : cells_for m ≤ f.cells
  pub small : m ≤ body_limit

-- The run, or the first refusal of these tests.
abbrev pub FitsBody : Shape → List ℕ → ℕ → Result Fit Refusal → Type 0
FitsBody s v m (Ok f) = FitAt s v m f
FitsBody s v m (Err r) = first (body_tests s v m) ≡ some (number_of r)

-- ---- The words.

-- Both head words of a free run of n cells; none where no cell is left.
unfoldable pub free_words : ℕ → ℕ
free_words zero = 0
free_words (suc n) = 2

-- All words of the cells of an object at offset o and, if cells are left of the run, both head words of the remainder.
unfoldable pub place_object : ℕ → ℕ → ℕ → List ℕ → List Store → List Store
place_object o left t b es =
    touch_free (o + cell_size * cells_for (length b)) left (touch_words (8 * cells_for (length b)) o (object_bytes t b) es)

-- How many of them have no entry yet in staging memory st with n entries, where the body has m bytes.
unfoldable pub unstaged : List ℕ → ℕ → ℕ → ℕ → ℕ → ℕ
unstaged st n o left m = missing (8 * cells_for m + free_words left) o (entries_of st n)

-- There is room for these; and those of which it is told that none has an entry have none.
pub record Unstaged (st : List ℕ) (n o left m : ℕ) (f : Fresh) : Type 0 where
  pub room : n + unstaged st n o left m ≤ entry_limit
  pub head : f.head ≡ true → missing 2 o (entries_of st n) ≡ 2
  pub body : f.body ≡ true → missing (8 * cells_for m - 2) (o + 16) (entries_of st n) ≡ 8 * cells_for m - 2
  pub rest : f.rest ≡ true → missing (free_words left) (o + 64 * cells_for m) (entries_of st n) ≡ free_words left

-- That, or refusal 27: there is no room.
abbrev pub Counted : List ℕ → ℕ → ℕ → ℕ → ℕ → Result Fresh Refusal → Type 0
Counted st n o left m (Ok f) = Unstaged st n o left m f
Counted st n o left m (Err r) = (number_of r ≡ 27) × (entry_limit < n + unstaged st n o left m)

-- They are touched.
pub record Placed (st : List ℕ) (n o left t : ℕ) (b st' : List ℕ) (m : ℕ) : Type 0 where
  pub entries : entries_of st' m ≡ place_object o left t b (entries_of st n)
  pub grown : Grown st n st' m
