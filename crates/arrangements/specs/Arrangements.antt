-- All small zones (request A.14): the arrangements of a zone, their order, and the list of those of n cells; what that list must be is the
-- record `Lists`, which does not say how it is made. Assumes nothing.
use Rattle.std.specs.Prelude.{ℕ, zero, suc, ◌-◌, ◌*◌, ◌<◌, ◌≡◌, ◌⊎◌, Bool, true, false, cond, length}
use mathlib.Core.List.{List, [], ◌∷◌, ◌++◌, map, flat_map, Memᴰ}
use Rattle.rules.specs.Words.{Bytes}
use Rattle.rules.specs.Shape.{cell_size}
use Rattle.rules.specs.Runs.{Run, zone_walk}
use Rattle.rules.specs.Runs as Runs
use Rattle.rules.specs.Zones.{all_good}

-- ---- An arrangement: a zone's runs in order, each by its kind and its cells. Tags, bodies and checks do not count.

pub data Extent : Type 0 where
  free : ℕ → Extent
  object : ℕ → Extent

abbrev pub extent_of : Run → Extent
extent_of (Runs.free n) = free n
extent_of (Runs.object n t b g) = object n

-- The arrangement that the scan's walk finds in the bytes of a zone.
unfoldable pub arrangement_of : List ℕ → List Extent
arrangement_of bs = map extent_of (zone_walk bs).runs

abbrev pub cells : Extent → ℕ
cells (free n) = n
cells (object n) = n

abbrev pub is_free : Extent → Bool
is_free (free n) = true
is_free (object n) = false

-- ---- The order.

-- Free before object; then shorter before longer.
abbrev pub Before : Extent → Extent → Type 0
Before (free j) (free k) = j < k
Before (free j) (object k) = Unit {0}
Before (object j) (free k) = ⊥
Before (object j) (object k) = j < k

-- Runs are compared one by one: the first two that differ decide. Of two arrangements of n cells none is the front of the other, so that this
-- decides always.
abbrev pub Earlier : List Extent → List Extent → Type 0
Earlier [] b = ⊥
Earlier (x ∷ a) [] = ⊥
Earlier (x ∷ a) (y ∷ b) = Before x y ⊎ ((x ≡ y) × Earlier a b)

-- A list ascends by an order where each one is before all that stand behind it; so none stands twice. `List.Memᴰ y xs`: y stands in xs.
abbrev pub Ascends : {A : Type 0} → (A → A → Type 0) → List A → Type 0
Ascends Less [] = Unit {0}
Ascends {A} Less (x ∷ xs) = ((y : A) → Memᴰ y xs → Less x y) × Ascends Less xs

-- ---- What is asked.

-- Bytes of a zone of n cells with the arrangement a: the walk calls them unbroken, and no object is damaged.
pub record Zone (n : ℕ) (a : List Extent) : Type 0 where
  pub bytes : List ℕ
  pub proper : Bytes bytes
  pub size : length bytes ≡ cell_size * n
  pub whole : (zone_walk bytes).whole ≡ true
  pub good : all_good (zone_walk bytes).runs ≡ true
  pub arranged : arrangement_of bytes ≡ a

-- xs has the arrangement of every zone of n cells that the walk calls unbroken, and no other; each once, in order.
pub record Lists (n : ℕ) (xs : List (List Extent)) : Type 0 where
  pub every : (bs : List ℕ) → length bs ≡ cell_size * n → (zone_walk bs).whole ≡ true → Memᴰ (arrangement_of bs) xs
  pub only : (a : List Extent) → Memᴰ a xs → Zone n a
  pub order : Ascends Earlier xs

-- ---- The list.

-- Extents of one kind, of k cells and more, n of them.
unfoldable pub lengths : (ℕ → Extent) → ℕ → ℕ → List Extent
lengths kind k zero = []
lengths kind k (suc n) = kind k ∷ lengths kind (suc k) n

-- What may come next where m cells are left, behind a free run or not: no free run right after a free run.
unfoldable pub next_extents : Bool → ℕ → List Extent
next_extents after m = cond after [] (lengths free 1 m) ++ lengths object 1 m

-- The arrangements of m cells behind a free run or not: each extent that may come next, before every arrangement of the cells behind it. They
-- have fewer than f runs; each run has a cell at least, so that suc m is enough (law `runs-enough`).
unfoldable pub arrangements_to : ℕ → Bool → ℕ → List (List Extent)
arrangements_to zero after m = []
arrangements_to (suc f) after zero = [] ∷ []
arrangements_to (suc f) after (suc m) =
    flat_map (λ e. map (◌∷◌ e) (arrangements_to f (is_free e) (suc m - cells e))) (next_extents after (suc m))

-- All arrangements of n cells.
unfoldable pub arrangements : ℕ → List (List Extent)
arrangements n = arrangements_to (suc n) false n
