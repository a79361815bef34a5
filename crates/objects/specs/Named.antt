-- What looking for an object at a cell finds (01, refusals 24 and 25). Assumes nothing.
use Rattle.std.specs.Prelude.{ℕ, ◌+◌, ◌*◌, ◌≤◌, ◌≡◌, true, not, List, [], ◌∷◌, length, drop, Result, Ok, Err}
use Rattle.std.proofs.Math.Option.{Option, some}
use Rattle.rules.specs.Test.{Test, first, when}
use Rattle.rules.specs.Runs.{Run, cells_for, good_in, head_cells, head_length, head_tag, object}
use Rattle.rules.specs.Zones.{is_damaged, is_object}
use Rattle.refusals.specs.Number.{number_of}
use Rattle.refusals.specs.declared.Refusal.{Refusal}
use Rattle.stage.specs.View.{part}
use Rattle.objects.specs.declared.Object.{Object}

-- 24 no object begins there; 25 object damaged.
unfoldable pub run_tests : Option Run → List Test
run_tests o = when (not (is_object o)) 24 ∷ when (is_damaged o) 25 ∷ []

-- The run with the object's head h at byte a.
unfoldable pub object_run : List ℕ → ℕ → List ℕ → Run
object_run v a h = object (head_cells h) (head_tag h) (part (head_length h) (a + 16) v) (good_in h (drop (a + 16) v))

-- A good object of n cells with the tag t, its head at byte a and m bytes of body behind it.
pub record ObjectAt (v : List ℕ) (a : ℕ) (o : Option Run) (n m t : ℕ) : Type 0 where
  pub is : o ≡ some (object n t (part m (a + 16) v) true)
  pub least : 1 ≤ m
  pub most : m ≤ 496
  pub fewest : n ≡ cells_for m
  pub inside : a + 64 * n ≤ length v

-- The object, by its cells, its body's length and its tag; or the first refusal.
abbrev pub Names : List ℕ → ℕ → Option Run → Result Object Refusal → Type 0
Names v a o (Ok x) = ObjectAt v a o x.cells x.length x.tag
Names v a o (Err r) = first (run_tests o) ≡ some (number_of r)
