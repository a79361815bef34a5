-- Page repair (01, "Repair and scrub"). 01's repair is a parity rebuild. Assumes nothing.
use Rattle.std.specs.Prelude.{◌≡◌, Bool, false, not, cond, ◌&&◌, ◌||◌, List, [], ◌∷◌, ◌++◌, ℕ, zero, suc, ◌+◌, ◌*◌, ◌/◌, ◌%◌, ◌^◌, ◌<◌, leb, ltb, eqb, length, get_or}
use Rattle.std.proofs.Math.Option.{Option, none, some}
use Rattle.std.specs.Int.Count.{ones}
use Rattle.rules.specs.Shape.{Shape, off, row, row_at, zone, zones_at}
use Rattle.rules.specs.Test.{Test, first, when}
use Rattle.rules.specs.Header.{shape_in}
use Rattle.rules.specs.Seals.{read_tests}
use Rattle.rules.specs.Parity.{skip, xor_to}

-- The list f k .. f (k + n - 1).
unfoldable pub tab_from : ℕ → ℕ → (ℕ → ℕ) → List ℕ
tab_from k zero f = []
tab_from k (suc n) f = f k ∷ tab_from (suc k) n f

abbrev pub bit : ℕ → ℕ → ℕ
bit m r = m / 2 ^ r % 2

module _ (sh : Shape) where
  -- The loss list has one 16-bit mask a column, zone by zone; bit r means row r is lost, bit R the parity row.
  abbrev pub mask_at : List ℕ → ℕ → ℕ
  mask_at ms i = get_or ms (zone sh i * sh.cols + off sh i / sh.page) 0

  abbrev pub lost : List ℕ → ℕ → Bool
  lost ms i = leb (zones_at sh) i && eqb (bit (mask_at ms i) (row sh i)) 1

  -- Each lost page becomes the exclusive or of the column's others; all other bytes stay.
  abbrev pub rebuilt : List ℕ → List ℕ → ℕ → ℕ
  rebuilt ms p i = cond (lost ms i) (xor_to (suc sh.rows) (skip (row sh i) (λ r. get_or p (row_at sh i r) 0))) (get_or p i 0)

  unfoldable pub repaired : List ℕ → List ℕ → List ℕ
  repaired ms p = tab_from 0 (length p) (rebuilt ms p)

  -- Some mask has a bit above R.
  unfoldable pub any_above : List ℕ → Bool
  any_above [] = false
  any_above (m ∷ ms) = leb (2 ^ suc sh.rows) m || any_above ms

-- Some mask has two bits or more. A column can be rebuilt when its mask has at most one bit set.
unfoldable pub any_two : List ℕ → Bool
any_two [] = false
any_two (m ∷ ms) = ltb 1 (ones m) || any_two ms

-- 8 not Z × C masks, or a bit above R set; 28 a mask with two bits or more.
unfoldable pub repair_tests : List ℕ → List ℕ → List Test
repair_tests p ms =
    read_tests p ++ (when (not (eqb (length ms) ((shape_in p).zones * (shape_in p).cols)) || any_above (shape_in p) ms) 8
    ∷ when (any_two ms) 28
    ∷ [])

-- At how many places two lists of one length differ.
unfoldable pub differences : List ℕ → List ℕ → ℕ
differences [] after = 0
differences (x ∷ before) [] = 0
differences (x ∷ before) (y ∷ after) = cond (eqb x y) 0 1 + differences before after

-- What repair answers: how many bytes it altered (A.8), or a refusal.
pub data Repair : Type 0 where
  altered : ℕ → Repair
  refused : ℕ → Repair

-- And the pool that it leaves. A refusal returns its number and changes nothing.
pub record Repaired : Type 0 where
  pub answer : Repair
  pub pool : List ℕ

unfoldable pub conclude_repair : List ℕ → Option ℕ → List ℕ → Repaired
conclude_repair p none new = record { answer = altered (differences p new); pool = new }
conclude_repair p (some n) new = record { answer = refused n; pool = p }

unfoldable pub repair : List ℕ → List ℕ → Repaired
repair p ms = conclude_repair p (first (repair_tests p ms)) (repaired (shape_in p) ms p)

-- q is the pool p after a loss of zone pages: at most one a column, whatever bytes they now hold, and ms lists exactly them.
pub record Loss (p q ms : List ℕ) : Type 0 where
  pub length-is : length q ≡ length p
  pub masks : length ms ≡ (shape_in p).zones * (shape_in p).cols
  pub rows : any_above (shape_in p) ms ≡ false
  pub single : any_two ms ≡ false
  pub others : (i : ℕ) → i < length p → lost (shape_in p) ms i ≡ false → get_or q i 0 ≡ get_or p i 0
