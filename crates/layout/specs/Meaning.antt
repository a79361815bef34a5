-- What the code's shape, a shape checked and an opened pool mean in 01's terms. Assumes nothing.
use Rattle.std.specs.Prelude.{ℕ, ◌≡◌, true, not, cond, List, [], ◌∷◌, eqb, length, Result, Ok, Err}
use Rattle.std.proofs.Math.Option.{Option, none, some}
use Rattle.rules.specs.Shape.{Shape as PoolShape, page_size, pool_size}
use Rattle.rules.specs.Test.{first, when}
use Rattle.rules.specs.Header.{header_shape, in_range, open_tests, shape_in}
use Rattle.layout.specs.declared.Shape.{Shape}
use Rattle.refusals.specs.declared.Refusal.{Refusal}
use Rattle.refusals.specs.Number.{number_of}

-- The code's shape is that of 01, field by field.
abbrev pub shape_of : Shape → PoolShape
shape_of s = record { page = s.page; rows = s.rows; cols = s.cols; zones = s.zones }

-- R, C and Z are in range, and the page is that of a version 1 header.
pub record InRange (s : PoolShape) : Type 0 where
  pub ranged : in_range s ≡ true
  pub paged : s.page ≡ page_size

-- A pool of the shape s.
pub record Shaped (pool : List ℕ) (s : PoolShape) : Type 0 where
  pub range : InRange s
  pub size : length pool ≡ pool_size s

-- A shape checked: itself, or a refusal's number.
pub data Checked : Type 0 where
  good : PoolShape → Checked
  refused : ℕ → Checked

-- What the code's answer means: the shape, or the refusal's number.
abbrev pub checked_of : Result Shape Refusal → Checked
checked_of (Ok s) = good (shape_of s)
checked_of (Err r) = refused (number_of r)

-- The shape, or refusal 1: R, C or Z outside its range.
unfoldable pub checked : PoolShape → Checked
checked s = cond (in_range s) (good s) (refused 1)

-- The shape, unless a refusal is given.
unfoldable pub answer : Option ℕ → PoolShape → Checked
answer none s = good s
answer (some n) s = refused n

-- A pool of n bytes opened by the header page h: the shape that it tells, or refusal 2, not the header's length.
unfoldable pub opened_by : List ℕ → ℕ → Checked
opened_by h n = answer (first (when (not (eqb n (pool_size (header_shape h)))) 2 ∷ [])) (header_shape h)

-- A pool opened: the shape that its header tells, or the first refusal of 2, 3, 4, 2.
unfoldable pub opened : List ℕ → Checked
opened p = answer (first (open_tests p)) (shape_in p)
