-- Where the parts of a page may be written. Assumes nothing.
use Rattle.std.specs.Prelude.{ℕ, ◌+◌, ◌≤◌, ◌<◌, ◌⊎◌}
use Rattle.rules.specs.Shape.{page_size}

-- Of l bytes, the n from `from` on and the n from `to` on: they do not overlap.
pub record Apart (l from to n : ℕ) : Type 0 where
  pub from_le : from + n ≤ l
  pub to_le : to + n ≤ l
  pub apart : (from + n ≤ to) ⊎ (to + n ≤ from)

-- A header page fits from place a on, and R, C and Z fit a byte each.
pub record HeaderFits (l a R C Z : ℕ) : Type 0 where
  pub page-le : a + page_size ≤ l
  pub rows-lt : R < 256
  pub cols-lt : C < 256
  pub zones-lt : Z < 256
