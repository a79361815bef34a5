-- A run's head as two words (01, "Cells and runs"). Assumes nothing.
use Rattle.std.specs.Prelude.{ℕ, ◌+◌, ◌*◌, ◌<◌, ◌≡◌, List, ◌++◌}
use Rattle.rules.specs.Words.{digits}
use Rattle.rules.specs.Check.{check}

-- The 16 bytes of a head, by its words.
unfoldable pub head_of : ℕ → ℕ → List ℕ
head_of a b = digits 8 a ++ digits 8 b

-- What the check covers: head bytes 0 to 7 and 12 to 15, that is the first word and the tag, then the body.
unfoldable pub covered_by : ℕ → ℕ → List ℕ → List ℕ
covered_by first tag body = digits 8 first ++ (digits 4 tag ++ body)

-- The words a and b of a head with this first word and tag, and with the right check over a body.
pub record Checked (first tag : ℕ) (body : List ℕ) (a b : ℕ) : Type 0 where
  pub first-is : a ≡ first
  pub second_is : b ≡ 4294967296 * tag + check (covered_by first tag body)
  pub check-small : check (covered_by first tag body) < 4294967296
