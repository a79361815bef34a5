-- Refusals (01, the two tables and the order below them): a list of tests; the first that applies is given. Assumes nothing.
use Rattle.std.specs.Prelude.{Bool, cond, List, [], ◌∷◌, ℕ}
use Rattle.std.proofs.Math.Option.{Option, none, some}

-- Refusal n when the condition holds.
pub data Test : Type 0 where
  when : Bool → ℕ → Test

-- The number of the first that applies; none if no test does.
unfoldable pub first : List Test → Option ℕ
first [] = none
first (when b n ∷ ts) = cond b (some n) (first ts)
