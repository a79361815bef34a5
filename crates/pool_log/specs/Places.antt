-- Where a log begins. Assumes nothing.
use Rattle.std.specs.Prelude.{ℕ, ◌≡◌}
use Rattle.rules.specs.Shape.{Shape}
use Rattle.powercut.specs.Log.{Log, log_at}

-- At b begins log A or log B of a pool of the shape sh.
pub record LogAt (sh : Shape) (b : ℕ) : Type 0 where
  pub log : Log
  pub place : b ≡ log_at sh log
