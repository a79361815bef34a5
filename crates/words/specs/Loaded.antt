-- What a read of k bytes gives. Assumes nothing.
use Rattle.std.specs.Prelude.{ℕ, ◌^◌, ◌<◌, ◌≡◌, List}
use Rattle.rules.specs.Words.{field}

-- The field of k bytes at place a of p, and that k bytes hold it.
pub record Loaded (k : ℕ) (p : List ℕ) (a r : ℕ) : Type 0 where
  pub value : r ≡ field k p a
  pub small : r < 256 ^ k
