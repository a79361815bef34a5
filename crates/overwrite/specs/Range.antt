-- The words that hold a range of bytes, touched in staging memory (01, "Transactions"). Assumes nothing.
use Rattle.std.specs.Prelude.{ℕ, ◌+◌, ◌≤◌, ◌≡◌, List, length}
use Rattle.std.proofs.lemmas.List.Edits.{sets}
use Rattle.rules.specs.Staging.{touch_range, word_count, word_from}
use Rattle.stage.specs.View.{entries_of, seen}
use Rattle.stage.specs.Touched.{Grown, Room, missing}

-- A range of k bytes from at on, not empty, lies in the pool, and staging memory has room for its words.
pub record RangeRoom (pool st : List ℕ) (n at k : ℕ) : Type 0 where
  pub some : 1 ≤ k
  pub inside : at + k ≤ length pool
  pub room : Room st n (word_count at k) (word_from at)

-- None of the words that hold k bytes from at on has an entry yet.
pub record RangeFresh (st : List ℕ) (n at k : ℕ) : Type 0 where
  pub all : missing (word_count at k) (word_from at) (entries_of st n) ≡ word_count at k

-- The words that hold the range from at on are touched, with the bytes xs laid over it.
pub record RangeTouched (pool st : List ℕ) (n at : ℕ) (xs st' : List ℕ) (m : ℕ) : Type 0 where
  pub entries : entries_of st' m ≡ touch_range at (length xs) (sets (seen pool st n) at xs) (entries_of st n)
  pub grown : Grown st n st' m
