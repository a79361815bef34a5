-- Text put into a buffer as snprintf does: all of it is counted, and what lies past the buffer's end is left out. Assumes nothing.
use Rattle.std.specs.Prelude.{ℕ, ◌+◌, ◌≤◌, ◌≡◌, List, ◌++◌, length}
use Rattle.std.proofs.lemmas.List.Edits.{sets}
use Rattle.rules.specs.Words.{ascii}
use Rattle.rules.specs.Scan.{decimal}

-- The text, of at most k bytes, stands in the buffer l from place a on; it ends at place r.
pub record Put (k : ℕ) (l : List ℕ) (a : ℕ) (text l' : List ℕ) (r : ℕ) : Type 0 where
  pub stored : l' ≡ sets l a text
  pub ends : r ≡ a + length text
  pub most : r ≤ a + k

-- A word, then two numbers.
unfoldable pub pair_text : List ℕ → ℕ → ℕ → List ℕ
pair_text word m n = word ++ (decimal m ++ (ascii " " ++ decimal n))

-- A number between two texts.
unfoldable pub between_text : List ℕ → ℕ → List ℕ → List ℕ
between_text front n end = front ++ (decimal n ++ end)
