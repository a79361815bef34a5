-- Columns and parity (01, "The pool's bytes"), over any page size. Assumes nothing.
use Rattle.std.specs.Prelude.{◌≡◌, cond, List, ℕ, zero, suc, ◌<◌, eqb, get_or}
use Rattle.std.specs.Int.Bits.{bit_xor}
use Rattle.rules.specs.Words.{word}
use Rattle.rules.specs.Shape.{Shape, byte_at, row_at, row_size}

-- The exclusive or f 0 ⊕ .. ⊕ f (n - 1).
unfoldable pub xor_to : ℕ → (ℕ → ℕ) → ℕ
xor_to zero f = 0
xor_to (suc n) f = bit_xor (xor_to n f) (f n)

-- f with 0 at k: the exclusive or of it is that of all but f k.
abbrev pub skip : ℕ → (ℕ → ℕ) → ℕ → ℕ
skip k f r = cond (eqb k r) 0 (f r)

module _ (sh : Shape) where
  -- A column is the R + 1 pages of one zone at the same place in their rows. Parity is right when the exclusive or of the column's
  -- pages is zero at every byte.
  abbrev pub column_byte : List ℕ → ℕ → ℕ → ℕ
  column_byte p z o = xor_to (suc sh.rows) (λ r. get_or p (byte_at sh z r o) 0)

  abbrev pub Parity : List ℕ → Type 0
  Parity p = (z o : ℕ) → z < sh.zones → o < row_size sh → column_byte p z o ≡ 0

  -- The parity word at a place, as the exclusive or of all data rows.
  unfoldable pub parity_word : List ℕ → ℕ → ℕ
  parity_word p t = xor_to sh.rows (λ r. word p (row_at sh t r))
