-- Bytes that stand in rows, as a column's pages do: row r is r strides behind row 0. Assumes nothing.
use Rattle.std.specs.Prelude.{ℕ, ◌+◌, ◌*◌, ◌^◌, ◌≤◌, ◌<◌, ◌≡◌, Bool, List, eqb, length, get_or}
use Rattle.std.specs.Int.Bits.{bit_xor}
use Rattle.rules.specs.Words.{word}
use Rattle.rules.specs.Parity.{skip, xor_to}
use Rattle.rules.specs.Repair.{tab_from}
use Rattle.rules.specs.Scrub.{all_to}

-- In each of the rows, n bytes from row 0's place on lie in the pool.
abbrev pub RowsFit : List ℕ → ℕ → ℕ → ℕ → ℕ → Type 0
RowsFit p at stride rows n = at + rows * stride + n ≤ length p + stride

abbrev pub row_word : List ℕ → ℕ → ℕ → ℕ → ℕ
row_word p at stride r = word p (at + r * stride)

-- Byte o of row r.
abbrev pub row_byte : List ℕ → ℕ → ℕ → ℕ → ℕ → ℕ
row_byte p at stride o r = get_or p (at + r * stride + o) 0

-- A number of 8 bytes, and its value.
pub record Word (v r : ℕ) : Type 0 where
  pub value : r ≡ v
  pub small : r < 2 ^ 64

-- Byte o of the exclusive or of all rows but one.
unfoldable pub other_byte : List ℕ → ℕ → ℕ → ℕ → ℕ → ℕ → ℕ
other_byte p at stride rows lost o = xor_to rows (skip lost (row_byte p at stride o))

-- The exclusive or of the rows is zero in each of the first n bytes.
unfoldable pub rows_zero : List ℕ → ℕ → ℕ → ℕ → ℕ → Bool
rows_zero p at stride rows n = all_to n (λ o. eqb (xor_to rows (row_byte p at stride o)) 0)

-- The bytes s, each in exclusive or with the pool's, those from a place on.
unfoldable pub xored : List ℕ → List ℕ → ℕ → List ℕ
xored s p at = tab_from 0 (length s) (λ i. bit_xor (get_or s i 0) (get_or p (at + i) 0))

-- The first n bytes of s are zero.
unfoldable pub zeros : List ℕ → ℕ → Bool
zeros s n = all_to n (λ i. eqb (get_or s i 0) 0)
