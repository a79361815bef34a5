-- A column rebuilt. Assumes nothing.
use Rattle.std.specs.Prelude.{ℕ, ◌+◌, ◌*◌, ◌/◌, ◌%◌, List}
use Rattle.std.proofs.lemmas.List.Edits.{sets}
use Rattle.rules.specs.Shape.{Shape, byte_at, row_size}
use Rattle.rules.specs.Repair.{tab_from}
use Rattle.columns.specs.Column.{other_byte}

-- Where column k begins, counted zone by zone.
abbrev pub column_at : Shape → ℕ → ℕ
column_at sh k = byte_at sh (k / sh.cols) 0 (k % sh.cols * sh.page)

-- The pool p with row r of column k rebuilt from the column's others.
unfoldable pub column_rebuilt : Shape → List ℕ → ℕ → ℕ → List ℕ
column_rebuilt sh p k r =
    sets p (column_at sh k + r * row_size sh) (tab_from 0 sh.page (other_byte p (column_at sh k) (row_size sh) (sh.rows + 1) r))
