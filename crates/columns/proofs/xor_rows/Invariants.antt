-- `columns::xor_rows` meets its contract. Assumes nothing.
use Prim.Native.Nat.{◌-◌, ◌≤◌}
use Rattle.rules.specs.Parity.{xor_to}
use Rattle.columns.specs.Column.{Word, row_word}
use Rattle.columns.proofs.xor_rows.Given as goal

abbrev pub invariant-loop-k : goal.invariant-loop-k
invariant-loop-k l = (l.k ≤ l.rows) × Word (xor_to l.k (row_word l.pool l.at l.stride)) l.acc

abbrev pub decreases-loop-k : goal.decreases-loop-k
decreases-loop-k l = l.rows - l.k
