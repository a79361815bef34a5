-- `columns::all_zero` meets its contract. Assumes nothing.
use mathlib.Core.Path.{◌≡◌}
use lib.Dec.{eqb}
use Rattle.columns.specs.Column.{zeros}
use Rattle.columns.proofs.all_zero.Given as goal

abbrev pub invariant-loop-byte : goal.invariant-loop-byte
invariant-loop-byte l = eqb l.any 0 ≡ zeros l.s l.byte-index
