-- `pool_log::targets_fit` meets its contract. The invariant: the entries from `i` on fit, none repeats, and their marks are set. Assumes nothing.
use Rattle.layout.specs.Meaning.{shape_of}
use Rattle.pool_log.proofs.Targets.{Passed}
use Rattle.pool_log.proofs.targets_fit.Given as goal

abbrev pub invariant-loop-i : goal.invariant-loop-i
invariant-loop-i l = Passed (shape_of l.s) l.p l.at l.n l.i l.marks l.rows.low l.rows.high
