-- `actions::parts::parity_part` meets its contract. Assumes nothing.
use Prim.Native.Nat.{◌+◌, ◌*◌, ◌-◌, ◌≤◌}
use Rattle.layout.specs.Meaning.{shape_of}
use Rattle.pool_log.specs.Targets.{read}
use Rattle.powercut.specs.Steps.{redo}
use Rattle.powercut.proofs.Untouched.{Untouched}
use Rattle.actions.proofs.PartMade.{Along}
use Rattle.actions.proofs.parts.parity_part.Given as goal

abbrev pub invariant-loop-i : goal.invariant-loop-i
invariant-loop-i g l = (l.i ≤ l.n) × Untouched (l.at + 16 * l.n) l.pool l.initial.pool × Along (shape_of l.s) (redo (shape_of l.s) (read (g.E.Entries.bytes l.src l.initial.pool) l.at l.n)) (2 * l.n + 1) (l.n + 1 + l.k) l.initial.pool (l.n + 1 + l.i) l.pool

abbrev pub decreases-loop-i : goal.decreases-loop-i
decreases-loop-i g l = l.n - l.i
