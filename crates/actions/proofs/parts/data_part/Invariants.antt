-- `actions::parts::data_part` meets its contract. Assumes nothing.
use Prim.Native.Nat.{◌+◌, ◌*◌, ◌-◌, ◌≤◌}
use Rattle.rules.specs.Shape.{Shape as PoolShape}
use Rattle.pool_log.specs.Targets.{read}
use Rattle.powercut.specs.Steps.{redo}
use Rattle.powercut.proofs.Untouched.{Untouched}
use Rattle.actions.proofs.PartMade.{Along}
use Rattle.actions.proofs.parts.data_part.Given as goal

abbrev pub invariant-loop-i : goal.invariant-loop-i
invariant-loop-i g l = (l.i ≤ l.n) × Untouched (l.at + 16 * l.n) l.pool l.initial.pool × ((sh : PoolShape) → Along sh (redo sh (read (g.E.Entries.bytes l.src l.initial.pool) l.at l.n)) l.n l.k l.initial.pool l.i l.pool)

abbrev pub decreases-loop-i : goal.decreases-loop-i
decreases-loop-i g l = l.n - l.i
