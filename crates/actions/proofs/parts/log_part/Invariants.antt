-- `actions::parts::log_part` meets its contract. Assumes nothing.
use Prim.Native.Nat.{◌*◌, ◌-◌}
use mathlib.Core.Path.{◌≡◌}
use Rattle.layout.specs.Meaning.{shape_of}
use Rattle.pool_log.specs.Targets.{read}
use Rattle.powercut.specs.Steps.{commit_steps}
use Rattle.actions.proofs.PartMade.{Along}
use Rattle.actions.proofs.parts.log_part.Given as goal

abbrev pub invariant-loop-i : goal.invariant-loop-i
invariant-loop-i l = (l.i-end ≡ 4 * l.n) × Along (shape_of l.s) (commit_steps (shape_of l.s) (read l.staging 0 l.n)) (4 * l.n) l.k l.initial.pool l.i l.pool

abbrev pub decreases-loop-i : goal.decreases-loop-i
decreases-loop-i l = 4 * l.n - l.i
