-- `errors::Queue::take` meets its contract. Assumes nothing.
use native.Mathlib.Omega.{arith}
use Rattle.errors.proofs.Places.{queue-in-fit, taken-behind, taken_first, taken_none}
use Rattle.errors.specs.Number.{number_in}
use Rattle.errors.proofs.Errors.{number-known}
use mathlib.Core.Path.{ap, ◌∙◌}
use Rattle.errors.proofs.Queue.take.Goals as goal

pub returns-then-queue-eq0 : goal.returns-then-queue-eq0
returns-then-queue-eq0 c = let t = taken_none _ _ c.judged-queue.ensures (omega arith) in record { error = t.0; queue = t.1 }

pub returns-clause-error : goal.returns-clause-error
returns-clause-error c =
    let t = taken_first _ _ (queue-in-fit c.args.self) c.judged-queue.ensures (omega arith) in
    ap number_in c.ok.ensures.value ∙ number-known _ _ c.try_from.ensures t.1 ∙ t.0

pub returns-clause-queue : goal.returns-clause-queue
returns-clause-queue c = rw c.copy_from_slice.ensures.after (taken-behind _ _ (queue-in-fit _) c.judged-queue.ensures (omega arith))
