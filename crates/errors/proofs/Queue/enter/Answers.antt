-- `errors::Queue::enter` meets its contract. Assumes nothing.
use Rattle.errors.proofs.Places.{entered-behind, entered-lost, queue-in-fit}
use native.Mathlib.Omega.{arith}
use Rattle.errors.proofs.Queue.enter.Goals as goal

pub returns-then-queue-lt10 : goal.returns-then-queue-lt10
returns-then-queue-lt10 c = entered-behind _ _ _ c.judged-queue.ensures (omega arith)

pub returns-else-queue-lt10 : goal.returns-else-queue-lt10
returns-else-queue-lt10 c = entered-lost c.args.e _ _ c.judged-queue.ensures (omega arith) (queue-in-fit _) (omega arith)
