-- `recovery::steps_of` meets its contract. Assumes nothing.
use native.Mathlib.Omega.{arith}
use borrow.Author.Tests.{ltb-false}
use Rattle.powercut.specs.Recovery.{count_above}
use Rattle.recovery.proofs.steps_of.Goals as goal

pub overflow_mul-result : goal.overflow_mul-result
unfolding count_above
overflow_mul-result c = omega (arith, ltb-false, rw c.in-Replay.is at c.requires)

pub overflow_add-result : goal.overflow_add-result
unfolding count_above
overflow_add-result c = omega (arith, ltb-false, rw c.in-Replay.is at c.requires)
