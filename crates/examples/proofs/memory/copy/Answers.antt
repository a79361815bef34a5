-- `memory::copy` meets its contract. Assumes nothing.
use mathlib.Core.Path.{refl}
use native.Mathlib.Omega.{arith}
use Rattle.examples.proofs.Stored.{part-stored}
use Rattle.examples.proofs.memory.copy.Goals as goal
use Rattle.std.proofs.Common.{length}

pub returns-then-from-to : goal.returns-then-from-to
returns-then-from-to c =
    let a = c.args in
    part-stored a.to.now 0 (length a.from.now) (length a.from.now) _ a.from.now c.copy_from_slice.ensures.after (omega arith) refl (omega arith)
