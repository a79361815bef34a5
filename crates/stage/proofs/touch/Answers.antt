-- `stage::touch` meets its contract. Assumes nothing.
use borrow.Author.Rules.{rules}
use native.Mathlib.Omega.{arith}
use Rattle.stage.proofs.Touched.{added-one, room-count, room-new, touched-old}
use Rattle.stage.proofs.touch.Goals as goal

pub returns-in-Some : goal.returns-in-Some
returns-in-Some c = touched-old (room-count c.requires) (search rules) c.in-Some.ensures.0 c.in-Some.ensures.1 c.store64.ensures

pub append-requires : goal.append-requires
append-requires c =
    let e = rw c.in_default.is at c.entry_index.ensures in
    (room-new c.requires e (omega arith), added-one e (omega arith))
