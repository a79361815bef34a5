-- `layout::opened::Pool::open` meets its contract. Assumes nothing.
use mathlib.Core.Path.{sym}
use native.Mathlib.Omega.{arith}
use Rattle.layout.proofs.Opening.{open-good}
use Rattle.layout.proofs.opened.Pool.open.Goals as goal

pub invariant_of-result : goal.invariant_of-result
invariant_of-result c = record { sized = (open-good _ _ (sym c.in_ok-shape.ensures)).0; octets = λ i. omega (arith, c.type_inv.bytes i) }
