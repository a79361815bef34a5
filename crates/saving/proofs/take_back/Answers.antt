-- `saving::take_back` meets its contract. Assumes nothing.
use native.Mathlib.Omega.{arith}
use Rattle.saving.proofs.TakenBack.{back-freed, back-refused}
use Rattle.saving.proofs.take_back.Goals as goal

pub returns-in_default : goal.returns-in_default
returns-in_default c =
    back-refused _ _ _ _ _ (omega (arith, c.ranges.tag), λ i. omega (arith, c.shared_slice_known-2-1.given i)) c.allocated-first.ensures c.in_default.not-Address

pub returns : goal.returns
returns c =
    back-freed _ _ _ _ _ (omega (arith, c.ranges.tag), λ i. omega (arith, c.shared_slice_known-2-1.given i)) c.allocated-first.ensures _ c.in-Address.is c.free.result c.free.ensures
