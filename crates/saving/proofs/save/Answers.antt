-- `saving::save` meets its contract. Assumes nothing.
use native.Mathlib.Omega.{arith}
use Rattle.saving.proofs.Saved.{save-done, save-else, save-refused}
use Rattle.saving.proofs.save.Goals as goal

pub returns-then-is_refused : goal.returns-then-is_refused
returns-then-is_refused c =
    save-refused _ _ _ _ _ (omega (arith, c.ranges.tag), λ i. omega (arith, c.shared_slice_known-1.given i)) c.allocated-first.ensures c.is_refused.ensures c.if-is_refused.true

pub returns-then-is_done : goal.returns-then-is_done
returns-then-is_done c =
    save-done _ _ _ _ _ (omega (arith, c.ranges.tag), λ i. omega (arith, c.shared_slice_known-1.given i)) c.allocated-first.ensures c.is_refused.ensures c.if-is_refused.false c.run-last.result c.run-last.ensures c.is_done.ensures c.if-is_done.true

pub returns : goal.returns
returns c =
    save-else _ _ _ _ _ (omega (arith, c.ranges.tag), λ i. omega (arith, c.shared_slice_known-1.given i)) c.allocated-first.ensures c.is_refused.ensures c.if-is_refused.false c.run-last.result c.run-last.ensures c.is_done.ensures c.if-is_done.false
