-- `saving::allocated` meets its contract. Assumes nothing.
use Rattle.saving.proofs.Saved.{allocated-begun, allocated-unbegun}
use Rattle.saving.proofs.allocated.Goals as goal

pub returns-then-is_refused : goal.returns-then-is_refused
returns-then-is_refused c = allocated-unbegun _ _ _ _ _ c.begin-begun.ensures c.is_refused.ensures c.if-is_refused.true

pub returns : goal.returns
returns c = allocated-begun _ _ _ _ _ c.begin-begun.ensures c.is_refused.ensures c.if-is_refused.false c.allocate.ensures
