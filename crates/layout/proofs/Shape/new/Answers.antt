-- `layout::Shape::new` meets its contract. Assumes nothing.
use Rattle.layout.proofs.Range.{new-good, new-out}
use Rattle.layout.proofs.Shape.new.Goals as goal

pub returns-then-not-in_range-clause-result_value : goal.returns-then-not-in_range-clause-result_value
returns-then-not-in_range-clause-result_value c = new-out _ _ _ _ c.in_range.ensures c.if-not-in_range.true

pub returns-clause-result_value : goal.returns-clause-result_value
returns-clause-result_value c = new-good _ _ _ _ c.in_range.ensures c.if-not-in_range.false
