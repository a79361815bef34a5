-- `record::steps` meets its contract. Assumes nothing.
use Rattle.record.proofs.Judging.{steps-none, steps-some}
use Rattle.record.proofs.steps.Goals as goal

pub returns-then-n-eq0 : goal.returns-then-n-eq0
returns-then-n-eq0 c = steps-none _ c.if-n-eq0.true

pub returns-else-n-eq0 : goal.returns-else-n-eq0
returns-else-n-eq0 c = steps-some _ c.if-n-eq0.false
