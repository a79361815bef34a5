-- `words::load16` meets its contract. Assumes nothing.
use Rattle.words.proofs.Fields.{loaded-join}
use Rattle.words.proofs.load16.Goals as goal

pub returns : goal.returns
returns c = loaded-join 1 1 c.load8.ensures c.load8-2.ensures
