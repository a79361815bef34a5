-- `words::load32` meets its contract. Assumes nothing.
use Rattle.words.proofs.Fields.{loaded-join}
use Rattle.words.proofs.load32.Goals as goal

pub returns : goal.returns
returns c = loaded-join 2 2 c.load16.ensures c.load16-2.ensures
