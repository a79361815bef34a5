-- `words::load64` meets its contract. Assumes nothing.
use Rattle.words.proofs.Fields.{loaded-join}
use Rattle.words.proofs.load64.Goals as goal

pub returns : goal.returns
returns c = loaded-join 4 4 c.load32.ensures c.load32-2.ensures
