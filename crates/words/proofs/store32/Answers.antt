-- `words::store32` meets its contract. Assumes nothing.
use Rattle.words.proofs.Fields.{sets-digits-split}
use Rattle.words.proofs.store32.Goals as goal

pub returns : goal.returns
returns c = let s = c.args in cc (sets-digits-split 2 2 s.v s.s.now s.at)
