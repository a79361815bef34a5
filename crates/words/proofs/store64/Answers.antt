-- `words::store64` meets its contract. Assumes nothing.
use Rattle.rules.specs.Words.{put}
use Rattle.words.proofs.Fields.{sets-digits-split}
use Rattle.words.proofs.store64.Goals as goal

pub returns : goal.returns
unfolding put
returns c = let s = c.args in cc (sets-digits-split 4 4 s.v s.s.now s.at)
