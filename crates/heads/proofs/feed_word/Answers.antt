-- `heads::feed_word` meets its contract. Assumes nothing.
use Rattle.heads.proofs.Digits.{word-fed}
use Rattle.heads.proofs.feed_word.Goals as goal

pub returns : goal.returns
returns c = let a = c.args in word-fed a.n a.word c.to_le_bytes.ensures c.requires c.feed.ensures
