-- `heads::Head::sums` meets its contract. Assumes nothing.
use Rattle.heads.proofs.HeadWords.{sums-fed}
use Rattle.heads.proofs.Head.sums.Goals as goal

pub returns : goal.returns
returns c = sums-fed _ _ c.new.ensures c.feed_word-s.ensures c.feed_word.ensures
