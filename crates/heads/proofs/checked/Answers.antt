-- `heads::checked` meets its contract. Assumes nothing.
use Rattle.heads.proofs.HeadWords.{checked-fed}
use Rattle.heads.proofs.checked.Goals as goal

pub returns : goal.returns
returns c =
    let s = rw c.from-upper.ensures at c.sums.ensures in
    rw (c.from-upper.ensures, c.from.ensures) (checked-fed _ _ s c.feed-s.ensures c.value.ensures)
