-- `heads::put_head` meets its contract. Assumes nothing.
use Rattle.heads.proofs.HeadWords.{head-stored}
use Rattle.heads.proofs.put_head.Goals as goal

pub returns : goal.returns
returns c =
    let h = c.args.head in
    head-stored _ _ h.first h.second c.store64.ensures c.store64-2.ensures
