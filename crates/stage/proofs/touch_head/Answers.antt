-- `stage::touch_head` meets its contract. Assumes nothing.
use Rattle.stage.proofs.Counted.{fresh-behind, fresh-first}
use Rattle.stage.proofs.Touched.{room-first, room_next, touched-head}
use borrow.Author.Rules.{rules}
use Rattle.stage.proofs.touch_head.Goals as goal

pub touch_known-n-requires : goal.touch_known-n-requires
touch_known-n-requires c = let p = c.requires in (room-first p.0, λ f. fresh-first 1 _ _ (p.2 f))

pub touch_known-requires : goal.touch_known-requires
touch_known-requires c =
    let p = c.requires in
    (room_next p.0 c.touch_known-n.ensures, λ f. fresh-first 0 _ _ (fresh-behind (p.2 f) c.touch_known-n.ensures))

pub returns : goal.returns
returns c = touched-head (search rules) (search rules) c.touch_known-n.ensures c.touch_known.ensures
