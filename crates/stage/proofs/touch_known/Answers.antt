-- `stage::touch_known` meets its contract. Assumes nothing.
use Rattle.stage.proofs.Touched.{room-fresh}
use Rattle.stage.proofs.touch_known.Goals as goal

pub append-requires : goal.append-requires
append-requires c =
    let a = c.requires.1 c.if-fresh.true in
    (room-fresh c.requires.0 a, a)
