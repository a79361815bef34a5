-- `scrub::is_damaged` meets its contract. Assumes nothing.
use native.Mathlib.Omega.{arith}
use Rattle.stage.proofs.Views.{length-by}
use Rattle.scrub.proofs.Counting.{free-damaged_at, head-there, object-damaged_at}
use Rattle.scrub.proofs.is_damaged.Goals as goal

pub returns-then-run : goal.returns-then-run
returns-then-run c = free-damaged_at _ _ c.if-run.true

pub intact-requires : goal.intact-requires
intact-requires c =
    let o = head-there (c.requires.1 c.if-run.false) c.head-head.ensures in
    (omega (arith, c.place_of.ensures, c.args.zone.now.zoned.even), omega (arith, c.place_of.ensures, o.0, length-by c.args.zone.now.view), o.1)

pub returns : goal.returns
returns c = object-damaged_at _ _ c.if-run.false c.head-head.ensures (rw c.place_of.ensures at c.intact.ensures)
