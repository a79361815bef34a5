-- `objects::in_zone` meets its contract. Assumes nothing.
use native.Mathlib.Omega.{arith}
use Rattle.stage.proofs.Views.{length-by}
use Rattle.objects.proofs.Naming.{object-damaged, object-good, spotted-empty, spotted-free, spotted-object}
use Rattle.objects.proofs.in_zone.Goals as goal

pub returns-in_default : goal.returns-in_default
returns-in_default c = spotted-empty c.requires.1 c.in_default.is

pub returns-then-run : goal.returns-then-run
returns-then-run c = spotted-free c.requires.1 c.in-Some.is c.if-run.true

pub intact-requires : goal.intact-requires
intact-requires c =
    let z = c.args.zone.now.zoned in
    let b = spotted-object c.requires.1 c.in-Some.is c.if-run.false c.head-head.ensures in
    rw c.place_of-at.ensures (omega (arith, z.even), omega (arith, b.heads.inside, z.inside), b.heads.ok)

pub returns-then-not-intact : goal.returns-then-not-intact
returns-then-not-intact c =
    let b = spotted-object c.requires.1 c.in-Some.is c.if-run.false c.head-head.ensures in
    let i = rw c.place_of-at.ensures at c.intact.ensures in
    rw (b.found, b.heads.is) (object-damaged _ _ _ i c.if-not-intact.true)

pub returns : goal.returns
returns c =
    let z = c.args.zone.now.zoned in
    let b = spotted-object c.requires.1 c.in-Some.is c.if-run.false c.head-head.ensures in
    let i = rw c.place_of-at.ensures at c.intact.ensures in
    rw (b.found, b.heads.is)
    (object-good _ _ _ i c.if-not-intact.false b.heads.ok c.cells.ensures.0 c.body.ensures.0 c.tag.ensures (omega (arith, b.heads.inside, z.inside, length-by c.args.zone.now.view)))
