-- `scan::put_run` meets its contract. Assumes nothing.
use mathlib.Core.Path.{ap, ◌∙◌}
use native.Mathlib.Nat.{le_refl}
use native.Mathlib.Omega.{arith}
use Rattle.rules.specs.Scan.{run_line}
use Rattle.stage.proofs.Views.{length-by}
use Rattle.scrub.proofs.Counting.{head-there}
use Rattle.texts.proofs.Adds.{adds_as}
use Rattle.scan.proofs.Listing.{free-of, judged-line, object-of}
use Rattle.scan.proofs.put_run.Goals as goal

pub returns-then-run : goal.returns-then-run
returns-then-run c =
    adds_as c.put_free.ensures (ap (run_line c.args.z c.args.run.cell) (free-of c.args.zone.now c.args.run c.if-run.true)) (le_refl 64)

pub intact-good-requires : goal.intact-good-requires
intact-good-requires c =
    let o = head-there (c.requires.3 c.if-run.false) c.head-h.ensures in
    (omega (arith, c.place_of.ensures, c.args.zone.now.zoned.even), omega (arith, c.place_of.ensures, o.0, length-by c.args.zone.now.view), o.1)

pub returns : goal.returns
returns c =
    let j = judged-line _ _ (c.requires.3 c.if-run.false) c.head-h.ensures c.body.ensures.0 c.args.z c.args.run.cell (rw c.place_of.ensures at c.intact-good.ensures) c.tag.ensures in
    adds_as c.put_object.ensures (j ∙ ap (run_line c.args.z c.args.run.cell) (object-of c.args.zone.now c.args.run c.if-run.false)) (le_refl 64)
