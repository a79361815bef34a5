-- `scan::put_total` meets its contract. Assumes nothing.
use Rattle.texts.proofs.Adds.{adds_as, adds_then}
use Rattle.scan.proofs.Lines.{total-line}
use native.Mathlib.Omega.{arith}
use Rattle.scan.proofs.put_total.Goals as goal

pub returns : goal.returns
returns c =
    adds_as (adds_then c.put_between.ensures (adds_then c.put_between-2.ensures c.put_between-3.ensures)) (total-line _ _ _) (omega arith)
