-- `scan::put_free` meets its contract. Assumes nothing.
use Rattle.texts.proofs.Adds.{adds_as, adds_then}
use Rattle.scan.proofs.Lines.{free-line}
use native.Mathlib.Omega.{arith}
use Rattle.scan.proofs.put_free.Goals as goal

pub returns : goal.returns
returns c = adds_as (adds_then c.put_pair.ensures c.put_between.ensures) (free-line _ _ _) (omega arith)
