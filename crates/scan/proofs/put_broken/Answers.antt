-- `scan::put_broken` meets its contract. Assumes nothing.
use Rattle.texts.proofs.Adds.{adds_as, adds_then}
use Rattle.scan.proofs.Lines.{broken-line}
use native.Mathlib.Omega.{arith}
use Rattle.scan.proofs.put_broken.Goals as goal

pub returns : goal.returns
returns c = adds_as (adds_then c.put_pair.ensures c.put_bytes.ensures) (broken-line _ _) (omega arith)
