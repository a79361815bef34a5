-- `scan::put_object` meets its contract. Assumes nothing.
use Rattle.texts.proofs.Adds.{adds_as, adds_then}
use Rattle.rules.specs.Scan.{quality}
use Rattle.scan.specs.Lined.{object_line}
use native.Mathlib.Omega.{arith}
use Rattle.scan.proofs.put_object.Goals as goal

pub returns-then-good : goal.returns-then-good
unfolding object_line quality
returns-then-good c = adds_as (adds_then c.put_pair.ensures (adds_then c.put_pair-2.ensures c.put_bytes.ensures)) (rw c.if-good.true) (omega arith)

pub returns-else-good : goal.returns-else-good
unfolding object_line quality
returns-else-good c = adds_as (adds_then c.put_pair.ensures (adds_then c.put_pair-2.ensures c.put_bytes-else-good.ensures)) (rw c.if-good.false) (omega arith)
