-- `scan::put_refused` meets its contract. Assumes nothing.
use native.Mathlib.Omega.{arith}
use Rattle.texts.proofs.Adds.{adds_as}
use Rattle.scan.specs.Lined.{refused_text}
use Rattle.scan.proofs.put_refused.Goals as goal

pub returns : goal.returns
unfolding refused_text
returns c = adds_as c.put_between.ensures (rw (c.from.ensures, c.number.ensures)) (omega arith)
