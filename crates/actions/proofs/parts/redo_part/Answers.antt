-- `actions::parts::redo_part` meets its contract. Assumes nothing.
use mathlib.Core.Path.{refl}
use native.Mathlib.Omega.{arith}
use Rattle.layout.specs.Meaning.{shape_of}
use Rattle.layout.proofs.Range.{in_range}
use Rattle.actions.proofs.PartMade.{ready-kept, redo-by-data, redo-by-parity, redo-by-seals}
use Rattle.actions.proofs.parts.redo_part.Goals as goal

pub returns-then-k-n : goal.returns-then-k-n
returns-then-k-n g c = redo-by-data (shape_of c.args.s) _ _ _ _ c.if-k-n.true c.data_part.ensures

pub parity_part-requires : goal.parity_part-requires
parity_part-requires g c = (ready-kept c.requires.0 refl (omega arith), c.requires.1, omega arith)

pub returns-then-k-n-2 : goal.returns-then-k-n-2
returns-then-k-n-2 g c = redo-by-parity (shape_of c.args.s) _ _ _ _ c.if-k-n.false c.if-k-n-2.true c.parity_part.ensures

pub seal_part-requires : goal.seal_part-requires
seal_part-requires g c = (record { range = in_range c.args.s; size = c.requires.0.whole }, omega arith)

pub returns : goal.returns
returns g c = redo-by-seals (shape_of c.args.s) _ _ _ _ c.if-k-n.false c.if-k-n-2.false c.requires.2 c.seal_part.ensures
