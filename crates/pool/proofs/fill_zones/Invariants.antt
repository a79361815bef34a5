-- `pool::fill_zones` meets its contract. Assumes nothing.
use Rattle.layout.specs.Meaning.{shape_of}
use Rattle.pool.proofs.Fresh.{Filling}
use Rattle.pool.proofs.fill_zones.Given as goal

abbrev pub invariant-loop-z : goal.invariant-loop-z
invariant-loop-z l = Filling (shape_of l.s) l.initial.pool l.pool l.z
