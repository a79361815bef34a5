-- `heads::Head::cells` meets its contract. Assumes nothing.
use Rattle.heads.proofs.HeadWords.{head-cells}
use native.Mathlib.Omega.{arith}
use Rattle.heads.proofs.Head.cells.Goals as goal

pub returns : goal.returns
returns c = let s = c.args.self in omega (arith, head-cells s.first s.second)
