-- `heads::Head::check` meets its contract. Assumes nothing.
use Rattle.heads.proofs.HeadWords.{head-check}
use native.Mathlib.Omega.{arith}
use Rattle.heads.proofs.Head.check.Goals as goal

pub returns : goal.returns
returns c = let s = c.args.self in omega (arith, head-check s.first s.second)
