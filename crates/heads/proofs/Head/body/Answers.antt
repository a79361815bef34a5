-- `heads::Head::body` meets its contract. Assumes nothing.
use Rattle.heads.proofs.HeadWords.{head-length}
use native.Mathlib.Omega.{arith}
use Rattle.heads.proofs.Head.body.Goals as goal

pub returns : goal.returns
returns c = let s = c.args.self in omega (arith, head-length s.first s.second)
