-- `heads::Head::tag` meets its contract. Assumes nothing.
use Rattle.heads.proofs.HeadWords.{head-tag}
use native.Mathlib.Omega.{arith}
use Rattle.heads.proofs.Head.tag.Goals as goal

pub returns : goal.returns
returns c = let s = c.args.self in omega (arith, head-tag s.first s.second)
