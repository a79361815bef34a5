-- `allocate::free_words` meets its contract. Assumes nothing.
use Rattle.allocate.proofs.Placed.{free-none, free-some}
use native.Mathlib.Omega.{arith}
use Rattle.allocate.proofs.free_words.Goals as goal

pub returns-then-left-eq0 : goal.returns-then-left-eq0
returns-then-left-eq0 c = (free-none c.args.left (omega arith), omega arith)

pub returns-else-left-eq0 : goal.returns-else-left-eq0
returns-else-left-eq0 c = (free-some c.args.left (omega arith), omega arith)
