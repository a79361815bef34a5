-- `pool_log::count` meets its contract. Assumes nothing.
use mathlib.Core.Path.{refl}
use Rattle.powercut.specs.Log.{count_in}
use native.Mathlib.Omega.{arith}
use Rattle.pool_log.proofs.count.Goals as goal

pub returns : goal.returns
unfolding count_in
returns c = (refl, omega arith)
