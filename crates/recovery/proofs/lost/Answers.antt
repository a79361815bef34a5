-- `recovery::lost` meets its contract. Assumes nothing.
use native.Mathlib.Omega.{arith}
use Rattle.pool_log.proofs.Places.{log-room}
use Rattle.recovery.proofs.Stepping.{lost-count, lost-invalid, lost-past}
use borrow.Author.Rules.{rules}
use Rattle.recovery.proofs.lost.Goals as goal

pub returns-then-n-k : goal.returns-then-n-k
returns-then-n-k c = search (rules, lost-past)

pub load64-requires : goal.load64-requires
load64-requires c = omega (arith, log-room c.args.pool.now c.requires.0)

pub returns-then-not-valid : goal.returns-then-not-valid
returns-then-not-valid c = search (rules, lost-invalid)

pub returns-else-not-valid : goal.returns-else-not-valid
returns-else-not-valid c = search (rules, lost-count)
