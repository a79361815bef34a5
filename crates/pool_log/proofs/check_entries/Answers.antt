-- `pool_log::check_entries` meets its contract. Assumes nothing.
use Rattle.pool_log.proofs.Logs.{check-part}
use native.Mathlib.Omega.{arith}
use borrow.Author.Rules.{rules}
use Rattle.pool_log.proofs.check_entries.Goals as goal

pub returns : goal.returns
returns c = (check-part c.args.p.now (λ i. omega (arith, c.shared_slice_known-1.given i)) c.args.at c.args.n _ c.requires c.check.ensures, search rules)
