-- `pool_log::seals_zero` meets its contract. Assumes nothing.
use mathlib.Core.Path.{◌∙◌}
use borrow.Author.Tests.{ne_eqb}
use Rattle.pool_log.proofs.Places.{at-log-a, at-log-b, log-room}
use Rattle.pool_log.proofs.Logs.{seal-first, seal-second}
use native.Mathlib.Omega.{arith}
use Rattle.pool_log.proofs.seals_zero.Goals as goal

pub load64-requires : goal.load64-requires
load64-requires c = omega (arith, log-room c.args.pool.now (at-log-a c.log_a-a.ensures))

pub load64-requires-then-load64-eq0 : goal.load64-requires-then-load64-eq0
load64-requires-then-load64-eq0 c = omega (arith, log-room c.args.pool.now (at-log-b c.log_b-b.ensures))

pub returns-then-load64-eq0 : goal.returns-then-load64-eq0
returns-then-load64-eq0 c =
    seal-second c.args.pool.now.shape _ _ _ c.log_a-a.ensures c.load64.ensures _ _ c.if-load64-eq0.true c.log_b-b.ensures c.load64-then-load64-eq0.ensures

pub returns-else-load64-eq0 : goal.returns-else-load64-eq0
returns-else-load64-eq0 c = ne_eqb _ 0 c.if-load64-eq0.false ∙ seal-first c.args.pool.now.shape _ _ _ c.log_a-a.ensures c.load64.ensures c.if-load64-eq0.false
