-- `actions::clear_action` meets its contract. Assumes nothing.
use native.Mathlib.Omega.{arith}
use Rattle.actions.proofs.Actions.{clear-barrier, clear-seal}
use Rattle.actions.proofs.clear_action.Goals as goal

pub returns-then-k-lt2 : goal.returns-then-k-lt2
returns-then-k-lt2 c = clear-seal c.args.pool.now c.args.k c.seal_action.ensures

pub returns : goal.returns
returns c = clear-barrier c.args.pool.now c.args.k (omega (arith, c.if-k-lt2.false))
