-- `actions::seal_action` meets its contract. Assumes nothing.
use native.Mathlib.Omega.{arith}
use Rattle.actions.proofs.Actions.{seal-barrier, seal-first, seal-second}
use Rattle.actions.proofs.seal_action.Goals as goal

pub returns-in-1 : goal.returns-in-1
returns-in-1 c = seal-first c.args.s _ _ _ c.in-1.is c.log_a.ensures

pub returns-in-2 : goal.returns-in-2
returns-in-2 c = let e = c.in-2.is in seal-second c.args.s _ _ _ (λ f. omega arith) e c.log_b.ensures

pub returns-in_default : goal.returns-in_default
returns-in_default c = seal-barrier c.args.s _ _ (λ e. omega arith) (λ e. omega arith)
