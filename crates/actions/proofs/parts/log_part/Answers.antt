-- `actions::parts::log_part` meets its contract. Assumes nothing.
use native.Mathlib.Omega.{arith}
use Rattle.actions.proofs.PartMade.{along-start, log-end, log-inside, log-next}
use Rattle.actions.proofs.parts.log_part.Goals as goal

pub loop-i-init : goal.loop-i-init
loop-i-init c = (omega arith, along-start (omega arith))

pub apply-requires : goal.apply-requires
apply-requires c = log-inside c.args.s _ _ _ _ c.requires.0 c.requires.1 c.loop-i.invariant.1 (omega arith) c.log_action-action.ensures

pub loop-i-preserved : goal.loop-i-preserved
loop-i-preserved c = (c.loop-i.invariant.0, log-next c.args.s _ _ _ _ c.requires.0 c.requires.1 c.loop-i.invariant.1 (omega arith) c.log_action-action.ensures c.apply.ensures c.apply.auto.pool)

pub returns : goal.returns
returns c = log-end c.args.s _ _ _ _ c.requires.0 c.requires.1 c.loop-i.invariant.1 (omega arith)
