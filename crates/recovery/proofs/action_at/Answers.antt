-- `recovery::action_at` meets its contract. Assumes nothing.
use mathlib.Core.Logic.{inl, inr}
use mathlib.Core.Path.{ap}
use Rattle.powercut.specs.Steps.{recovery_steps}
use Rattle.layout.proofs.Opening.{pool-shaped}
use Rattle.recovery.specs.Meaning.{log_of, remedy_of}
use Rattle.recovery.proofs.Stepping.{clear-action, no-action, replay-action, replay-ready}
use Rattle.recovery.proofs.action_at.Goals as goal

pub redo_action-requires : goal.redo_action-requires
redo_action-requires c = let l = log_of c.in-Replay.log in replay-ready c.args.pool.now.shape _ _ _ c.requires _ _ l c.log_at.ensures (ap remedy_of c.in-Replay.is) (pool-shaped c.args.pool.now)

pub returns-in-Replay : goal.returns-in-Replay
returns-in-Replay c = replay-action c.args.pool.now.shape _ _ _ c.requires _ _ (log_of c.in-Replay.log) c.log_at.ensures (ap remedy_of c.in-Replay.is) _ _ c.redo_action.ensures

pub returns-in-Clear : goal.returns-in-Clear
returns-in-Clear c = clear-action c.args.pool.now.shape _ _ _ _ _ (ap remedy_of c.in-Clear.is) c.clear_action.ensures

pub returns-in-Nothing : goal.returns-in-Nothing
unfolding recovery_steps
returns-in-Nothing c = no-action c.args.pool.now.shape c.args.pool.now.bytes.now _ _ (remedy_of c.args.work) (elim c.in-Nothing.is [ inl e ↦ rw e | inr e ↦ rw e ])
