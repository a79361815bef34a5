-- `recovery::impossible_at` meets its contract. Assumes nothing.
use mathlib.Core.Logic.{inl, inr}
use mathlib.Core.Path.{refl}
use Rattle.powercut.specs.Steps.{recovery_steps}
use Rattle.recovery.specs.Meaning.{log_of}
use Rattle.recovery.specs.declared.Remedy.TheVariants.{Neither, Nothing}
use Rattle.recovery.proofs.Stepping.{clear-impossible, empty-impossible}
use Rattle.recovery.proofs.impossible_at.Goals as goal

pub cannot_replay-requires : goal.cannot_replay-requires
cannot_replay-requires c = record { log = log_of c.in-Replay.log; place = c.log_at.ensures }

pub returns-in-Replay : goal.returns-in-Replay
returns-in-Replay c = rw c.in-Replay.is (c.cannot_replay.ensures (log_of c.in-Replay.log) c.log_at.ensures)

pub returns-in-Clear : goal.returns-in-Clear
returns-in-Clear c = clear-impossible c.args.pool.now.shape _ _ _ c.in-Clear.is

pub returns-in-Nothing : goal.returns-in-Nothing
unfolding recovery_steps
returns-in-Nothing c = elim c.in-Nothing.is [ inl e ↦ empty-impossible c.args.pool.now.shape c.args.pool.now.bytes.now _ _ Nothing e refl | inr e ↦ empty-impossible c.args.pool.now.shape c.args.pool.now.bytes.now _ _ Neither e refl ]
