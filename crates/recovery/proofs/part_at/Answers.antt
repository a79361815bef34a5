-- `recovery::part_at` meets its contract. Assumes nothing.
use mathlib.Core.Logic.{inl, inr}
use mathlib.Core.Path.{ap}
use Rattle.powercut.specs.Steps.{recovery_steps}
use Rattle.layout.specs.Meaning.{shape_of}
use Rattle.recovery.specs.Meaning.{log_of, remedy_of}
use Rattle.recovery.proofs.Stepping.{clear-inside, none-to-do, replay-inside, replay-low, replay-ready}
use Rattle.recovery.proofs.Parts.{clear-part, replay-part}
use Rattle.recovery.proofs.part_at.Goals as goal

pub redo_part-requires : goal.redo_part-requires
redo_part-requires c =
    let l = log_of c.in-Replay.log in
    let e = ap remedy_of c.in-Replay.is in
    let q = c.log_at.ensures in (
      replay-ready c.args.s _ _ _ c.requires.1 _ _ l q e c.requires.0,
      replay-low c.args.s _ _ _ c.requires.1 _ _ l q e,
      replay-inside c.args.s _ _ _ c.requires.1 _ _ l q e,
    )

pub clear_part-requires : goal.clear_part-requires
clear_part-requires c = (c.requires.0, clear-inside c.args.s _ _ _ c.requires.1 (ap remedy_of c.in-Clear.is))

pub returns-in-Replay : goal.returns-in-Replay
returns-in-Replay c = replay-part (shape_of c.args.s) _ _ _ _ _ _ _ (log_of c.in-Replay.log) c.log_at.ensures (ap remedy_of c.in-Replay.is) c.redo_part.ensures

pub returns-in-Clear : goal.returns-in-Clear
returns-in-Clear c = clear-part (shape_of c.args.s) _ _ _ _ _ (ap remedy_of c.in-Clear.is) c.clear_part.ensures

pub returns-in-Nothing : goal.returns-in-Nothing
unfolding recovery_steps
returns-in-Nothing c = absurd (none-to-do c.args.s _ _ _ c.requires.1 (elim c.in-Nothing.is [ inl e ↦ rw e | inr e ↦ rw e ]))
