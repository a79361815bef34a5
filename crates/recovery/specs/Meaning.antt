-- What the code's recovery record and its replies mean in 01's terms. Assumes nothing.
use Rattle.std.specs.Prelude.{ℕ, List}
use Rattle.powercut.specs.Log as Place
use Rattle.powercut.specs.Steps.{Remedy, clear, neither, nothing, replay}
use Rattle.powercut.specs.Recovery as Paper
use Rattle.answers.specs.Meaning.{answer_of}
use Rattle.recovery.specs.declared.Log.{Log}
use Rattle.recovery.specs.declared.Log.TheVariants.{A, B}
use Rattle.recovery.specs.declared.Remedy as Code
use Rattle.recovery.specs.declared.Remedy.TheVariants.{Clear, Neither, Nothing, Replay}
use Rattle.recovery.specs.declared.Progress.{Progress}
use Rattle.recovery.specs.declared.Progress.TheVariants.{Finished, Recovering}
use Rattle.recovery.specs.declared.Recovery.{Recovery}
use Rattle.recovery.specs.declared.Reply.{Reply}

-- Which log.
abbrev pub log_of : Log → Place.Log
log_of A = Place.from_a
log_of B = Place.from_b

-- What is to be done.
abbrev pub remedy_of : Code.Remedy → Remedy
remedy_of (Replay l n) = replay (log_of l) n
remedy_of Clear = clear
remedy_of Nothing = nothing
remedy_of Neither = neither

-- The steps made so far, or all made.
abbrev pub progress_of : Progress → Paper.Progress
progress_of (Recovering k) = Paper.recovering k
progress_of Finished = Paper.finished

-- The record.
abbrev pub recovery_of : Recovery → Paper.Recovery
recovery_of r = record { id = r.id; work = remedy_of r.work; phase = progress_of r.phase }

-- A reply, with the pool that the call leaves.
abbrev pub after_of : Reply → List ℕ → Paper.RecoveryAfter
after_of r pool = record { answer = answer_of r.answer; pool = pool; recovery = recovery_of r.recovery }
