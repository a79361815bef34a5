-- What the functions of a recovery's start and of its calls do. Assumes nothing.
use Rattle.std.specs.Prelude.{ℕ, ◌+◌, ◌*◌, ◌≡◌, Bool, not, ◌&&◌, cond, List, [], ◌∷◌, eqb, ltb, Result, Ok, Err}
use Rattle.rules.specs.Words.{word}
use Rattle.rules.specs.Shape.{Shape}
use Rattle.rules.specs.Test.{Test, when}
use Rattle.rules.specs.Header.{id_test}
use Rattle.powercut.specs.Log.{Log, count_in, log_at, valid}
use Rattle.powercut.specs.Steps.{Remedy, clear, neither, nothing, replay}
use Rattle.powercut.specs.Recovery as Paper
use Rattle.refusals.specs.declared.Refusal.{Refusal}
use Rattle.refusals.specs.declared.Refusal.TheVariants.{NoLog}
use Rattle.answers.specs.declared.Answer.TheVariants as Told
use Rattle.actions.specs.declared.Action.{Action}
use Rattle.actions.specs.Actions.{told_of}
use Rattle.recovery.specs.declared.Remedy as Code
use Rattle.recovery.specs.declared.Remedy.TheVariants.{Clear, Neither, Nothing, Replay}
use Rattle.recovery.specs.declared.Progress.TheVariants.{Finished, Recovering}
use Rattle.recovery.specs.declared.Recovery.{Recovery}
use Rattle.recovery.specs.declared.Reply.{Reply}

-- The reply to a start: refused; 22 if nothing can be done, done if there is no step.
abbrev pub refused_start : Refusal → Reply
refused_start r = record { answer = Told.Refused r; recovery = record { id = 0; work = Neither; phase = Finished } }

abbrev pub begun : ℕ → Code.Remedy → Reply
begun id (Replay l n) = record { answer = Told.Started; recovery = record { id = id; work = Replay l n; phase = Recovering 0 } }
begun id Clear = record { answer = Told.Started; recovery = record { id = id; work = Clear; phase = Recovering 0 } }
begun id Nothing = record { answer = Told.Done 0; recovery = record { id = id; work = Nothing; phase = Finished } }
begun id Neither = refused_start NoLog

-- The reply to a call on a record: a refused one hands it back as it was.
abbrev pub handed_back : Recovery → Result Reply Refusal → Reply
handed_back v (Ok r) = r
handed_back v (Err x) = record { answer = Told.Refused x; recovery = v }

-- ---- A call on a pool of the shape sh.

-- Its refusals: 10, 11, 29.
unfoldable pub work_tests : Shape → List ℕ → Paper.Recovery → List Test
work_tests sh p r = when (Paper.impossible_recovery sh p r.work r.phase) 10 ∷ id_test r.id p ∷ when (not (Paper.is_recovering r.phase)) 29 ∷ []

-- At place k of a replay, data or parity is being stored, and the log at b is no longer valid with the count n.
unfoldable pub lost_at : Shape → List ℕ → ℕ → ℕ → ℕ → Bool
lost_at sh p b n k = ltb k (2 * n + 2) && not (valid sh p b && eqb (count_in (word p b)) n)

-- A recovery with k steps made is impossible.
abbrev pub impossible_at : Shape → List ℕ → Remedy → ℕ → Bool
impossible_at sh p w k = Paper.impossible_recovery sh p w (Paper.recovering k)

-- The same of the replay of the log at b.
abbrev pub ReplayImpossible : Shape → List ℕ → ℕ → ℕ → ℕ → Bool → Type 0
ReplayImpossible sh p b n k x = (l : Log) → b ≡ log_at sh l → x ≡ impossible_at sh p (replay l n) k

-- How many steps there are.
abbrev pub step_count : Remedy → ℕ
step_count (replay l n) = 2 * n + 5
step_count clear = 3
step_count nothing = 0
step_count neither = 0

-- The reply to step k of n, from 1.
unfoldable pub replied : Recovery → Action → ℕ → ℕ → Reply
replied r a k n =
    cond (eqb k n) (record { answer = Told.Done n; recovery = record { id = r.id; work = r.work; phase = Finished } })
    (record { answer = told_of k a; recovery = record { id = r.id; work = r.work; phase = Recovering k } })
