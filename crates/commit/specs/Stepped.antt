-- What a commit's start and step answer and leave, in 01's terms and in the code's. Assumes nothing.
use Rattle.std.specs.Prelude.{ℕ, ◌&&◌, cond, not, List, [], ◌∷◌, eqb, Result, Ok, Err}
use Rattle.rules.specs.Shape.{Shape}
use Rattle.rules.specs.Test.{Test, when}
use Rattle.rules.specs.Seals.{unsealed}
use Rattle.rules.specs.Staging.{Phase}
use Rattle.rules.specs.Answer.{After, refused}
use Rattle.powercut.specs.Commit.{is_committing, place_in}
use Rattle.refusals.specs.declared.Refusal.{Refusal}
use Rattle.refusals.specs.Number.{number_of}
use Rattle.answers.specs.declared.Answer.TheVariants.{Done, Started}
use Rattle.answers.specs.Meaning.{answer_of}
use Rattle.actions.specs.declared.Action.{Action}
use Rattle.actions.specs.Actions.{told_of}
use Rattle.record.specs.declared.Phase.TheVariants.{Closed, Committing}
use Rattle.record.specs.declared.Record.{Record}
use Rattle.record.specs.Meaning.{given, in_phase}
use Rattle.commit.specs.declared.Stepped.{Stepped}

-- The answer, with pool, staging and record afterwards: a refused call leaves the record t as it was.
abbrev pub after_of : Record → Result Stepped Refusal → List ℕ → List ℕ → After
after_of t (Ok r) pool staging = record { answer = answer_of r.answer; left = given pool staging r.txn }
after_of t (Err r) pool staging = record { answer = refused (number_of r); left = given pool staging t }

-- The start of a commit.
unfoldable pub started_with : Record → Stepped
started_with t = cond (eqb t.count 0) (record { answer = Done 0; txn = in_phase t Closed }) (record { answer = Started; txn = in_phase t (Committing 0) })

-- What step k of n, from 1, answers, and the record then.
unfoldable pub stepped_to : Record → Action → ℕ → ℕ → Stepped
stepped_to t a k n = cond (eqb k n) (record { answer = Done n; txn = in_phase t Closed }) (record { answer = told_of k a; txn = in_phase t (Committing k) })

-- The tests of a step on a record that was judged: 29, 21.
unfoldable pub turn_tests : Shape → List ℕ → Phase → List Test
turn_tests sh p f = when (not (is_committing f)) 29 ∷ when (eqb (place_in f) 0 && not (unsealed sh p)) 21 ∷ []
