-- A command line obeyed (A.3): what is done, the queue of errors then, and the bytes of staging memory and of the printed line. Saving and
-- recalling are those of the set-ups (A.1); nothing else of the pool is called. Assumes nothing.
use Rattle.std.specs.Prelude.{ℕ, ◌≡◌, ◌≢◌, true, cond, List, length}
use Rattle.std.proofs.lemmas.List.Edits.{sets}
use Rattle.rules.specs.Staging.{Transaction}
use Rattle.rules.specs.Answer.{After, is_refused}
use Rattle.rules.specs.Look as Looking
use Rattle.setups.specs.Setups.{saved, recalled as recalled_from}
use Rattle.lines.specs.Line.{Command, fault, query, reading, recall, save, nothing as asks_nothing}
use Rattle.errors.specs.Errors.{Queue, behind_oldest, entered, execution_error, fit, line as error_line, oldest}

-- What was done: nothing; a set-up is staged, in the transaction handed back, whose commit and steps are the caller's; a set-up lies at this
-- place of the pool, with this length; a line of this length was printed.
pub data Done : Type 0 where
  nothing : Done
  saving : Transaction → Done
  recalled : ℕ → ℕ → Done
  printed : ℕ → Done

pub record Obeyed : Type 0 where
  pub queue : Queue
  pub done : Done
  pub staging : List ℕ
  pub out : List ℕ

module _ (queue : Queue) (staging out : List ℕ) where
  -- Nothing is done.
  unfoldable pub idle : Obeyed
  idle = record { queue = queue; done = nothing; staging = staging; out = out }

  -- Nothing is done but that an error is entered.
  unfoldable pub failed : ℕ → Obeyed
  failed e = record { queue = entered e queue; done = nothing; staging = staging; out = out }

  -- The query takes the oldest error out and prints its line, as far as there is room.
  unfoldable pub answered : Obeyed
  answered =
      record { queue = behind_oldest queue; done = printed (length (error_line (oldest queue))); staging = staging; out = sets out 0 (error_line (oldest queue)) }

  -- A save that is refused, for whatever reason, is an execution error.
  unfoldable pub after_save : After → Obeyed
  after_save x = cond (is_refused x.answer) (failed execution_error) (record { queue = queue; done = saving x.left.txn; staging = x.left.staging; out = out })

  -- So is a recall.
  unfoldable pub after_recall : Looking.Look → Obeyed
  after_recall (Looking.part at n) = record { queue = queue; done = recalled at n; staging = staging; out = out }
  after_recall (Looking.refused n) = failed execution_error

-- The command, with the set-up's bytes handed in beside the line.
unfoldable pub carried_out : Command → List ℕ → Queue → List ℕ → List ℕ → List ℕ → Obeyed
carried_out asks_nothing setup queue pool staging out = idle queue staging out
carried_out (save n) setup queue pool staging out = after_save queue staging out (saved pool staging n setup)
carried_out (recall n) setup queue pool staging out = after_recall queue staging out (recalled_from pool n)
carried_out query setup queue pool staging out = answered queue staging out
carried_out (fault e) setup queue pool staging out = failed queue staging out e

unfoldable pub obeyed : List ℕ → List ℕ → Queue → List ℕ → List ℕ → List ℕ → Obeyed
obeyed line setup queue pool staging out = carried_out (reading line) setup queue pool staging out

-- WHAT A LINE LEAVES. The pool is only read.
pub record ObeyLeaves : Type 0 where
  -- A fit queue stays fit.
  pub fits : (line setup : List ℕ) (queue : Queue) (pool staging out : List ℕ) → fit queue ≡ true → fit (obeyed line setup queue pool staging out).queue ≡ true
  -- Unless a save is answered, staging is as given.
  pub stagings : (line setup : List ℕ) (queue : Queue) (pool staging out : List ℕ)
      → ((t : Transaction) → (obeyed line setup queue pool staging out).done ≢ saving t) → (obeyed line setup queue pool staging out).staging ≡ staging
  -- Unless a line is printed, the buffer is.
  pub outs : (line setup : List ℕ) (queue : Queue) (pool staging out : List ℕ)
      → ((n : ℕ) → (obeyed line setup queue pool staging out).done ≢ printed n) → (obeyed line setup queue pool staging out).out ≡ out
