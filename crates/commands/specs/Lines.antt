-- Command lines one after the other (A.3): ten set-ups as a table, and a queue of errors, over any lines, other transactions and power cuts.
use Rattle.std.specs.Prelude.{ℕ, ◌≡◌, ◌≢◌, Bool, true, false, cond, List, [], ◌∷◌, take, drop}
use Rattle.std.proofs.Math.Option.{Option, none, some}
use Rattle.rules.specs.Words.{Bytes}
use Rattle.rules.specs.Test.{first}
use Rattle.rules.specs.Staging.{Transaction}
use Rattle.rules.specs.Plan.{Call}
use Rattle.rules.specs.Calls.{AllTyped}
use Rattle.rules.specs.Sound.{book_of}
use Rattle.rules.specs.Tag.{Spares}
use Rattle.powercut.specs.WholeRun.{made}
use Rattle.powercut.specs.History.{Ending}
use Rattle.setups.specs.Setups.{save_call, setup_size}
use Rattle.setups.specs.Table.{Bare, Table, TableRun, empty_table, is_empty, is_setup_tag, overwritten, place, table_tests}
use Rattle.lines.specs.Line.{Command, fault, nothing, query, reading, recall, save}
use Rattle.errors.specs.Errors.{Queue, behind_oldest, entered, execution_error, fit, judged}
use Rattle.commands.specs.Obey.{Done, obeyed, recalled, saving}

-- Lines from the pool p, with an empty table and no errors, to the pool q with the table t and the queue e. Each line comes with its 120
-- bytes, staging memory and a buffer, and the queue is handed on. A line that saves comes with the ending of its transaction: committed, cut
-- and recovered, or dropped. Beside them: another queue handed in, as after a power cut, which the caller's memory does not survive; and
-- transactions of other callers that spare the tags 100 to 109 if they came into force.
pub data LineRun (p : List ℕ) : Table → Queue → List ℕ → Type 0 where
  start : LineRun p empty_table [] p
  line : {t : Table} {e : Queue} {q : List ℕ} (l setup staging out : List ℕ) → LineRun p t e q
      → ((u : Transaction) → (obeyed l setup e q staging out).done ≢ saving u) → LineRun p t (obeyed l setup e q staging out).queue q
  saves : {t : Table} {e : Queue} {q r : List ℕ} {kept : Bool} (l setup staging out : List ℕ) (n : ℕ) (u : Transaction) → LineRun p t e q → Bytes setup
      → reading l ≡ save n → (obeyed l setup e q staging out).done ≡ saving u → Ending q staging (save_call q n setup ∷ []) kept r
      → LineRun p (overwritten kept n setup t) (obeyed l setup e q staging out).queue r
  renew : {t : Table} {e : Queue} {q : List ℕ} (n : ℕ) (places : List ℕ) → LineRun p t e q → LineRun p t (judged n places) q
  other : {t : Table} {e : Queue} {q r : List ℕ} {kept : Bool} (staging : List ℕ) (ks : List Call) → LineRun p t e q → AllTyped ks
      → Ending q staging ks kept r → (kept ≡ true → Spares is_setup_tag ks (made q staging ks).answers (book_of q)) → LineRun p t e r

-- ---- A line, told from the table and the queue.

-- Whether there is a refusal.
unfoldable pub is_some : Option ℕ → Bool
is_some none = false
is_some (some n) = true

-- The error that a command gives, if any: its own; an execution error for a save that is refused, and for a recall of an empty place.
unfoldable pub error_of : Command → Table → List ℕ → List ℕ → List ℕ → Option ℕ
error_of nothing t q staging setup = none
error_of (save n) t q staging setup = cond (is_some (first (table_tests q t staging n setup))) (some execution_error) none
error_of (recall n) t q staging setup = cond (is_empty (place n t)) (some execution_error) none
error_of query t q staging setup = none
error_of (fault e) t q staging setup = some e

-- The queue then: an error is entered; the query takes the oldest out.
unfoldable pub with_error : Option ℕ → Queue → Queue
with_error none e = e
with_error (some n) e = entered n e

unfoldable pub queue_after : Command → Option ℕ → Queue → Queue
queue_after nothing o e = with_error o e
queue_after (save n) o e = with_error o e
queue_after (recall n) o e = with_error o e
queue_after query o e = behind_oldest e
queue_after (fault n) o e = with_error o e

-- A recall tells where the bytes of the place lie; of an empty place nothing.
abbrev pub RecallsPlace : List ℕ → Option (List ℕ) → Done → Type 0
RecallsPlace q none d = d ≡ Done.nothing
RecallsPlace q (some body) d = (at : ℕ) × (d ≡ recalled at setup_size) × (take setup_size (drop at q) ≡ body)

-- LINES ARE A TABLE AND A QUEUE
pub record LinesAreTable : Type 0 where
  -- A run of lines is a run of the table of A.1, with the same table and pool.
  pub runs : {p q : List ℕ} {t : Table} {e : Queue} → LineRun p t e q → TableRun p t q
  -- The queue is fit throughout.
  pub fits : {p q : List ℕ} {t : Table} {e : Queue} → LineRun p t e q → fit e ≡ true
  -- The queue behind each further line is the one that table and queue tell.
  pub queues : {p q : List ℕ} {t : Table} {e : Queue} → Bare p → LineRun p t e q → (l setup staging out : List ℕ) → Bytes setup
      → (obeyed l setup e q staging out).queue ≡ queue_after (reading l) (error_of (reading l) t q staging setup) e
  -- *RCL n gives the bytes of place n of the table.
  pub recalls : {p q : List ℕ} {t : Table} {e : Queue} → Bare p → LineRun p t e q → (l setup staging out : List ℕ) (n : ℕ) → reading l ≡ recall n
      → RecallsPlace q (place n t) (obeyed l setup e q staging out).done
  -- *SAV n does nothing if the table's tests refuse it; else it is staged, as its one call on a fresh transaction.
  pub saves : {p q : List ℕ} {t : Table} {e : Queue} → Bare p → LineRun p t e q → (l setup staging out : List ℕ) (n : ℕ) → Bytes setup → reading l ≡ save n
      → ((obeyed l setup e q staging out).done
      ≡ cond (is_some (first (table_tests q t staging n setup))) Done.nothing (saving (made q staging (save_call q n setup ∷ [])).left.txn))
      × ((obeyed l setup e q staging out).staging ≡ cond (is_some (first (table_tests q t staging n setup))) staging (made q staging (save_call q n setup ∷ [])).left.staging)
