-- The numbers that calls refuse with: each is one that 01's tables list (`is_listed`), for all inputs; of steps from an answer that a caller
-- hands in, where that is no refusal with another number. Assumes nothing.
use Rattle.std.specs.Prelude.{ℕ, true, ◌≡◌, List, ◌++◌}
use Rattle.std.proofs.Math.Option.{Option, some}
use Rattle.refusals.specs.Listed.{is_listed}
use Rattle.rules.specs.Shape.{Shape}
use Rattle.rules.specs.Runs.{Run}
use Rattle.rules.specs.Test.{first}
use Rattle.rules.specs.Header.{shape_in}
use Rattle.rules.specs.Zones.{object_tests}
use Rattle.rules.specs.Seals.{read_tests}
use Rattle.rules.specs.Answer.{After, Given, refused}
use Rattle.rules.specs.Plan.{Call, failed, search}
use Rattle.rules.specs.Calls.{call, live_tests, record_tests, transaction_start}
use Rattle.rules.specs.Format.{formatted}
use Rattle.rules.specs.Mend.{mend_header}
use Rattle.rules.specs.Look as Looking
use Rattle.rules.specs.Look.{look}
use Rattle.rules.specs.Tag as Tagging
use Rattle.rules.specs.Tag.{look_up}
use Rattle.rules.specs.Scrub as Scrubbing
use Rattle.rules.specs.Scrub.{scrub}
use Rattle.rules.specs.Repair as Repairing
use Rattle.rules.specs.Repair.{repair}
use Rattle.powercut.specs.Commit.{commit_on, commit_start, commit_step}
use Rattle.powercut.specs.Recovery.{Recovery, recovery_on, recovery_start, recovery_step}
use Rattle.layout.specs.Meaning as Checking
use Rattle.layout.specs.Meaning.{answer, checked, opened}
use Rattle.objects.specs.Named.{run_tests}
use Rattle.zones.specs.Body.{look_in}
use Rattle.tags.specs.Found.{look_up_in}
use Rattle.answers.specs.Planned.{planned}
use Rattle.setups.specs.Setups.{recalled, saved}
use Rattle.saving.specs.Saving as Saving
use Rattle.saving.specs.Saving.{calls_from, committed}
use Rattle.saving.specs.TakenBack.{taken_back}
use Rattle.saving.specs.Recovering.{recovered}

-- If x, whatever a call answers with, is the refusal of a number, this number is listed.
abbrev pub ListedNumber : {A : Type 0} → (ℕ → A) → A → Type 0
ListedNumber refusal x = (n : ℕ) → x ≡ refusal n → is_listed n ≡ true

-- The calls of 01, and those of A.1: the look-up by tag, a set-up saved and recalled.
pub record CallsRefuse : Type 0 where
  pub formats : (p : List ℕ) (R C Z id : ℕ) → ListedNumber refused (formatted p R C Z id).answer
  pub mends : (p : List ℕ) → ListedNumber refused (mend_header p).answer
  pub repairs : (p masks : List ℕ) → ListedNumber Repairing.refused (repair p masks).answer
  pub looks : (p : List ℕ) (a : ℕ) → ListedNumber Looking.refused (look p a)
  pub looks-up : (p : List ℕ) (tag from : ℕ) → ListedNumber Tagging.refused (look_up p tag from)
  pub scrubs : (p : List ℕ) → ListedNumber Scrubbing.refused (scrub p)
  pub begins : (p : List ℕ) → ListedNumber refused (transaction_start p).answer
  pub stages : (g : Given) (k : Call) → ListedNumber refused (call g k).answer
  pub starts : (g : Given) → ListedNumber refused (commit_start g).answer
  pub steps : (g : Given) → ListedNumber refused (commit_step g).answer
  pub advances : (g : Given) → ListedNumber refused (commit_on g).answer
  pub restarts : (p : List ℕ) → ListedNumber refused (recovery_start p).answer
  pub resumes : (p : List ℕ) (r : Recovery) → ListedNumber refused (recovery_step p r).answer
  pub readvances : (p : List ℕ) (r : Recovery) → ListedNumber refused (recovery_on p r).answer
  pub saves : (pool staging : List ℕ) (n : ℕ) (body : List ℕ) → ListedNumber refused (saved pool staging n body).answer
  pub recalls : (pool : List ℕ) (n : ℕ) → ListedNumber Looking.refused (recalled pool n)

-- Their parts, as the code's functions beneath the calls have them; a commit's step and part are above.
pub record PartsRefuse : Type 0 where
  pub checks : (s : Shape) → ListedNumber Checking.refused (checked s)
  pub opens : (p : List ℕ) → ListedNumber Checking.refused (opened p)
  pub reads : (p : List ℕ) → ListedNumber Checking.refused (answer (first (read_tests p)) (shape_in p))
  pub names : (o : Option Run) → ListedNumber some (first (run_tests o))
  pub names-at : (s : Shape) (v : List ℕ) (a : ℕ) → ListedNumber some (first (object_tests s v a))
  pub looks-in : (s : Shape) (p : List ℕ) (a : ℕ) → ListedNumber Looking.refused (look_in s p a)
  pub looks-up-in : (s : Shape) (p : List ℕ) (tag from : ℕ) → ListedNumber Tagging.refused (look_up_in s p tag from)
  pub searches : (s : Shape) (v : List ℕ) (k z count : ℕ) → ListedNumber failed (search s v k z count)
  pub judges : (g : Given) → ListedNumber some (first (record_tests g))
  pub judges-live : (g : Given) → ListedNumber some (first (record_tests g ++ live_tests g))
  pub plans : (s : Shape) (pool staging : List ℕ) (count : ℕ) (k : Call) → ListedNumber refused (planned s pool staging count k).answer

-- The callers of these calls; steps from an answer that is handed in, if that has no other number.
pub record CallersRefuse : Type 0 where
  pub steps : (n : ℕ) (x : After) → ListedNumber refused x.answer → ListedNumber refused (calls_from commit_step n x).answer
  pub runs : (g : Given) → ListedNumber refused (committed g).answer
  pub saves : (pool staging : List ℕ) (tag : ℕ) (body : List ℕ) → ListedNumber refused (Saving.saved pool staging tag body).answer
  pub takes-back : (pool staging : List ℕ) (tag : ℕ) (body : List ℕ) → ListedNumber refused (taken_back pool staging tag body).answer
  pub recovers : (p : List ℕ) → ListedNumber refused (recovered p).answer
