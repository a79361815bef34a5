-- The tests of the calls have listed numbers alone. Assumes nothing.
use Prim.Native.Nat.{ℕ}
use mathlib.Core.Path.{refl}
use mathlib.Core.Option.{Option, none, some}
use mathlib.Core.List.{List, [], ◌∷◌}
use Rattle.refusals.specs.Listed.{is_listed}
use Rattle.rules.specs.Shape.{Shape}
use Rattle.rules.specs.Runs.{Run}
use Rattle.rules.specs.Header.{open_tests}
use Rattle.rules.specs.Zones.{object_tests}
use Rattle.rules.specs.Seals.{read_tests}
use Rattle.rules.specs.Answer.{Given}
use Rattle.rules.specs.Calls.{live_tests, record_tests}
use Rattle.rules.specs.Format.{format_tests}
use Rattle.rules.specs.Tag.{look_up_tests, whole_test}
use Rattle.rules.specs.Repair.{repair_tests}
use Rattle.powercut.specs.Commit.{commit_tests}
use Rattle.powercut.specs.Recovery.{Recovery, recovery_tests}
use Rattle.objects.specs.Named.{run_tests}
use Rattle.setups.specs.Setups.{absent_test, found_tests, number_test, recall_tests, save_tests, setup_at, size_test}
use Rattle.refusal_numbers.proofs.Numbers.{AllListed, listed-join}

pub open-listed : (p : List ℕ) → AllListed (open_tests p)
unfolding open_tests is_listed
open-listed p = (refl, (refl, (refl, (refl, tt))))

pub read-listed : (p : List ℕ) → AllListed (read_tests p)
unfolding read_tests is_listed
read-listed p = listed-join (open_tests p) _ (open-listed p) (refl, tt)

pub run-listed : (o : Option Run) → AllListed (run_tests o)
unfolding run_tests is_listed
run-listed o = (refl, (refl, tt))

pub object-listed : (s : Shape) (v : List ℕ) (a : ℕ) → AllListed (object_tests s v a)
unfolding object_tests is_listed
object-listed s v a = (refl, (refl, (refl, (refl, tt))))

pub record-listed : (g : Given) → AllListed (record_tests g)
unfolding record_tests is_listed
record-listed g = listed-join (open_tests g.pool) _ (open-listed g.pool) (refl, (refl, (refl, tt)))

pub live-listed : (g : Given) → AllListed (live_tests g)
unfolding live_tests is_listed
live-listed g = (refl, (refl, tt))

pub format-listed : (p : List ℕ) (s : Shape) (id : ℕ) → AllListed (format_tests p s id)
unfolding format_tests is_listed
format-listed p s id = (refl, (refl, tt))

pub look-up-listed : (p : List ℕ) → AllListed (look_up_tests p)
unfolding look_up_tests whole_test is_listed
look-up-listed p = listed-join (read_tests p) _ (read-listed p) (refl, tt)

pub repair-listed : (p ms : List ℕ) → AllListed (repair_tests p ms)
unfolding repair_tests is_listed
repair-listed p ms = listed-join (read_tests p) _ (read-listed p) (refl, (refl, tt))

pub commit-listed : (g : Given) → AllListed (commit_tests g)
unfolding commit_tests is_listed
commit-listed g = listed-join (record_tests g) _ (record-listed g) (refl, (refl, tt))

pub recovery-listed : (p : List ℕ) (r : Recovery) → AllListed (recovery_tests p r)
unfolding recovery_tests is_listed
recovery-listed p r = listed-join (open_tests p) _ (open-listed p) (refl, (refl, (refl, tt)))

found-listed : (p : List ℕ) (o : Option ℕ) → AllListed (found_tests p o)
unfolding found_tests size_test is_listed
found-listed p none = tt
found-listed p (some a) = (refl, (refl, tt))

absent-listed : (o : Option ℕ) → AllListed (absent_test o ∷ [])
unfolding absent_test is_listed
absent-listed none = (refl, tt)
absent-listed (some a) = (refl, tt)

pub save-listed : (pool staging : List ℕ) (n : ℕ) (body : List ℕ) → AllListed (save_tests pool staging n body)
unfolding save_tests number_test size_test whole_test is_listed
save-listed pool staging n body =
    (refl, (refl, listed-join (open_tests pool) _ (open-listed pool) (refl, (refl, (refl, found-listed pool (setup_at pool n))))))

pub recall-listed : (pool : List ℕ) (n : ℕ) → AllListed (recall_tests pool n)
unfolding recall_tests number_test is_listed
recall-listed pool n = (
  refl,
  listed-join (look_up_tests pool) _ (look-up-listed pool)
      (listed-join (absent_test (setup_at pool n) ∷ []) (found_tests pool (setup_at pool n)) (absent-listed (setup_at pool n)) (found-listed pool (setup_at pool n))),
)
