-- Recovery by steps (01, "Commit, cut, recovery"): its record, its start, one step, and all steps up to the next
-- barrier, for all inputs. Assumes nothing.
use Rattle.std.specs.Prelude.{ℕ, zero, suc, ◌+◌, ◌-◌, ◌*◌, Bool, true, false, not, ◌&&◌, ◌||◌, cond, List, [], ◌∷◌, ◌++◌, ltb, eqb, length, get_or}
use Rattle.std.proofs.Math.Option.{Option, none, some}
use Rattle.rules.specs.Words.{word}
use Rattle.rules.specs.Shape.{Shape, entry_limit}
use Rattle.rules.specs.Test.{Test, first, when}
use Rattle.rules.specs.Header.{id_in, id_test, open_tests, shape_in}
use Rattle.rules.specs.Answer.{Answer, done, started, refused}
use Rattle.powercut.specs.Log.{count_in, log_at, valid}
use Rattle.powercut.specs.Steps.{Remedy, Step, barrier, clear, neither, nothing, recovery_steps, remedy, replay, step_pool}
use Rattle.powercut.specs.Commit.{is_stored, step_answer}

pub data Progress : Type 0 where
  recovering : ℕ → Progress
  finished : Progress

-- The record: the id of the pool that it was begun on; the log that is replayed and its count, or clearing only; and the steps made.
pub record Recovery : Type 0 where
  pub id : ℕ
  pub work : Remedy
  pub phase : Progress

-- The record with other steps made.
abbrev pub with_progress : Recovery → Progress → Recovery
with_progress r f = record { id = r.id; work = r.work; phase = f }

pub record RecoveryAfter : Type 0 where
  pub answer : Answer
  pub pool : List ℕ
  pub recovery : Recovery

unfoldable pub conclude_recovery : List ℕ → Recovery → Option ℕ → RecoveryAfter → RecoveryAfter
conclude_recovery p r none after = after
conclude_recovery p r (some n) after = record { answer = refused n; pool = p; recovery = r }

-- ---- The start.

-- A refused start hands back a record that no call takes, since it was given none: no pool that opens has id 0.
abbrev pub idle : Recovery
idle = record { id = 0; work = neither; phase = finished }

-- A recovery without steps says done at its start. 22 both seals non-zero, neither log valid.
unfoldable pub start_recovery : List ℕ → Remedy → RecoveryAfter
start_recovery p (replay l n) = record { answer = started; pool = p; recovery = record { id = id_in p; work = replay l n; phase = recovering 0 } }
start_recovery p clear = record { answer = started; pool = p; recovery = record { id = id_in p; work = clear; phase = recovering 0 } }
start_recovery p nothing = record { answer = done 0; pool = p; recovery = record { id = id_in p; work = nothing; phase = finished } }
start_recovery p neither = record { answer = refused 22; pool = p; recovery = idle }

unfoldable pub recovery_start : List ℕ → RecoveryAfter
recovery_start p = conclude_recovery p idle (first (open_tests p)) (start_recovery p (remedy (shape_in p) p))

-- ---- A step.

unfoldable pub is_recovering : Progress → Bool
is_recovering (recovering k) = true
is_recovering finished = false

unfoldable pub done_steps : Progress → ℕ
done_steps (recovering k) = k
done_steps finished = 0

-- Count above 127.
unfoldable pub count_above : Remedy → Bool
count_above (replay l n) = ltb entry_limit n
count_above clear = false
count_above nothing = false
count_above neither = false

-- While recovery is storing data or parity, its log is no longer valid with its count.
unfoldable pub log_lost : Shape → List ℕ → Remedy → ℕ → Bool
log_lost sh p (replay l n) k = ltb k (2 * n + 2) && not (valid sh p (log_at sh l) && eqb (count_in (word p (log_at sh l))) n)
log_lost sh p clear k = false
log_lost sh p nothing k = false
log_lost sh p neither k = false

-- Refusal 10: count above 127; while recovering, a place past its list, or its log lost.
unfoldable pub impossible_recovery : Shape → List ℕ → Remedy → Progress → Bool
impossible_recovery sh p w f =
    count_above w || (is_recovering f && (not (ltb (done_steps f) (length (recovery_steps sh p w))) || log_lost sh p w (done_steps f)))

-- 2, 3, 4, 2; 10 record impossible; 11 record of another pool; 29 not recovering.
unfoldable pub recovery_tests : List ℕ → Recovery → List Test
recovery_tests p r =
    open_tests p ++ (when (impossible_recovery (shape_in p) p r.work r.phase) 10
    ∷ id_test r.id p
    ∷ when (not (is_recovering r.phase)) 29
    ∷ [])

unfoldable pub recovery_list : List ℕ → Recovery → List Step
recovery_list p r = recovery_steps (shape_in p) p r.work

unfoldable pub recovery_next : List ℕ → Recovery → Step
recovery_next p r = get_or (recovery_list p r) (done_steps r.phase) barrier

unfoldable pub next_progress : ℕ → ℕ → Progress
next_progress k n = cond (eqb (suc k) n) finished (recovering (suc k))

unfoldable pub recovery_step : List ℕ → Recovery → RecoveryAfter
recovery_step p r = conclude_recovery p r (first (recovery_tests p r)) (record {
  answer = step_answer (done_steps r.phase) (length (recovery_list p r)) (recovery_next p r);
  pool = step_pool (shape_in p) (recovery_next p r) p;
  recovery = with_progress r (next_progress (done_steps r.phase) (length (recovery_list p r)));
})

-- ---- Up to the next barrier.

-- At most m steps more: as long as the last one answered stored, the next one.
unfoldable pub recovery_more : ℕ → RecoveryAfter → RecoveryAfter
recovery_more zero x = x
recovery_more (suc m) x = cond (is_stored x.answer) (recovery_more m (recovery_step x.pool x.recovery)) x

-- A step; as long as it answers stored, the next one, of those that the list has left. It stops at a barrier, at done or at a refusal.
unfoldable pub recovery_on : List ℕ → Recovery → RecoveryAfter
recovery_on p r = recovery_more (length (recovery_list p r) - suc (done_steps r.phase)) (recovery_step p r)
