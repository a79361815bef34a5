-- Commit by steps (01, "Commit, cut, recovery"): its start, one step, and all steps up to the next barrier, for all inputs. Assumes nothing.
use Rattle.std.specs.Prelude.{ℕ, zero, suc, ◌-◌, Bool, true, false, not, ◌&&◌, cond, List, [], ◌∷◌, ◌++◌, eqb, length, get_or}
use Rattle.rules.specs.Test.{Test, first, when}
use Rattle.rules.specs.Header.{shape_in}
use Rattle.rules.specs.Seals.{unsealed}
use Rattle.rules.specs.Staging.{Phase, closed, committing, live, with_phase}
use Rattle.rules.specs.Answer.{After, Answer, Given, address, conclude, done, passed, refused, started, stored, taken}
use Rattle.rules.specs.Calls.{entries_in, live_tests, record_tests}
use Rattle.powercut.specs.Steps.{Step, barrier, commit_steps, parity, step_pool, store}

-- Starting a commit closes staging and makes no store. A commit without steps says done at its start.
unfoldable pub start_phase : ℕ → Phase
start_phase zero = closed
start_phase (suc n) = committing 0

unfoldable pub start_answer : ℕ → Answer
start_answer zero = done 0
start_answer (suc n) = started

unfoldable pub commit_start : Given → After
commit_start g = conclude g (first (record_tests g ++ live_tests g)) (record {
  answer = start_answer g.txn.count;
  left = record { pool = g.pool; staging = g.staging; txn = with_phase g.txn (start_phase g.txn.count) };
})

-- The answer to the step with number suc k of n: store or barrier, and "done" only after the last one.
unfoldable pub made_answer : ℕ → Step → Answer
made_answer k (store x) = stored k
made_answer k (parity e) = stored k
made_answer k barrier = passed k

unfoldable pub step_answer : ℕ → ℕ → Step → Answer
step_answer k n x = cond (eqb (suc k) n) (done n) (made_answer (suc k) x)

unfoldable pub is_committing : Phase → Bool
is_committing live = false
is_committing (committing k) = true
is_committing closed = false

unfoldable pub place_in : Phase → ℕ
place_in live = 0
place_in (committing k) = k
place_in closed = 0

-- 29 not committing; 21 a seal is not zero, at the first step only.
unfoldable pub commit_tests : Given → List Test
commit_tests g =
    record_tests g ++ (when (not (is_committing g.txn.phase)) 29
    ∷ when (eqb (place_in g.txn.phase) 0 && not (unsealed (shape_in g.pool) g.pool)) 21
    ∷ [])

-- The list of steps, and the one that comes next.
unfoldable pub commit_list : Given → List Step
commit_list g = commit_steps (shape_in g.pool) (entries_in g)

unfoldable pub commit_next : Given → Step
commit_next g = get_or (commit_list g) (place_in g.txn.phase) barrier

unfoldable pub next_phase : ℕ → ℕ → Phase
next_phase k n = cond (eqb (suc k) n) closed (committing (suc k))

unfoldable pub commit_step : Given → After
commit_step g = conclude g (first (commit_tests g)) (record {
  answer = step_answer (place_in g.txn.phase) (length (commit_list g)) (commit_next g);
  left = record {
    pool = step_pool (shape_in g.pool) (commit_next g) g.pool;
    staging = g.staging;
    txn = with_phase g.txn (next_phase (place_in g.txn.phase) (length (commit_list g)));
  };
})

-- ---- Up to the next barrier.

-- A store was made, and it was not the last step.
unfoldable pub is_stored : Answer → Bool
is_stored (address a) = false
is_stored taken = false
is_stored started = false
is_stored (stored k) = true
is_stored (passed k) = false
is_stored (done k) = false
is_stored (refused n) = false

-- At most m steps more: as long as the last one answered stored, the next one.
unfoldable pub commit_more : ℕ → After → After
commit_more zero x = x
commit_more (suc m) x = cond (is_stored x.answer) (commit_more m (commit_step x.left)) x

-- A step; as long as it answers stored, the next one, of those that the list has left. It stops at a barrier, at done or at a refusal.
unfoldable pub commit_on : Given → After
commit_on g = commit_more (length (commit_list g) - suc (place_in g.txn.phase)) (commit_step g)
