-- What a step does to the pool that it meets: one store, or a barrier; and which one step k of a commit or of a recovery is. Assumes nothing.
use Rattle.std.specs.Prelude.{ℕ, ◌+◌, ◌*◌, ◌/◌, ◌%◌, ◌<◌, ◌≤◌, ◌≡◌, cond, true, List, eqb, ltb, get_or, length}
use Rattle.rules.specs.Words.{put, word}
use Rattle.rules.specs.Shape.{Shape, entry_limit, entry_size, log_a, log_b, log_head, parity_at, pool_size}
use Rattle.rules.specs.Parity.{parity_word}
use Rattle.rules.specs.Answer.{Answer, passed, stored}
use Rattle.powercut.specs.Steps.{Step, barrier, clear, commit_steps, parity, recovery_steps, redo, store}
use Rattle.pool_log.specs.Targets.{all_fit, read}
use Rattle.answers.specs.declared.Answer as Told
use Rattle.answers.specs.declared.Answer.TheVariants as Cases
use Rattle.actions.specs.declared.Action.{Action}
use Rattle.actions.specs.declared.Action.TheVariants.{Barrier, Store}

-- The store of the parity word at the place of t: the exclusive or of all data rows of the pool p.
unfoldable pub parity_action : Shape → List ℕ → ℕ → Action
parity_action sh p t = Store (parity_at sh t) (parity_word sh p t)

-- The action of a step on the pool p.
abbrev pub action_of : Shape → List ℕ → Step → Action
action_of sh p (store x) = Store x.at x.val
action_of sh p (parity e) = parity_action sh p e.at
action_of sh p barrier = Barrier

-- The pool after an action, and what the step with number k answers unless it is the last.
abbrev pub applied : Action → List ℕ → List ℕ
applied (Store a v) p = put p a v
applied Barrier p = p

abbrev pub answer_of : ℕ → Action → Answer
answer_of k (Store a v) = stored k
answer_of k Barrier = passed k

-- The same answer by the code.
abbrev pub told_of : ℕ → Action → Told.Answer
told_of k (Store a v) = Cases.Stored k
told_of k Barrier = Cases.Barrier k

-- The store lies inside n bytes.
abbrev pub Inside : Action → ℕ → Type 0
Inside (Store a v) n = a + 8 ≤ n
Inside Barrier n = Unit {0}

-- The action a, inside n bytes.
pub record Computed (a : Action) (n : ℕ) (r : Action) : Type 0 where
  pub value : r ≡ a
  pub inside : Inside r n

-- ---- Step k of the commit of the n entries staged in src, of parts 3 to 5 for the n entries at `at`, and of clearing both seals.

unfoldable pub commit_action : Shape → List ℕ → List ℕ → ℕ → ℕ → Action
commit_action sh p src n k = action_of sh p (get_or (commit_steps sh (read src 0 n)) k barrier)

unfoldable pub redo_action : Shape → List ℕ → List ℕ → ℕ → ℕ → ℕ → Action
redo_action sh p src at n k = action_of sh p (get_or (redo sh (read src at n)) k barrier)

unfoldable pub clear_action : Shape → List ℕ → ℕ → Action
clear_action sh p k = action_of sh p (get_or (recovery_steps sh p clear) k barrier)

-- ---- By numbers: part 1, two words in A and two in B for each entry; and a barrier, both seals with w, a barrier.

unfoldable pub log_action : Shape → List ℕ → ℕ → Action
log_action sh src k =
    let o : ℕ = entry_size * (k / 4) + 8 * (k % 2) in
    Store (cond (ltb (k % 4) 2) (log_a sh) (log_b sh) + log_head + o) (word src o)

unfoldable pub seal_action : Shape → ℕ → ℕ → Action
seal_action sh w k = cond (eqb k 1) (Store (log_a sh) w) (cond (eqb k 2) (Store (log_b sh) w) Barrier)

-- What step k of parts 3 to 5 asks: a whole pool, the entries in src; and while data or parity is stored, targets that fit.
pub record Ready (sh : Shape) (p src : List ℕ) (at n k : ℕ) : Type 0 where
  pub whole : length p ≡ pool_size sh
  pub few : n ≤ entry_limit
  pub held : at + 16 * n ≤ length src
  pub right : k < 2 * n + 1 → all_fit sh (read src at n) ≡ true
