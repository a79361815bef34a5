-- What a caller uses: when a commit or a replay is ready for its step, and that the action applied is that step. Assumes nothing.
use mathlib.Core.Path.{◌≡◌, refl, ap, ◌∙◌}
use mathlib.Core.Bool.{true}
use mathlib.Core.List.{List}
use Prim.Native.Nat.{ℕ, ◌+◌, ◌*◌, ◌≤◌, ◌<◌}
use native.Mathlib.Omega.{arith}
use lib.ListN.{length, get_or}
use Rattle.rules.specs.Words.{word}
use Rattle.rules.specs.Shape.{Shape, entry_limit, entry_size, log_head, pool_size, staging_size}
use Rattle.rules.specs.Staging.{entries_at, good_targets}
use Rattle.powercut.specs.Log.{Log, count_in, log_at, valid}
use Rattle.powercut.specs.Steps.{Step, barrier, clear, commit_steps, recovery_steps, replay, step_pool}
use Rattle.powercut.specs.Commit.{made_answer}
use Rattle.powercut.proofs.Logs.{log-targets}
use Rattle.pool_log.specs.Targets.{all_fit, read}
use Rattle.actions.specs.declared.Action.{Action}
use Rattle.actions.specs.declared.Action.TheVariants.{Barrier, Store}
use Rattle.actions.specs.Actions.{Computed, Ready, action_of, answer_of, applied, clear_action, commit_action, redo_action, told_of}
use Rattle.answers.specs.Meaning as Answers
use Rattle.actions.proofs.Actions.{answer-step, applied-step}

module _ (sh : Shape) (p : List ℕ) where
  -- ---- the step by its number

  pub commit-step : (src : List ℕ) (n k : ℕ) → commit_action sh p src n k ≡ action_of sh p (get_or (commit_steps sh (entries_at src 0 n)) k barrier)
  unfolding commit_action read
  commit-step src n k = refl

  pub replay-step : (l : Log) (n k : ℕ) → redo_action sh p p (log_at sh l + log_head) n k ≡ action_of sh p (get_or (recovery_steps sh p (replay l n)) k barrier)
  unfolding redo_action read recovery_steps
  replay-step l n k = refl

  pub clear_step : (k : ℕ) → clear_action sh p k ≡ action_of sh p (get_or (recovery_steps sh p clear) k barrier)
  unfolding clear_action
  clear_step k = refl

  -- its action leaves the pool that it leaves, and tells its answer
  pub computed-pool : (x : Step) (a r : Action) (m : ℕ) → Computed a m r → a ≡ action_of sh p x → applied r p ≡ step_pool sh x p
  computed-pool x a r m c e = ap (λ (z : Action). applied z p) (c.value ∙ e) ∙ applied-step sh x p

  pub computed-answer : (x : Step) (a r : Action) (m k : ℕ) → Computed a m r → a ≡ action_of sh p x → answer_of k r ≡ made_answer k x
  computed-answer x a r m k c e = ap (answer_of k) (c.value ∙ e) ∙ answer-step sh p k x

  -- ---- ready

  module _ (whole : length p ≡ pool_size sh) where
    pub ready-staged : (staging : List ℕ) (n k : ℕ) → n ≤ entry_limit → staging_size ≤ length staging → good_targets sh (entries_at staging 0 n) ≡ true → Ready sh p staging 0 n k
    unfolding all_fit read
    ready-staged staging n k f l e = record { whole = whole; few = f; held = omega arith; right = λ u. e }

    -- the log at b with the count n, kept while data or parity is stored
    pub ready-log : (b n k : ℕ) → b + log_head + entry_size * entry_limit ≤ length p → n ≤ entry_limit → (k < 2 * n + 1 → (valid sh p b ≡ true) × (count_in (word p b) ≡ n)) → Ready sh p p (b + log_head) n k
    unfolding all_fit read
    ready-log b n k l f h = record { whole = whole; few = f; held = omega arith; right = λ u. rw (← (h u).1) (log-targets sh p b (h u).0) }

-- the code's answer is the paper's
pub told-answer : (k : ℕ) (a : Action) → Answers.answer_of (told_of k a) ≡ answer_of k a
told-answer k (Store at v) = refl
told-answer k Barrier = refl
