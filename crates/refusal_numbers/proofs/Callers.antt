-- THE CALLERS OF THE CALLS REFUSE WITH LISTED NUMBERS ALONE, proved: `callers-refuse`. Assumes nothing.
use Prim.Native.Nat.{ℕ, zero, suc}
use mathlib.Core.List.{List}
use Rattle.std.proofs.lemmas.Bool.{cond_both}
use Rattle.rules.specs.Answer.{After, Given, is_refused, refused}
use Rattle.rules.specs.Calls.{transaction_start}
use Rattle.powercut.specs.Commit.{commit_on, commit_start, commit_step}
use Rattle.powercut.specs.Recovery.{RecoveryAfter, recovery_on, recovery_start}
use Rattle.saving.specs.Saving.{Outcome, calls_from, committed, is_done, is_end, save_on, saved, saved_as}
use Rattle.saving.specs.TakenBack.{free_on, taken_back}
use Rattle.saving.specs.Recovering.{recovered, recovery_from}
use Rattle.refusal_numbers.specs.Listed.{CallersRefuse, ListedNumber}
use Rattle.refusal_numbers.proofs.Calls.{advance-listed, begins-listed, call-listed, recovery-on-listed, restart-listed, starts-listed, step-listed}

-- calls made one after the other, none of which refuses with another number
calls-listed : (f : Given → After) → ((g : Given) → ListedNumber refused (f g).answer) → (n : ℕ) (x : After) → ListedNumber refused x.answer → ListedNumber refused (calls_from f n x).answer
unfolding calls_from
calls-listed f l zero x h = h
calls-listed f l (suc n) x h =
    cond_both (is_end x.answer) x _ (λ (y : After). ListedNumber refused y.answer) (λ t. h) (λ u. calls-listed f l n (f x.left) (l x.left))

runs-listed : (g : Given) → ListedNumber refused (committed g).answer
unfolding committed
runs-listed g = calls-listed commit_on advance-listed 5 (commit_start g) (starts-listed g)

on-listed : (x : After) → ListedNumber refused x.answer → ListedNumber refused (save_on x).answer
unfolding save_on saved_as
on-listed x h =
    cond_both (is_refused x.answer) _ _ (λ (y : Outcome). ListedNumber refused y.answer) (λ t. h)
    (λ f. cond_both (is_done (committed x.left).answer) _ _ (ListedNumber refused) (λ t. h) (λ u. runs-listed x.left))

saves-listed : (pool staging : List ℕ) (tag : ℕ) (body : List ℕ) → ListedNumber refused (saved pool staging tag body).answer
unfolding saved
saves-listed pool staging tag body =
    cond_both (is_refused (transaction_start pool).answer) _ _ (λ (y : Outcome). ListedNumber refused y.answer) (λ t. begins-listed pool)
    (λ f. on-listed _ (call-listed _ _))

free-listed : (x : After) → ListedNumber refused x.answer → ListedNumber refused (free_on x).answer
unfolding free_on
free-listed x h = cond_both (is_refused x.answer) x _ (λ (y : After). ListedNumber refused y.answer) (λ t. h) (λ f. call-listed _ _)

takes-back-listed : (pool staging : List ℕ) (tag : ℕ) (body : List ℕ) → ListedNumber refused (taken_back pool staging tag body).answer
unfolding taken_back
takes-back-listed pool staging tag body =
    cond_both (is_refused (transaction_start pool).answer) _ _ (λ (y : After). ListedNumber refused y.answer) (λ t. begins-listed pool)
    (λ f. free-listed _ (call-listed _ _))

recovery-listed : (n : ℕ) (x : RecoveryAfter) → ListedNumber refused x.answer → ListedNumber refused (recovery_from n x).answer
unfolding recovery_from
recovery-listed zero x h = h
recovery-listed (suc n) x h =
    cond_both (is_end x.answer) x _ (λ (y : RecoveryAfter). ListedNumber refused y.answer) (λ t. h)
    (λ f. recovery-listed n (recovery_on x.pool x.recovery) (recovery-on-listed x.pool x.recovery))

recovers-listed : (p : List ℕ) → ListedNumber refused (recovered p).answer
unfolding recovered
recovers-listed p = recovery-listed 3 (recovery_start p) (restart-listed p)

pub callers-refuse : CallersRefuse
callers-refuse = record {
  steps = calls-listed commit_step step-listed;
  runs = runs-listed;
  saves = saves-listed;
  takes-back = takes-back-listed;
  recovers = recovers-listed;
}
