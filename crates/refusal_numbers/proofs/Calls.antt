-- THE CALLS REFUSE WITH LISTED NUMBERS ALONE, proved: `calls-refuse`. Assumes nothing.
use Prim.Native.Nat.{ℕ, zero, suc}
use mathlib.Core.Path.{◌≡◌, refl}
use mathlib.Core.Bool.{true}
use Rattle.std.proofs.lemmas.Bool.{cond_both}
use mathlib.Core.Option.{Option, none, some}
use mathlib.Core.List.{List}
use lib.ListN.{length}
use Rattle.refusals.specs.Listed.{is_listed}
use Rattle.rules.specs.Shape.{shape}
use Rattle.rules.specs.Header.{shape_in}
use Rattle.rules.specs.Staging.{Transaction, lay}
use Rattle.rules.specs.Answer.{After, Given, is_refused, refused}
use Rattle.rules.specs.Plan.{Call, Plan, plan}
use Rattle.rules.specs.Calls.{call, call_tests, conclude_start, entries_in, live_tests, record_tests, transaction_start}
use Rattle.rules.specs.Format.{formatted}
use Rattle.rules.specs.Mend.{mend_header}
use Rattle.rules.specs.Look.{look, look_tests}
use Rattle.rules.specs.Tag.{look_up}
use Rattle.rules.specs.Scrub.{conclude_scrub, counts, scrub}
use Rattle.rules.specs.Scrub as Scrubbing
use Rattle.rules.specs.Repair.{conclude_repair, repair}
use Rattle.rules.specs.Repair as Repairing
use Rattle.powercut.specs.Steps.{Remedy, clear, neither, nothing, remedy, replay}
use Rattle.powercut.specs.Commit.{commit_list, commit_more, commit_next, commit_on, commit_start, commit_step, is_stored, place_in}
use Rattle.powercut.specs.Recovery.{Recovery, RecoveryAfter, conclude_recovery, done_steps, idle, recovery_list, recovery_more, recovery_next, recovery_on, recovery_start, recovery_step, start_recovery}
use Rattle.powercut.proofs.Answers.{answer-not-refused, start-not-refused}
use Rattle.setups.specs.Setups.{conclude_save, recalled, saved, unsaved}
use Rattle.refusal_numbers.specs.Listed.{CallsRefuse, ListedNumber}
use Rattle.refusal_numbers.proofs.Numbers.{accepted-listed, conclude-listed, conclude-pool-listed, first-listed, listed-join}
use Rattle.refusal_numbers.proofs.Tests.{commit-listed, format-listed, live-listed, look-up-listed, object-listed, open-listed, read-listed, recall-listed, record-listed, recovery-listed, repair-listed, save-listed}
use Rattle.refusal_numbers.proofs.Parts.{look-listed, plan-answer-listed, plan-listed, up-listed}

-- ---- repair and scrub

repaired-listed : (p : List ℕ) (o : Option ℕ) (q : List ℕ) → ListedNumber some o → ListedNumber Repairing.refused (conclude_repair p o q).answer
unfolding conclude_repair
repaired-listed p none q h n e = cc
repaired-listed p (some m) q h n e = h n cc

scrubbed-listed : (o : Option ℕ) (a b c d : ℕ) → ListedNumber some o → ListedNumber Scrubbing.refused (conclude_scrub o (counts a b c d))
unfolding conclude_scrub
scrubbed-listed none a b c d h n e = cc
scrubbed-listed (some m) a b c d h n e = h n cc

-- ---- a transaction

start-listed : (o : Option ℕ) (t : Transaction) → ListedNumber some o → ListedNumber refused (conclude_start o t).answer
unfolding conclude_start
start-listed none t h n e = cc
start-listed (some m) t h n e = h n cc

pub begins-listed : (p : List ℕ) → ListedNumber refused (transaction_start p).answer
unfolding transaction_start
begins-listed p = start-listed _ _ (first-listed _ (read-listed p))

pub call-listed : (g : Given) (k : Call) → ListedNumber refused (call g k).answer
unfolding call call_tests is_listed
call-listed g k =
    let v : List ℕ = lay g.pool (entries_in g) in
    let p : Plan = plan (shape_in g.pool) v (entries_in g) k in
    conclude-listed g _ _
    (first-listed _
    (listed-join (record_tests g) _ (record-listed g)
    (listed-join (live_tests g) _ (live-listed g)
    (listed-join p.tests _ (plan-listed (shape_in g.pool) v (entries_in g) k) (refl, tt)))))
    (plan-answer-listed (shape_in g.pool) v (entries_in g) k)

-- ---- a commit

pub starts-listed : (g : Given) → ListedNumber refused (commit_start g).answer
unfolding commit_start
starts-listed g =
    conclude-listed g _ _ (first-listed _ (listed-join (record_tests g) (live_tests g) (record-listed g) (live-listed g))) (accepted-listed _ (start-not-refused g.txn.count))

pub step-listed : (g : Given) → ListedNumber refused (commit_step g).answer
unfolding commit_step
step-listed g =
    conclude-listed g _ _ (first-listed _ (commit-listed g))
    (accepted-listed _ (answer-not-refused (place_in g.txn.phase) (length (commit_list g)) (commit_next g)))

commit-more-listed : (n : ℕ) (x : After) → ListedNumber refused x.answer → ListedNumber refused (commit_more n x).answer
unfolding commit_more
commit-more-listed zero x h = h
commit-more-listed (suc n) x h =
    cond_both (is_stored x.answer) _ x (λ (y : After). ListedNumber refused y.answer) (λ t. commit-more-listed n (commit_step x.left) (step-listed x.left)) (λ f. h)

pub advance-listed : (g : Given) → ListedNumber refused (commit_on g).answer
unfolding commit_on
advance-listed g = commit-more-listed _ (commit_step g) (step-listed g)

-- ---- a recovery

recovery-concluded : (p : List ℕ) (r : Recovery) (o : Option ℕ) (x : RecoveryAfter) → ListedNumber some o → ListedNumber refused x.answer → ListedNumber refused (conclude_recovery p r o x).answer
unfolding conclude_recovery
recovery-concluded p r none x h k = k
recovery-concluded p r (some m) x h k = λ n e. h n cc

remedy-listed : (p : List ℕ) (q : Remedy) → ListedNumber refused (start_recovery p q).answer
unfolding start_recovery is_listed
remedy-listed p (replay l m) n e = cc
remedy-listed p clear n e = cc
remedy-listed p nothing n e = cc
remedy-listed p neither n e = let h : is_listed 22 ≡ true = refl in cc

pub restart-listed : (p : List ℕ) → ListedNumber refused (recovery_start p).answer
unfolding recovery_start
restart-listed p = recovery-concluded p idle _ _ (first-listed _ (open-listed p)) (remedy-listed p (remedy (shape_in p) p))

resume-listed : (p : List ℕ) (r : Recovery) → ListedNumber refused (recovery_step p r).answer
unfolding recovery_step
resume-listed p r =
    recovery-concluded p r _ _ (first-listed _ (recovery-listed p r))
    (accepted-listed _ (answer-not-refused (done_steps r.phase) (length (recovery_list p r)) (recovery_next p r)))

recovery-more-listed : (n : ℕ) (x : RecoveryAfter) → ListedNumber refused x.answer → ListedNumber refused (recovery_more n x).answer
unfolding recovery_more
recovery-more-listed zero x h = h
recovery-more-listed (suc n) x h =
    cond_both (is_stored x.answer) _ x (λ (y : RecoveryAfter). ListedNumber refused y.answer)
    (λ t. recovery-more-listed n (recovery_step x.pool x.recovery) (resume-listed x.pool x.recovery)) (λ f. h)

pub recovery-on-listed : (p : List ℕ) (r : Recovery) → ListedNumber refused (recovery_on p r).answer
unfolding recovery_on
recovery-on-listed p r = recovery-more-listed _ (recovery_step p r) (resume-listed p r)

-- ---- a set-up

save-concluded : (pool staging : List ℕ) (o : Option ℕ) (x : After) → ListedNumber some o → ListedNumber refused x.answer → ListedNumber refused (conclude_save pool staging o x).answer
unfolding conclude_save unsaved
save-concluded pool staging none x h k = cond_both (is_refused x.answer) _ x (λ (y : After). ListedNumber refused y.answer) (λ t. k) (λ f. k)
save-concluded pool staging (some m) x h k = λ n e. h n cc

saves-listed : (pool staging : List ℕ) (n : ℕ) (body : List ℕ) → ListedNumber refused (saved pool staging n body).answer
unfolding saved
saves-listed pool staging n body = save-concluded pool staging _ _ (first-listed _ (save-listed pool staging n body)) (call-listed _ _)

pub calls-refuse : CallsRefuse
unfolding formatted mend_header repair scrub look look_tests look_up recalled
calls-refuse = record {
  formats = λ p R C Z id. conclude-pool-listed p _ _ (first-listed _ (format-listed p (shape R C Z) id));
  mends = λ p. conclude-pool-listed p _ _ (first-listed _ (open-listed p));
  repairs = λ p ms. repaired-listed p _ _ (first-listed _ (repair-listed p ms));
  looks = λ p a. look-listed _ _ _ (first-listed _ (listed-join _ _ (read-listed p) (object-listed (shape_in p) p a)));
  looks-up = λ p tag from. up-listed _ _ (first-listed _ (look-up-listed p));
  scrubs = λ p. scrubbed-listed _ _ _ _ _ (first-listed _ (read-listed p));
  begins = begins-listed;
  stages = call-listed;
  starts = starts-listed;
  steps = step-listed;
  advances = advance-listed;
  restarts = restart-listed;
  resumes = resume-listed;
  readvances = recovery-on-listed;
  saves = saves-listed;
  recalls = λ pool n. look-listed _ _ _ (first-listed _ (recall-listed pool n));
}
