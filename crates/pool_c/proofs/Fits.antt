-- The record that a call hands back goes out in 8-byte numbers where the record given did: a refusal hands back the given one, and a step
-- comes to a place of its list. Assumes nothing.
use Prim.Native.Nat.{ℕ, zero, suc, ◌≤◌, ◌<◌}
use mathlib.Core.Path.{◌≡◌, refl}
use mathlib.Core.Bool.{false, ◌&&◌, ◌||◌}
use mathlib.Core.Option.{Option, none, some}
use mathlib.Core.List.{List}
use native.Mathlib.Omega.{arith}
use lib.Dec.{eqb, ltb}
use lib.ListN.{length}
use borrow.Author.Tests.{leb-false, ltb-false}
use Rattle.rules.specs.Words.{word}
use Rattle.rules.specs.Shape.{Shape, entry_limit, log_a, log_b}
use Rattle.rules.specs.Test.{first}
use Rattle.rules.specs.Header.{id_in, open_tests, shape_in}
use Rattle.rules.specs.Seals.{read_tests}
use Rattle.rules.specs.Staging.{Phase, closed, commit_length, committing, fresh, impossible, live, past_commit}
use Rattle.rules.specs.Answer.{After, Given, conclude, is_refused}
use Rattle.rules.specs.Plan.{Call}
use Rattle.rules.specs.Calls.{begun, call, conclude_start, record_tests, staged, transaction_start}
use Rattle.rules.proofs.Bool.{or-false, split}
use Rattle.rules.proofs.Test.{first-passed, passed-left, passed-right}
use Rattle.powercut.specs.Log.{count_in, valid}
use Rattle.powercut.specs.Steps.{Remedy, clear, neither, nothing, remedy, replay}
use Rattle.powercut.specs.Commit.{commit_list, commit_more, commit_on, commit_start, commit_step, commit_tests, is_stored, next_phase, place_in, start_phase}
use Rattle.powercut.specs.Recovery.{Recovery, RecoveryAfter, conclude_recovery, done_steps, next_progress, recovery_list, recovery_more, recovery_on, recovery_start, recovery_step, start_recovery}
use Rattle.powercut.proofs.Answers.{again-inside}
use Rattle.setups.specs.Setups.{conclude_save, save_call, save_tests, saved, unsaved}
use Rattle.pool_c.specs.Meaning.{Fits64, phase_out, progress_out, work_out}

-- ---- a transaction

-- what a call leaves of a transaction whose phase fits is one whose phase fits
abbrev pub Keeps : (Given → After) → Type 0
Keeps f = (g : Given) → Fits64 (phase_out g.txn.phase) → Fits64 (phase_out (f g).left.txn.phase)

conclude-fits : (g : Given) (o : Option ℕ) (x : After) → Fits64 (phase_out g.txn.phase) → (o ≡ none → Fits64 (phase_out x.left.txn.phase))
    → Fits64 (phase_out (conclude g o x).left.txn.phase)
unfolding conclude
conclude-fits g none x h k = k refl
conclude-fits g (some n) x h k = h

pub begin-fits : (p : List ℕ) → Fits64 (phase_out (transaction_start p).txn.phase)
unfolding transaction_start
begin-fits p = go (first (read_tests p))
  where
    go : (o : Option ℕ) → Fits64 (phase_out (conclude_start o (fresh (id_in p))).txn.phase)
    go none = unfold conclude_start in omega arith
    go (some n) = unfold conclude_start in omega arith

pub call_fits : (k : Call) → Keeps (λ (g : Given). call g k)
unfolding call staged
call_fits k g h = conclude-fits g _ _ h (λ e. omega arith)

pub save-fits : (p st : List ℕ) (n : ℕ) (body : List ℕ) → Fits64 (phase_out (saved p st n body).left.txn.phase)
unfolding saved begun
save-fits p st n body = concluded (first (save_tests p st n body)) (call (begun p st) (save_call p n body)) (call_fits (save_call p n body) (begun p st) (begin-fits p))
  where
    concluded : (o : Option ℕ) (x : After) → Fits64 (phase_out x.left.txn.phase) → Fits64 (phase_out (conclude_save p st o x).left.txn.phase)
    concluded none x h = unfold conclude_save unsaved in split (is_refused x.answer) (λ e. rw e (omega arith)) (λ e. rw e h)
    concluded (some m) x h = unfold conclude_save unsaved in omega arith

pub start_fits : Keeps commit_start
unfolding commit_start
start_fits g h = conclude-fits g _ _ h (λ e. started g.txn.count)
  where
    started : (n : ℕ) → Fits64 (phase_out (start_phase n))
    started zero = unfold start_phase in omega arith
    started (suc n) = unfold start_phase in omega arith

place-few : (n : ℕ) (f : Phase) → n ≤ entry_limit → past_commit n f ≡ false → place_in f < 771
unfolding place_in past_commit
place-few n live l e = omega arith
place-few n closed l e = omega arith
place-few n (committing k) l e = few n l (leb-false (commit_length n) k e)
  where
    few : (n : ℕ) → n ≤ entry_limit → k < commit_length n → k < 771
    few zero l h = unfold commit_length in omega arith
    few (suc n) l h = unfold commit_length in omega arith

possible-few : (sh : Shape) (st : List ℕ) (n : ℕ) (f : Phase) → impossible sh st n f ≡ false → place_in f < 771
unfolding impossible
possible-few sh st n f e =
    let a = or-false (ltb entry_limit n) _ e in
    let b = or-false (past_commit n f) _ a.1 in
    place-few n f (ltb-false entry_limit n a.0) b.0

next_fits : (k n : ℕ) → k < 771 → Fits64 (phase_out (next_phase k n))
unfolding next_phase
next_fits k n l = split (eqb (suc k) n) (λ e. rw e (omega arith)) (λ e. rw e (omega arith))

pub step_fits : Keeps commit_step
unfolding commit_step commit_tests record_tests
step_fits g h = conclude-fits g _ _ h (λ e.
    let p = passed-right (open_tests g.pool) _ (passed-left (record_tests g) _ (first-passed _ e)) in
    next_fits (place_in g.txn.phase) (length (commit_list g)) (possible-few (shape_in g.pool) g.staging g.txn.count g.txn.phase p.1.0))

more-fits : (m : ℕ) (x : After) → Fits64 (phase_out x.left.txn.phase) → Fits64 (phase_out (commit_more m x).left.txn.phase)
unfolding commit_more
more-fits zero x h = h
more-fits (suc m) x h = split (is_stored x.answer) (λ e. rw e (more-fits m (commit_step x.left) (step_fits x.left h))) (λ e. rw e h)

pub advance-fits : Keeps commit_on
unfolding commit_on
advance-fits g h = more-fits _ (commit_step g) (step_fits g h)

-- ---- a recovery

abbrev pub Fits : Recovery → Type 0
Fits r = Fits64 (work_out r.work) × Fits64 (progress_out r.phase)

conclude-recovery-fits : (p : List ℕ) (r : Recovery) (o : Option ℕ) (x : RecoveryAfter) → Fits r → (o ≡ none → Fits x.recovery) → Fits (conclude_recovery p r o x).recovery
unfolding conclude_recovery
conclude-recovery-fits p r none x h k = k refl
conclude-recovery-fits p r (some n) x h k = h

-- a count is a number of 2 bytes
count-few : (w : ℕ) → count_in w < 65536
unfolding count_in
count-few w = omega arith

remedy-fits : (sh : Shape) (p : List ℕ) → Fits64 (work_out (remedy sh p))
unfolding remedy
remedy-fits sh p = split (valid sh p (log_a sh)) (λ e. rw e (let a = count-few (word p (log_a sh)) in omega arith))
    (λ e. rw e (split (valid sh p (log_b sh)) (λ f. rw f (let a = count-few (word p (log_b sh)) in omega arith))
    (λ f. rw f (split (eqb (word p (log_a sh)) 0 && eqb (word p (log_b sh)) 0) (λ i. rw i (omega arith))
    (λ i. rw i (split (eqb (word p (log_a sh)) 0 || eqb (word p (log_b sh)) 0) (λ j. rw j (omega arith)) (λ j. rw j (omega arith))))))))

begun-fits : (p : List ℕ) (w : Remedy) → Fits64 (work_out w) → Fits (start_recovery p w).recovery
unfolding start_recovery
begun-fits p (replay l n) h = (h, omega arith)
begun-fits p clear h = (h, omega arith)
begun-fits p nothing h = (h, omega arith)
begun-fits p neither h = (h, omega arith)

pub recovery-start-fits : (p : List ℕ) → Fits (recovery_start p).recovery
unfolding recovery_start
recovery-start-fits p = conclude-recovery-fits p _ _ _ (omega arith, omega arith) (λ e. begun-fits p _ (remedy-fits (shape_in p) p))

next-progress-fits : (k n : ℕ) → k < 259 → Fits64 (progress_out (next_progress k n))
unfolding next_progress
next-progress-fits k n l = split (eqb (suc k) n) (λ e. rw e (omega arith)) (λ e. rw e (omega arith))

-- what a call leaves of a recovery that fits is one that fits
abbrev pub KeepsFits : (List ℕ → Recovery → RecoveryAfter) → Type 0
KeepsFits f = (p : List ℕ) (r : Recovery) → Fits r → Fits (f p r).recovery

pub recovery-step-fits : KeepsFits recovery_step
unfolding recovery_step
recovery-step-fits p r h = conclude-recovery-fits p r _ _ h (λ e.
    let i = again-inside p r e in
    (h.0, next-progress-fits (done_steps r.phase) (length (recovery_list p r)) (omega arith)))

recovery-more-fits : (m : ℕ) (x : RecoveryAfter) → Fits x.recovery → Fits (recovery_more m x).recovery
unfolding recovery_more
recovery-more-fits zero x h = h
recovery-more-fits (suc m) x h =
    split (is_stored x.answer) (λ e. rw e (recovery-more-fits m (recovery_step x.pool x.recovery) (recovery-step-fits x.pool x.recovery h))) (λ e. rw e h)

pub recovery-advance-fits : KeepsFits recovery_on
unfolding recovery_on
recovery-advance-fits p r h = recovery-more-fits _ (recovery_step p r) (recovery-step-fits p r h)
