-- REQUIREMENT 1 for commit and recovery: a refused call leaves pool, staging and record as given. Assumes nothing.
use Prim.Native.Nat.{ℕ}
use mathlib.Core.Path.{◌≡◌, refl}
use mathlib.Core.Bool.{true, false}
use mathlib.Core.Option.{Option, none, some}
use mathlib.Core.List.{List}
use native.Mathlib.Omega.{arith}
use Rattle.rules.specs.Test.{first}
use Rattle.rules.specs.Header.{open_tests, shape_in}
use Rattle.rules.specs.Answer.{Answer, Given, address, done, is_refused, passed, refused, started, stored, taken}
use Rattle.rules.proofs.Transaction.{conclude-refused}
use Rattle.powercut.specs.Steps.{Remedy, clear, neither, nothing, remedy, replay}
use Rattle.powercut.specs.Commit.{commit_start, commit_step}
use Rattle.powercut.specs.Recovery.{Recovery, RecoveryAfter, conclude_recovery, idle, recovery_start, recovery_step, start_recovery}
use Rattle.powercut.proofs.Answers.{answer-not-refused, start-not-refused}

pub refused-is : (a : Answer) → is_refused a ≡ true → (n : ℕ) × (a ≡ refused n)
unfolding is_refused
refused-is (address a) e = (0, cc)
refused-is taken e = (0, cc)
refused-is started e = (0, cc)
refused-is (stored k) e = (0, cc)
refused-is (passed k) e = (0, cc)
refused-is (done k) e = (0, cc)
refused-is (refused n) e = (n, refl)

pub start-refused : (g : Given) → is_refused (commit_start g).answer ≡ true → (commit_start g).left ≡ g
unfolding commit_start
start-refused g e = conclude-refused g _ _ (start-not-refused g.txn.count) e

pub step-refused : (g : Given) → is_refused (commit_step g).answer ≡ true → (commit_step g).left ≡ g
unfolding commit_step
step-refused g e = conclude-refused g _ _ (answer-not-refused _ _ _) e

recovery-kept : (p : List ℕ) (r : Recovery) (o : Option ℕ) (a : RecoveryAfter) → is_refused a.answer ≡ false → is_refused (conclude_recovery p r o a).answer ≡ true
    → ((conclude_recovery p r o a).pool ≡ p) × ((conclude_recovery p r o a).recovery ≡ r)
unfolding conclude_recovery is_refused
recovery-kept p r none a f e = absurd (let z : ◌≡◌ {A = ℕ} 0 1 = cc in omega arith)
recovery-kept p r (some n) a f e = (refl, refl)

begun-pool : (p : List ℕ) (q : Remedy) → (start_recovery p q).pool ≡ p
unfolding start_recovery
begun-pool p (replay l n) = refl
begun-pool p clear = refl
begun-pool p nothing = refl
begun-pool p neither = refl

-- a start makes no store, refused or not
pub recovery-start-pool : (p : List ℕ) → (recovery_start p).pool ≡ p
unfolding recovery_start conclude_recovery
recovery-start-pool p = go (first (open_tests p))
  where
    go : (o : Option ℕ) → (conclude_recovery p idle o (start_recovery p (remedy (shape_in p) p))).pool ≡ p
    go none = begun-pool p (remedy (shape_in p) p)
    go (some n) = refl

pub recovery-step-refused : (p : List ℕ) (r : Recovery) → is_refused (recovery_step p r).answer ≡ true → ((recovery_step p r).pool ≡ p) × ((recovery_step p r).recovery ≡ r)
unfolding recovery_step
recovery-step-refused p r e = recovery-kept p r _ _ (answer-not-refused _ _ _) e
