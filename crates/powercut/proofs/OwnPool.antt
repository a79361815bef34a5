-- A RECORD KNOWS ITS POOL, proved: `own-pool`. Assumes nothing.
use Prim.Native.Nat.{ℕ}
use mathlib.Core.Path.{◌≡◌, refl, sym, ap, ◌∙◌}
use mathlib.Core.Logic.{◌≢◌}
use mathlib.Core.Bool.{true}
use mathlib.Core.Option.{Option, none, some}
use mathlib.Core.List.{List, ◌++◌}
use lib.ListN.{length}
use borrow.Author.Tests.{eqb-true, le-ltb, ne_eqb}
use Rattle.rules.specs.Shape.{staging_size}
use Rattle.rules.specs.Test.{Test, first}
use Rattle.rules.specs.Header.{id_in, open_tests}
use Rattle.rules.specs.Answer.{After, Given, conclude, is_refused, refused}
use Rattle.rules.specs.Plan.{Call}
use Rattle.rules.specs.Calls.{call, call_tests, record_tests, staged}
use Rattle.rules.proofs.Bool.{split}
use Rattle.rules.proofs.Test.{first-left, first-passed, first-right, not-not, passed-left, passed-right}
use Rattle.rules.proofs.Header.{id-not-0}
use Rattle.powercut.specs.Commit.{commit_on, commit_start, commit_step, commit_tests}
use Rattle.powercut.specs.Recovery.{Recovery, RecoveryAfter, conclude_recovery, recovery_on, recovery_step, recovery_tests}
use Rattle.powercut.specs.Advance.{commit_made, recovery_made}
use Rattle.powercut.specs.OwnPool.{OtherPool, OtherRecovery, OwnPool}
use Rattle.powercut.proofs.Answers.{again-possible}
use Rattle.powercut.proofs.Refusals.{refused-is}
use Rattle.powercut.proofs.CommitOn.{accepted-place, commit-advances}
use Rattle.powercut.proofs.RecoveryOn.{recovery-advances, recovery-on}

-- ---- 11

record-other : (g : Given) → OtherPool g → first (record_tests g) ≡ some 11
unfolding record_tests first
record-other g o =
    first-right (open_tests g.pool) _ (first-passed (open_tests g.pool) o.opens)
    ∙ rw (le-ltb (length g.staging) staging_size o.room, o.possible, ne_eqb g.txn.id (id_in g.pool) o.other)

conclude-first : (g : Given) (us : List Test) (a : After) → OtherPool g → conclude g (first (record_tests g ++ us)) a ≡ record { answer = refused 11; left = g }
unfolding conclude
conclude-first g us a o = rw (first-left (record_tests g) us 11 (record-other g o))

call-other : (k : Call) (g : Given) → OtherPool g → call g k ≡ record { answer = refused 11; left = g }
unfolding call call_tests
call-other k g o = conclude-first g _ _ o

start-other : (g : Given) → OtherPool g → commit_start g ≡ record { answer = refused 11; left = g }
unfolding commit_start
start-other g o = conclude-first g _ _ o

step_other : (g : Given) → OtherPool g → commit_step g ≡ record { answer = refused 11; left = g }
unfolding commit_step commit_tests
step_other g o = conclude-first g _ _ o

on-other : (g : Given) → OtherPool g → commit_on g ≡ record { answer = refused 11; left = g }
on-other g o = (commit-advances g).refuses 11 (ap (λ (x : After). x.answer) (step_other g o))

recovery-other : (p : List ℕ) (r : Recovery) → OtherRecovery p r → first (recovery_tests p r) ≡ some 11
unfolding recovery_tests first
recovery-other p r o = first-right (open_tests p) _ (first-passed (open_tests p) o.opens) ∙ rw (o.possible, ne_eqb r.id (id_in p) o.other)

again-other : (p : List ℕ) (r : Recovery) → OtherRecovery p r → recovery_step p r ≡ record { answer = refused 11; pool = p; recovery = r }
unfolding recovery_step conclude_recovery
again-other p r o = rw (recovery-other p r o)

again-on-other : (p : List ℕ) (r : Recovery) → OtherRecovery p r → recovery_on p r ≡ record { answer = refused 11; pool = p; recovery = r }
again-on-other p r o = (recovery-advances p r).refuses 11 (ap (λ (x : RecoveryAfter). x.answer) (again-other p r o))

-- ---- id 0

-- a record with id 0 passes no list of tests that begins with these
record-0 : (g : Given) (us : List Test) → g.txn.id ≡ 0 → first (record_tests g ++ us) ≢ none
unfolding record_tests
record-0 g us z e =
    let t = passed-left (record_tests g) us (first-passed (record_tests g ++ us) e) in
    let i = (passed-right (open_tests g.pool) _ t).1.1.0 in
    id-not-0 g.pool (passed-left (open_tests g.pool) _ t) (sym (eqb-true g.txn.id (id_in g.pool) (not-not _ i)) ∙ z)

conclude-some : (g : Given) (r : Option ℕ) (a : After) → r ≢ none → is_refused (conclude g r a).answer ≡ true
unfolding conclude is_refused
conclude-some g none a n = absurd (n refl)
conclude-some g (some m) a n = refl

call-0 : (k : Call) (g : Given) → g.txn.id ≡ 0 → is_refused (call g k).answer ≡ true
unfolding call call_tests
call-0 k g z = conclude-some g _ _ (record-0 g _ z)

start-0 : (g : Given) → g.txn.id ≡ 0 → is_refused (commit_start g).answer ≡ true
unfolding commit_start
start-0 g z = conclude-some g _ _ (record-0 g _ z)

step-0 : (g : Given) → g.txn.id ≡ 0 → is_refused (commit_step g).answer ≡ true
unfolding commit_step commit_tests
step-0 g z = conclude-some g _ _ (record-0 g _ z)

on-0 : (g : Given) → g.txn.id ≡ 0 → is_refused (commit_on g).answer ≡ true
unfolding is_refused
on-0 g z = let w = refused-is (commit_step g).answer (step-0 g z) in ap (λ (x : After). is_refused x.answer) ((commit-advances g).refuses w.0 w.1)

recovery-0 : (p : List ℕ) (r : Recovery) → r.id ≡ 0 → first (recovery_tests p r) ≢ none
recovery-0 p r z e = let t = again-possible p r e in id-not-0 p t.0 (sym t.3 ∙ z)

conclude-recovery-some : (p : List ℕ) (r : Recovery) (o : Option ℕ) (a : RecoveryAfter) → o ≢ none → is_refused (conclude_recovery p r o a).answer ≡ true
unfolding conclude_recovery is_refused
conclude-recovery-some p r none a n = absurd (n refl)
conclude-recovery-some p r (some m) a n = refl

again-0 : (p : List ℕ) (r : Recovery) → r.id ≡ 0 → is_refused (recovery_step p r).answer ≡ true
unfolding recovery_step
again-0 p r z = conclude-recovery-some p r _ _ (recovery-0 p r z)

again-on-0 : (p : List ℕ) (r : Recovery) → r.id ≡ 0 → is_refused (recovery_on p r).answer ≡ true
unfolding is_refused
again-on-0 p r z = let w = refused-is (recovery_step p r).answer (again-0 p r z) in ap (λ (x : RecoveryAfter). is_refused x.answer) ((recovery-advances p r).refuses w.0 w.1)

-- ---- the id stays

conclude-id : (g : Given) (r : Option ℕ) (a : After) → a.left.txn.id ≡ g.txn.id → (conclude g r a).left.txn.id ≡ g.txn.id
unfolding conclude
conclude-id g none a e = e
conclude-id g (some n) a e = refl

call-id : (k : Call) (g : Given) → (call g k).left.txn.id ≡ g.txn.id
unfolding call staged
call-id k g = conclude-id g _ _ refl

start-id : (g : Given) → (commit_start g).left.txn.id ≡ g.txn.id
unfolding commit_start
start-id g = conclude-id g _ _ refl

step-id : (g : Given) → (commit_step g).left.txn.id ≡ g.txn.id
unfolding commit_step
step-id g = conclude-id g _ _ refl

on-id : (g : Given) → (commit_on g).left.txn.id ≡ g.txn.id
unfolding commit_made
on-id g = split (is_refused (commit_step g).answer)
    (λ h. let w = refused-is (commit_step g).answer h in ap (λ (x : After). x.left.txn.id) ((commit-advances g).refuses w.0 w.1))
    (λ h. let w = accepted-place g h in ap (λ (x : After). x.left.txn.id) ((commit-advances g).makes w.0 w.1 h))

conclude-recovery-id : (p : List ℕ) (r : Recovery) (o : Option ℕ) (a : RecoveryAfter) → a.recovery.id ≡ r.id → (conclude_recovery p r o a).recovery.id ≡ r.id
unfolding conclude_recovery
conclude-recovery-id p r none a e = e
conclude-recovery-id p r (some n) a e = refl

again-id : (p : List ℕ) (r : Recovery) → (recovery_step p r).recovery.id ≡ r.id
unfolding recovery_step
again-id p r = conclude-recovery-id p r _ _ refl

again-on-id : (p : List ℕ) (r : Recovery) → (recovery_on p r).recovery.id ≡ r.id
unfolding recovery_made
again-on-id p r = ap (λ (x : RecoveryAfter). x.recovery.id) (recovery-on p r) ∙ conclude-recovery-id p r _ _ refl

pub own-pool : OwnPool
own-pool = record {
  others = (call-other, start-other, step_other, on-other);
  other-recoveries = (again-other, again-on-other);
  ids = λ p e. id-not-0 p (first-passed (open_tests p) e);
  unusables = (call-0, start-0, step-0, on-0);
  idles = (again-0, again-on-0);
  keeps = (call-id, start-id, step-id, on-id);
  recoveries-keep = (again-id, again-on-id);
}
