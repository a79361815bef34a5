-- The record that a public call hands back goes out in 8-byte numbers. Assumes nothing.
use Prim.Native.Nat.{ℕ}
use mathlib.Core.Path.{◌≡◌, sym, ap, ◌∙◌, subst}
use mathlib.Core.List.{List}
use Rattle.rules.specs.Staging as Staging
use Rattle.rules.specs.Answer.{After, Given}
use Rattle.rules.specs.Plan.{Call}
use Rattle.rules.specs.Calls.{TransactionStart, call, transaction_start}
use Rattle.powercut.specs.Recovery as Paper
use Rattle.powercut.specs.Recovery.{RecoveryAfter}
use Rattle.record.specs.Meaning.{phase_of}
use Rattle.transaction.specs.declared.Transaction as Public
use Rattle.transaction.specs.declared.Reply as PublicReply
use Rattle.transaction.specs.Meaning.{after_of, given_of, start_of, transaction_of}
use Rattle.recovery.specs.declared.Recovery as PublicRecord
use Rattle.recovery.specs.declared.Reply as PublicRecovery
use Rattle.recovery.specs.Meaning as Recovery
use Rattle.recovery.specs.Meaning.{recovery_of}
use Rattle.pool_c.specs.declared.transactions.Transaction.{Transaction}
use Rattle.pool_c.specs.declared.recoveries.Recovery as C
use Rattle.pool_c.specs.Meaning.{Fits64, given_in, phase_in, phase_out, recovery_in, transaction_in}
use Rattle.pool_c.proofs.Reading.{phase-out-in, progress-out-in, work-out-in}
use Rattle.pool_c.proofs.Fits.{Fits, Keeps, KeepsFits, begin-fits, call_fits}

-- ---- a transaction: x is what the public call hands back

pub begin-after-fits : (p : List ℕ) (x : PublicReply.Reply) → start_of x ≡ transaction_start p → Fits64 (phase_out (phase_of x.transaction.txn.phase))
begin-after-fits p x h = subst (λ (z : TransactionStart). Fits64 (phase_out z.txn.phase)) (sym h) (begin-fits p)

pub transaction-after-fits : (x : PublicReply.Reply) (q st : List ℕ) {y : After} → after_of x q st ≡ y → Fits64 (phase_out y.left.txn.phase)
    → Fits64 (phase_out (phase_of x.transaction.txn.phase))
transaction-after-fits x q st h l = subst (λ (z : After). Fits64 (phase_out z.left.txn.phase)) (sym h) l

-- f is the definition, d the transaction that t is turned into
pub after-fits : (f : Given → After) (t : Transaction) (d : Public.Transaction) (x : PublicReply.Reply) (p st q st' : List ℕ)
    → transaction_of d ≡ transaction_in t → after_of x q st' ≡ f (given_of d p st) → Keeps f → Fits64 t.phase → Fits64 (phase_out (phase_of x.transaction.txn.phase))
after-fits f t d x p st q st' e h k l =
    let given : after_of x q st' ≡ f (given_in t p st) = h ∙ ap (λ (z : Staging.Transaction). f (record { pool = p; staging = st; txn = z })) e in
    let i : Fits64 (phase_out (phase_in t.phase)) = rw phase-out-in l in
    transaction-after-fits x q st' given (k (given_in t p st) i)

-- allocate, write and free
pub call-after-fits : (k : Call) (t : Transaction) (d : Public.Transaction) (x : PublicReply.Reply) (p st st' : List ℕ)
    → transaction_of d ≡ transaction_in t → after_of x p st' ≡ call (given_of d p st) k → Fits64 t.phase → Fits64 (phase_out (phase_of x.transaction.txn.phase))
call-after-fits k t d x p st st' e h = after-fits (λ (g : Given). call g k) t d x p st p st' e h (call_fits k)

-- ---- a recovery

recovery-in-fits : (r : C.Recovery) → Fits64 r.work → Fits64 r.phase → Fits (recovery_in r)
recovery-in-fits r k l = (rw work-out-in k, rw progress-out-in l)

pub recovery-after-fits : (x : PublicRecovery.Reply) (q : List ℕ) {y : RecoveryAfter} → Recovery.after_of x q ≡ y → Fits y.recovery → Fits (recovery_of x.recovery)
recovery-after-fits x q h l = subst (λ (z : RecoveryAfter). Fits z.recovery) (sym h) l

-- a step, or all steps up to the next barrier: f is the definition, d the recovery that t is turned into, x what the public call hands back
pub recovered-fits : (f : List ℕ → Paper.Recovery → RecoveryAfter) (t : C.Recovery) (d : PublicRecord.Recovery) (x : PublicRecovery.Reply) (p q : List ℕ)
    → recovery_of d ≡ recovery_in t → Recovery.after_of x q ≡ f p (recovery_of d) → KeepsFits f → Fits64 t.work → Fits64 t.phase → Fits (recovery_of x.recovery)
recovered-fits f t d x p q e h k l m = recovery-after-fits x q (h ∙ ap (f p) e) (k p (recovery_in t) (recovery-in-fits t l m))
