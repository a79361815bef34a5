-- A record knows its pool: a call given a transaction or a recovery of another pool answers 11 and changes nothing. Assumes nothing.
use Rattle.std.specs.Prelude.{◌≡◌, ◌≢◌, true, false, List, ℕ, ◌≤◌, length}
use Rattle.std.proofs.Math.Option.{none}
use Rattle.rules.specs.Shape.{staging_size}
use Rattle.rules.specs.Test.{first}
use Rattle.rules.specs.Header.{id_in, open_tests, shape_in}
use Rattle.rules.specs.Staging.{impossible}
use Rattle.rules.specs.Answer.{After, Given, is_refused, refused}
use Rattle.rules.specs.Plan.{Call}
use Rattle.rules.specs.Calls.{call}
use Rattle.powercut.specs.Commit.{commit_on, commit_start, commit_step}
use Rattle.powercut.specs.Recovery.{Recovery, RecoveryAfter, impossible_recovery, recovery_on, recovery_step}

-- P of every call that takes a transaction: allocate, write, free, the commit's start, a step, all steps up to the next barrier; and of every
-- call that takes a recovery.
abbrev pub EachCall : ((Given → After) → Type 0) → Type 0
EachCall P = ((k : Call) → P (λ g. call g k)) × P commit_start × P commit_step × P commit_on

abbrev pub EachRecoveryCall : ((List ℕ → Recovery → RecoveryAfter) → Type 0) → Type 0
EachRecoveryCall P = P recovery_step × P recovery_on

-- The pool opens, the staging memory is long enough, and the record is possible there; but it is of another pool.
pub record OtherPool (g : Given) : Type 0 where
  pub opens : first (open_tests g.pool) ≡ none
  pub room : staging_size ≤ length g.staging
  pub possible : impossible (shape_in g.pool) g.staging g.txn.count g.txn.phase ≡ false
  pub other : g.txn.id ≢ id_in g.pool

pub record OtherRecovery (p : List ℕ) (r : Recovery) : Type 0 where
  pub opens : first (open_tests p) ≡ none
  pub possible : impossible_recovery (shape_in p) p r.work r.phase ≡ false
  pub other : r.id ≢ id_in p

-- A RECORD KNOWS ITS POOL
pub record OwnPool : Type 0 where
  -- Of another pool: 11, and nothing is changed.
  pub others : EachCall (λ f. (g : Given) → OtherPool g → f g ≡ record { answer = refused 11; left = g })
  pub other-recoveries : EachRecoveryCall (λ f. (p : List ℕ) (r : Recovery) → OtherRecovery p r → f p r ≡ record { answer = refused 11; pool = p; recovery = r })
  -- No pool that opens has id 0; so a record with id 0, which a refused begin or start hands back, is refused on every pool.
  pub ids : (p : List ℕ) → first (open_tests p) ≡ none → id_in p ≢ 0
  pub unusables : EachCall (λ f. (g : Given) → g.txn.id ≡ 0 → is_refused (f g).answer ≡ true)
  pub idles : EachRecoveryCall (λ f. (p : List ℕ) (r : Recovery) → r.id ≡ 0 → is_refused (f p r).answer ≡ true)
  -- No call changes the id.
  pub keeps : EachCall (λ f. (g : Given) → (f g).left.txn.id ≡ g.txn.id)
  pub recoveries-keep : EachRecoveryCall (λ f. (p : List ℕ) (r : Recovery) → (f p r).recovery.id ≡ r.id)
