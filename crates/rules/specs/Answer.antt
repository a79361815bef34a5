-- What the calls answer, what those on a transaction are given and leave, and that a refusal changes nothing (01, below the refusals).
-- Assumes nothing.
use Rattle.std.specs.Prelude.{ℕ, Bool, true, false, List}
use Rattle.std.proofs.Math.Option.{Option, none, some}
use Rattle.rules.specs.Staging.{Transaction}

-- An address; taken, that is carried out; of a commit or a recovery: started, a store made as step k, passed: a barrier (POOL_BARRIER) made as
-- step k, done with step k; or a refusal.
pub data Answer : Type 0 where
  address : ℕ → Answer
  taken : Answer
  started : Answer
  stored : ℕ → Answer
  passed : ℕ → Answer
  done : ℕ → Answer
  refused : ℕ → Answer

unfoldable pub is_refused : Answer → Bool
is_refused (address a) = false
is_refused taken = false
is_refused started = false
is_refused (stored k) = false
is_refused (passed k) = false
is_refused (done k) = false
is_refused (refused n) = true

-- What a call on a transaction is given and leaves, and its result.
pub record Given : Type 0 where
  pub pool : List ℕ
  pub staging : List ℕ
  pub txn : Transaction

pub record After : Type 0 where
  pub answer : Answer
  pub left : Given

-- A refusal returns its number, with the transaction as given, and nothing else.
unfoldable pub conclude : Given → Option ℕ → After → After
conclude g none after = after
conclude g (some n) after = record { answer = refused n; left = g }

-- The same for a call on the pool alone.
pub record Changed : Type 0 where
  pub answer : Answer
  pub pool : List ℕ

unfoldable pub conclude_pool : List ℕ → Option ℕ → List ℕ → Changed
conclude_pool p none new = record { answer = taken; pool = new }
conclude_pool p (some n) new = record { answer = refused n; pool = p }
