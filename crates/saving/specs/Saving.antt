-- A commit made call after call, as a caller makes it: it stops at done, at a refusal, or with its budget used up; and an object saved.
-- Assumes nothing.
use Rattle.std.specs.Prelude.{ℕ, zero, suc, Bool, true, false, ◌||◌, cond, ◌≡◌, List}
use Rattle.rules.specs.Book.{enter}
use Rattle.rules.specs.Sound.{Sound, book_of}
use Rattle.rules.specs.Plan.{allocate}
use Rattle.rules.specs.Calls.{begun, call, transaction_start}
use Rattle.rules.specs.Answer.{After, Answer, Given, address, done, is_refused, passed, refused, started, stored, taken}
use Rattle.powercut.specs.Commit.{commit_on, commit_start}

unfoldable pub is_done : Answer → Bool
is_done (address a) = false
is_done taken = false
is_done started = false
is_done (stored k) = false
is_done (passed k) = false
is_done (done k) = true
is_done (refused n) = false

-- Done, or a refusal, ends a commit or a recovery.
unfoldable pub is_end : Answer → Bool
is_end a = is_done a || is_refused a

-- At most n calls f more, from what the last call answered and left.
unfoldable pub calls_from : (Given → After) → ℕ → After → After
calls_from f zero x = x
calls_from f (suc n) x = cond (is_end x.answer) x (calls_from f n (f x.left))

-- The commit's start, and at most five calls, each up to the next barrier: a commit has five parts.
unfoldable pub committed : Given → After
committed g = calls_from commit_on 5 (commit_start g)

-- ---- An object saved: a transaction begun, the object allocated in it, and committed.

-- What a save answers, and the pool and staging memory then.
pub record Outcome : Type 0 where
  pub answer : Answer
  pub pool : List ℕ
  pub staging : List ℕ

abbrev pub outcome : Answer → Given → Outcome
outcome a g = record { answer = a; pool = g.pool; staging = g.staging }

-- The object allocated in a transaction of its own; a refused beginning is the answer.
unfoldable pub allocated : List ℕ → List ℕ → ℕ → List ℕ → After
allocated pool staging tag body =
    cond (is_refused (transaction_start pool).answer) (record { answer = (transaction_start pool).answer; left = begun pool staging })
    (call (begun pool staging) (allocate tag body))

-- The address a counts once the commit is done; else the answer is the commit's.
unfoldable pub saved_as : Answer → After → Outcome
saved_as a y = outcome (cond (is_done y.answer) a y.answer) y.left

-- An allocate that is not refused is committed.
unfoldable pub save_on : After → Outcome
save_on x = cond (is_refused x.answer) (outcome x.answer x.left) (saved_as x.answer (committed x.left))

-- A refused beginning is the answer; else the object is allocated, and committed.
unfoldable pub saved : List ℕ → List ℕ → ℕ → List ℕ → Outcome
saved pool staging tag body =
    cond (is_refused (transaction_start pool).answer) (outcome (transaction_start pool).answer (begun pool staging))
    (save_on (call (begun pool staging) (allocate tag body)))

module _ (old : List ℕ) (tag : ℕ) (body : List ℕ) (new : List ℕ) where
  -- What an answer tells of a pool that was sound: it is sound, and its book has just this object more; or it is as it was.
  abbrev pub Told : Answer → Type 0
  Told (address a) = Sound new × (book_of new ≡ enter (record { addr = a; tag = tag; body = body }) (book_of old))
  Told taken = ⊥
  Told started = ⊥
  Told (stored k) = ⊥
  Told (passed k) = ⊥
  Told (done k) = ⊥
  Told (refused n) = new ≡ old

-- What holds of a save.
pub record Saves (pool staging : List ℕ) (tag : ℕ) (body : List ℕ) (o : Outcome) : Type 0 where
  -- of every pool and staging memory
  pub exact : o ≡ saved pool staging tag body
  -- of a sound pool: the commit is not refused
  pub answers : Sound pool → o.answer ≡ (call (begun pool staging) (allocate tag body)).answer
  pub told : Sound pool → Told pool tag body o.pool o.answer
