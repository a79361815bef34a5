-- An object allocated and freed again in one transaction. Assumes nothing.
use Rattle.std.specs.Prelude.{ℕ, ◌≡◌, false, cond, List, [], ◌∷◌}
use Rattle.rules.specs.Answer.{After, Answer, address, done, is_refused, passed, refused, started, stored, taken}
use Rattle.rules.specs.Plan.{Call, allocate, release}
use Rattle.rules.specs.Calls.{begun, call, transaction_start}
use Rattle.rules.specs.Sound.{Sound, book_of}
use Rattle.powercut.specs.WholeRun.{made}
use Rattle.powercut.specs.Claim.{new}

-- The address answered; 0 where none is.
unfoldable pub address_in : Answer → ℕ
address_in (address a) = a
address_in taken = 0
address_in started = 0
address_in (stored k) = 0
address_in (passed k) = 0
address_in (done k) = 0
address_in (refused n) = 0

-- An allocate that is not refused is followed by a free of its address.
unfoldable pub free_on : After → After
free_on x = cond (is_refused x.answer) x (call x.left (release (address_in x.answer)))

-- A refused beginning is the answer; else the object is allocated, and freed.
unfoldable pub taken_back : List ℕ → List ℕ → ℕ → List ℕ → After
taken_back pool staging tag body =
    cond (is_refused (transaction_start pool).answer) (record { answer = (transaction_start pool).answer; left = begun pool staging })
    (free_on (call (begun pool staging) (allocate tag body)))

-- The two calls.
abbrev pub both : ℕ → ℕ → List ℕ → List Call
both a tag body = allocate tag body ∷ release a ∷ []

-- What holds of it.
pub record TakesBack (pool staging : List ℕ) (tag : ℕ) (body : List ℕ) (z : After) : Type 0 where
  -- of every pool and staging memory
  pub exact : z ≡ taken_back pool staging tag body
  -- of a sound pool: where neither call is refused, their new book is the old one
  pub same : Sound pool → is_refused z.answer ≡ false
      → (a : ℕ) × (z.left ≡ (made pool staging (both a tag body)).left) × (new pool staging (both a tag body) ≡ book_of pool)
