-- What the code's steps mean: a transaction begun with enough staging memory, and the set-up found; no promise speaks of them. Assumes nothing.
use Rattle.std.specs.Prelude.{ℕ, ◌+◌, ◌≤◌, ◌≡◌, false, List, [], ◌∷◌, ◌++◌, length, ltb, ⊤, Result, Ok, Err, Option as CodeOption, Some, None}
use Rattle.std.proofs.Math.Option.{Option, none, some}
use Rattle.rules.specs.Shape.{head_size, staging_size}
use Rattle.rules.specs.Test.{Test, first, when}
use Rattle.rules.specs.Header.{id_in, open_tests, shape_in}
use Rattle.rules.specs.Zones.{head_at}
use Rattle.rules.specs.Seals.{seal_test}
use Rattle.rules.specs.Staging.{fresh, unusable}
use Rattle.rules.specs.Answer.{After, is_refused, refused, taken}
use Rattle.rules.specs.Calls.{TransactionStart, conclude_start}
use Rattle.rules.specs.Sound.{book_of}
use Rattle.rules.specs.Tag.{first_tagged, look_up_tests}
use Rattle.refusals.specs.declared.Refusal.{Refusal}
use Rattle.refusals.specs.Number.{number_of}
use Rattle.answers.specs.declared.Answer.TheVariants.{Refused}
use Rattle.answers.specs.Meaning.{answer_of}
use Rattle.transaction.specs.declared.Transaction.{Transaction}
use Rattle.transaction.specs.declared.Reply.{Reply}
use Rattle.transaction.specs.Meaning.{after_of, transaction_of}
use Rattle.setups.specs.Setups.{found_tests, setup_size, unsaved}
use Rattle.setups.specs.declared.Setup.{Setup}

-- What a refused save hands back.
abbrev pub refused_start : ℕ → TransactionStart
refused_start n = record { answer = refused n; txn = unusable }

-- A transaction begun, or the refusal.
abbrev pub begun_of : Result Transaction Refusal → TransactionStart
begun_of (Ok t) = record { answer = taken; txn = transaction_of t }
begun_of (Err x) = refused_start (number_of x)

-- A call hands r back, which is not refused; or its refusal.
abbrev pub Accepted : Reply → Result Reply Refusal → Type 0
Accepted r (Ok x) = (x ≡ r) × (is_refused (answer_of r.answer) ≡ false)
Accepted r (Err x) = r.answer ≡ Refused x

-- What a save leaves: a refused one leaves pool and staging, and hands back a record that no call takes.
abbrev pub saved_of : Result Reply Refusal → List ℕ → List ℕ → After
saved_of (Ok r) pool staging = after_of r pool staging
saved_of (Err x) pool staging = unsaved pool staging (refused (number_of x))

-- 2, 3, 4, 2; 9 with n bytes of staging memory; 21.
unfoldable pub room_tests : List ℕ → ℕ → List Test
room_tests p n = open_tests p ++ (when (ltb n staging_size) 9 ∷ seal_test p ∷ [])

unfoldable pub begun_in : List ℕ → ℕ → TransactionStart
begun_in p n = conclude_start (first (room_tests p n)) (fresh (id_in p))

-- The object found: its address, and where its body lies; none; or a refusal.
pub data Spot : Type 0 where
  at : ℕ → ℕ → Spot
  absent : Spot
  refusal : ℕ → Spot

abbrev pub spot_of : Result (CodeOption Setup) Refusal → Spot
spot_of (Ok (Some s)) = at s.address s.at
spot_of (Ok None) = absent
spot_of (Err x) = refusal (number_of x)

-- Its body lies in the pool.
abbrev pub Inside : List ℕ → Result (CodeOption Setup) Refusal → Type 0
Inside p (Ok (Some s)) = s.at + setup_size ≤ length p
Inside p (Ok None) = ⊤
Inside p (Err x) = ⊤

unfoldable pub spot_at : List ℕ → Option ℕ → Spot
spot_at p none = absent
spot_at p (some a) = at a (head_at (shape_in p) a + head_size)

unfoldable pub conclude_spot : Option ℕ → Spot → Spot
conclude_spot none x = x
conclude_spot (some n) x = refusal n

-- 2, 3, 4, 2, 21, 23, 25, 33 found.
unfoldable pub spot : List ℕ → ℕ → Spot
spot p t = conclude_spot (first (look_up_tests p ++ found_tests p (first_tagged t 0 (book_of p)))) (spot_at p (first_tagged t 0 (book_of p)))
