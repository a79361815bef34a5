-- The ten set-ups as a table of ten places, over any saves, other transactions and power cuts (A.1).
use Rattle.std.specs.Prelude.{ℕ, ◌+◌, ◌≤◌, ◌≡◌, Bool, true, false, not, ◌&&◌, List, [], ◌∷◌, length, get_or, replicate, set, ltb}
use Rattle.std.proofs.Math.Option.{Option, none, some}
use Rattle.rules.specs.Words.{Bytes}
use Rattle.rules.specs.Shape.{staging_size}
use Rattle.rules.specs.Test.{Test, first, when}
use Rattle.rules.specs.Header.{shape_in, within}
use Rattle.rules.specs.Runs.{cells_for}
use Rattle.rules.specs.Search.{any_free}
use Rattle.rules.specs.Zones.{runs_from}
use Rattle.rules.specs.Answer.{Answer, address, done, is_refused, passed, refused, started, stored, taken}
use Rattle.rules.specs.Plan.{Call}
use Rattle.rules.specs.Calls.{AllTyped}
use Rattle.rules.specs.Sound.{Sound, book_of}
use Rattle.rules.specs.Look as Looking
use Rattle.rules.specs.Tag.{Spares, with_tag}
use Rattle.powercut.specs.WholeRun.{Accepted, made}
use Rattle.powercut.specs.History.{Ending}
use Rattle.setups.specs.Setups.{last_setup, number_test, recalled, save_call, saved, setup_size, setup_tag, size_test, unsaved}

-- Ten places, each the bytes of a set-up or none.
abbrev pub Table : Type 0
Table = List (Option (List ℕ))

abbrev pub empty_table : Table
empty_table = replicate (last_setup + 1) none

unfoldable pub place : ℕ → Table → Option (List ℕ)
place n t = get_or t n none

-- Place n overwritten, if that came into force.
unfoldable pub overwritten : Bool → ℕ → List ℕ → Table → Table
overwritten true n body t = set t n (some body)
overwritten false n body t = t

-- The tags 100 to 109.
abbrev pub is_setup_tag : ℕ → Bool
is_setup_tag t = within (setup_tag 0) t (setup_tag last_setup)

-- Saves and other transactions, one after the other, from the pool p with an empty table to the pool q with the table t. A save that is not
-- refused is committed, cut and recovered, or dropped: an ending of its one call. A transaction of another caller that came into force spares
-- the tags 100 to 109.
pub data TableRun (p : List ℕ) : Table → List ℕ → Type 0 where
  start : TableRun p empty_table p
  save : {t : Table} {q r : List ℕ} {kept : Bool} (staging : List ℕ) (n : ℕ) (body : List ℕ) → TableRun p t q → Bytes body
      → Accepted (saved q staging n body).answer → Ending q staging (save_call q n body ∷ []) kept r → TableRun p (overwritten kept n body t) r
  refuse : {t : Table} {q : List ℕ} (staging : List ℕ) (n : ℕ) (body : List ℕ) → TableRun p t q → is_refused (saved q staging n body).answer ≡ true
      → TableRun p t (saved q staging n body).left.pool
  other : {t : Table} {q r : List ℕ} {kept : Bool} (staging : List ℕ) (ks : List Call) → TableRun p t q → AllTyped ks → Ending q staging ks kept r
      → (kept ≡ true → Spares is_setup_tag ks (made q staging ks).answers (book_of q)) → TableRun p t r

-- A sound pool without these tags.
pub record Bare (p : List ℕ) : Type 0 where
  pub sound : Sound p
  pub untagged : (n : ℕ) → n ≤ last_setup → with_tag (setup_tag n) (book_of p) ≡ []

-- Recall answers as the place does: its bytes; 31 where it is empty.
abbrev pub Recalls : List ℕ → ℕ → Option (List ℕ) → Type 0
Recalls q n none = recalled q n ≡ Looking.refused 31
Recalls q n (some body) = (at : ℕ) × (recalled q n ≡ Looking.part at setup_size) × (Looking.seen q (recalled q n) ≡ body)

-- TEN PLACES
abbrev pub TenPlaces : Type 0
TenPlaces = (p q : List ℕ) (t : Table) → Bare p → TableRun p t q → Sound q × ((n : ℕ) → n ≤ last_setup → Recalls q n (place n t))

-- ---- What a save answers.

unfoldable pub refusal_in : Answer → Option ℕ
refusal_in (refused n) = some n
refusal_in (address a) = none
refusal_in taken = none
refusal_in started = none
refusal_in (stored k) = none
refusal_in (passed k) = none
refusal_in (done k) = none

unfoldable pub is_empty : Option (List ℕ) → Bool
is_empty none = true
is_empty (some body) = false

-- 32, 33 and 9; then 26, only where the place is empty and no free run has the 3 cells of a set-up.
unfoldable pub table_tests : List ℕ → Table → List ℕ → ℕ → List ℕ → List Test
table_tests q t staging n body =
    number_test n ∷ size_test body ∷ when (ltb (length staging) staging_size) 9
    ∷ when (is_empty (place n t) && not (any_free (cells_for setup_size) (runs_from (shape_in q) q 0 (shape_in q).zones))) 26
    ∷ []

-- These refusals and no other, each exactly where it applies: a filled place is never refused for room.
abbrev pub SaveAnswers : Type 0
SaveAnswers = (p q : List ℕ) (t : Table) → Bare p → TableRun p t q → (staging : List ℕ) (n : ℕ) (body : List ℕ) → Bytes body
    → refusal_in (saved q staging n body).answer ≡ first (table_tests q t staging n body)

-- An accepted save leaves its one call made on a fresh transaction.
abbrev pub SaveStaged : Type 0
SaveStaged = (pool staging : List ℕ) (n : ℕ) (body : List ℕ) → Accepted (saved pool staging n body).answer
    → ((made pool staging (save_call pool n body ∷ [])).left ≡ (saved pool staging n body).left)
    × ((made pool staging (save_call pool n body ∷ [])).answers ≡ (saved pool staging n body).answer ∷ [])

-- A refused save leaves pool and staging as given, for all inputs.
abbrev pub SaveRefused : Type 0
SaveRefused = (pool staging : List ℕ) (n : ℕ) (body : List ℕ) → is_refused (saved pool staging n body).answer ≡ true
    → saved pool staging n body ≡ unsaved pool staging (saved pool staging n body).answer
