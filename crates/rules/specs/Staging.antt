-- The open transaction (01, "Transactions"): its record, its entries in lent staging memory, and words touched. 01's touch adds a word to
-- the write set. Assumes nothing.
use Rattle.std.specs.Prelude.{ℕ, zero, suc, ◌+◌, ◌*◌, ◌/◌, ◌%◌, ◌^◌, ◌<◌, ◌≡◌, ◌≢◌, Bool, true, false, not, cond, ◌&&◌, ◌||◌, List, [], ◌∷◌, ◌++◌, take, drop, leb, ltb, eqb}
use Rattle.rules.specs.Words.{digits, put, word}
use Rattle.rules.specs.Shape.{Shape, entry_limit, entry_size, pool_size, row, zones_at}

-- An entry of a transaction or of a log, and a store: target offset from the pool's first byte, new word.
pub record Store : Type 0 where
  pub at : ℕ
  pub val : ℕ

-- Stores, in order. With a transaction's entries: the pool as its later calls see it.
abbrev pub lay : List ℕ → List Store → List ℕ
lay p [] = p
lay p (x ∷ xs) = lay (put p x.at x.val) xs

-- ---- Entries in memory, 16 bytes each: target offset (8), then the new 8-byte word.

abbrev pub entry_bytes : List Store → List ℕ
entry_bytes [] = []
entry_bytes (e ∷ es) = digits 8 e.at ++ digits 8 e.val ++ entry_bytes es

-- The n entries from place a on.
abbrev pub entries_at : List ℕ → ℕ → ℕ → List Store
entries_at p a zero = []
entries_at p a (suc n) = record { at = word p a; val = word p (a + 8) } ∷ entries_at p (a + entry_size) n

-- ---- Touching. A word touched twice keeps one entry, in order of first touch.

unfoldable pub touch : ℕ → ℕ → List Store → List Store
touch o w [] = record { at = o; val = w } ∷ []
touch o w (x ∷ xs) = cond (eqb x.at o) (record { at = o; val = w } ∷ xs) (x ∷ touch o w xs)

-- n words from offset o on, ascending, that hold the bytes ys.
unfoldable pub touch_words : ℕ → ℕ → List ℕ → List Store → List Store
touch_words zero o ys es = es
touch_words (suc n) o ys es = touch_words n (o + 8) (drop 8 ys) (touch o (word ys 0) es)

-- The words that hold m bytes from place a on: the first one's offset, their number; and these words touched, as the bytes bs have them.
unfoldable pub word_from : ℕ → ℕ
word_from a = a / 8 * 8

unfoldable pub word_count : ℕ → ℕ → ℕ
word_count a m = (a % 8 + m + 7) / 8

unfoldable pub touch_range : ℕ → ℕ → List ℕ → List Store → List Store
touch_range a m bs es = touch_words (word_count a m) (word_from a) (take (8 * word_count a m) (drop (word_from a) bs)) es

-- ---- Targets are multiples of 8 inside data rows, and none repeats.

abbrev pub none_at : ℕ → List Store → Bool
none_at a [] = true
none_at a (e ∷ es) = not (eqb a e.at) && none_at a es

module _ (sh : Shape) where
  abbrev pub good_target : ℕ → Bool
  good_target t = eqb (t % 8) 0 && (leb (zones_at sh) t && (ltb t (pool_size sh) && ltb (row sh t) sh.rows))

  abbrev pub good_targets : List Store → Bool
  good_targets [] = true
  good_targets (e ∷ es) = good_target e.at && (none_at e.at es && good_targets es)

-- ---- Entries in order: each target a multiple of 8, each value a word, no target twice.

-- No entry has the target o.
abbrev pub Fresh : ℕ → List Store → Type 0
Fresh o [] = Unit {0}
Fresh o (x ∷ xs) = (x.at ≢ o) × Fresh o xs

abbrev pub Tidy : List Store → Type 0
Tidy [] = Unit {0}
Tidy (x ∷ xs) = (x.at % 8 ≡ 0) × (x.val < 2 ^ 64) × Fresh x.at xs × Tidy xs

-- ---- The record. 01 calls the first phase open; k steps of the commit have been made.

pub data Phase : Type 0 where
  live : Phase
  committing : ℕ → Phase
  closed : Phase

-- The id of the pool that it was begun on, the entries, and the phase.
pub record Transaction : Type 0 where
  pub id : ℕ
  pub count : ℕ
  pub phase : Phase

-- A fresh transaction on the pool with this id: open and without entries.
abbrev pub fresh : ℕ → Transaction
fresh id = record { id = id; count = 0; phase = live }

-- A refused begin hands back a record that no call takes: no pool that opens has id 0.
abbrev pub unusable : Transaction
unusable = record { id = 0; count = 0; phase = closed }

-- The record in another phase.
abbrev pub with_phase : Transaction → Phase → Transaction
with_phase t f = record { id = t.id; count = t.count; phase = f }

unfoldable pub is_live : Phase → Bool
is_live live = true
is_live (committing k) = false
is_live closed = false

-- 6n + 9 steps; an empty transaction is done in none.
unfoldable pub commit_length : ℕ → ℕ
commit_length zero = 0
commit_length (suc n) = 6 * suc n + 9

-- A place past the list of the commit's steps.
unfoldable pub past_commit : ℕ → Phase → Bool
past_commit n live = false
past_commit n (committing k) = leb (commit_length n) k
past_commit n closed = false

-- Refusal 10: count above 127, place past its list, a target outside data rows, unaligned or repeated.
unfoldable pub impossible : Shape → List ℕ → ℕ → Phase → Bool
impossible sh staging n f = ltb entry_limit n || (past_commit n f || not (good_targets sh (entries_at staging 0 n)))
