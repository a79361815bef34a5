-- Entries in lent staging memory (01, "Transactions"): where a word's entry stands, which words have none yet, and words touched there.
-- Assumes nothing.
use Rattle.std.specs.Prelude.{ℕ, zero, suc, ◌+◌, ◌*◌, ◌≤◌, ◌<◌, ◌≡◌, cond, Option, Some, None, List, [], ◌∷◌, length, drop, eqb}
use Rattle.rules.specs.Staging.{Store, touch, touch_words}
use Rattle.stage.specs.View.{entries_of}

-- The place of the entry with the target o; the number of entries where there is none.
unfoldable pub slot : ℕ → List Store → ℕ
slot o [] = 0
slot o (x ∷ xs) = cond (eqb x.at o) 0 (suc (slot o xs))

-- The entry with the target o among the n of staging memory st stands at i; at n where there is none.
pub record Slot (st : List ℕ) (n o i : ℕ) : Type 0 where
  pub place : i ≡ slot o (entries_of st n)
  pub le : i ≤ n

-- That place, if the word at o has an entry.
abbrev pub Placed : List ℕ → ℕ → ℕ → Option ℕ → Type 0
Placed st n o (Some i) = Slot st n o i × (i < n)
Placed st n o None = Slot st n o n

-- How many entries a touch of the word at o adds: one where it has none yet.
unfoldable pub added : ℕ → List Store → ℕ
added o [] = 1
added o (x ∷ xs) = cond (eqb x.at o) 0 (added o xs)

-- How many of the n words from offset o on have no entry yet.
unfoldable pub missing : ℕ → ℕ → List Store → ℕ
missing zero o es = 0
missing (suc n) o es = added o es + missing n (o + 8) es

-- Staging memory st with n entries has room for the k words from offset o on; those that have an entry take none.
pub record Room (st : List ℕ) (n k o : ℕ) : Type 0 where
  pub held : 16 * (n + missing k o (entries_of st n)) ≤ length st

-- Staging memory st with n entries became st' with m. Staging bytes beyond the entries never change.
pub record Grown (st : List ℕ) (n : ℕ) (st' : List ℕ) (m : ℕ) : Type 0 where
  pub rest : drop (16 * m) st' ≡ drop (16 * m) st
  pub long : length st' ≡ length st
  pub least : n ≤ m

-- The word at o is touched.
pub record Touched (st : List ℕ) (n o w : ℕ) (st' : List ℕ) (m : ℕ) : Type 0 where
  pub entries : entries_of st' m ≡ touch o w (entries_of st n)
  pub grown : Grown st n st' m
  pub most : m ≤ n + 1

-- k words from o on are touched, as the bytes ys have them.
pub record TouchedWords (st : List ℕ) (n k o : ℕ) (ys : List ℕ) (st' : List ℕ) (m : ℕ) : Type 0 where
  pub entries : entries_of st' m ≡ touch_words k o ys (entries_of st n)
  pub grown : Grown st n st' m
  pub most : m ≤ n + k
