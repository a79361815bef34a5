-- An index of entries in lent memory, so that one is found by its target: a hash table with chains. Assumes nothing.
--
--   byte k below 256      the last entry with the mark k
--   byte 256 + e          the last entry before entry e with the mark that e has
--
-- each as one more than the entry's number; 0 where there is none.
use Rattle.std.specs.Prelude.{ℕ, ◌+◌, ◌-◌, ◌*◌, ◌/◌, ◌%◌, ◌≤◌, ◌<◌, ◌≡◌, List, length, get_or}
use Rattle.rules.specs.Words.{word}

-- Targets share 256 marks; the one that stands for the target t.
abbrev pub mark_count : ℕ
mark_count = 256

unfoldable pub mark_of : ℕ → ℕ
mark_of t = t / 8 % 65536 * 40503 / 256 % mark_count

-- The mark of entry e of staging memory st.
unfoldable pub mark_at : List ℕ → ℕ → ℕ
mark_at st e = mark_of (word st (16 * e))

-- Of the n first entries, p is one more than the number of the last that has the mark k.
pub record Last (st : List ℕ) (n k p : ℕ) : Type 0 where
  pub le : p ≤ n
  pub marked : 0 < p → mark_at st (p - 1) ≡ k
  pub rest : (j : ℕ) → p ≤ j → j < n → mark_at st j ≡ k → ⊥

-- An index without entries.
pub record Blank (ix : List ℕ) : Type 0 where
  pub long : length ix ≡ 384
  pub zero : (k : ℕ) → get_or ix k 0 ≡ 0

-- The index of the n entries of staging memory st.
pub record Chained (ix st : List ℕ) (n : ℕ) : Type 0 where
  pub long : length ix ≡ 384
  pub few : n ≤ 127
  pub last : (k : ℕ) → k < mark_count → Last st n k (get_or ix k 0)
  pub prior : (e : ℕ) → e < n → Last st e (mark_at st e) (get_or ix (mark_count + e) 0)

-- With no entries any memory does.
pub record Indexed (ix st : List ℕ) (n : ℕ) : Type 0 where
  pub chained : 0 < n → Chained ix st n
