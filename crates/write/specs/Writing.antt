-- A range of an object's body that is written (01, "Transactions"): what its words ask of staging memory, and leave there. h is the
-- head's offset, m the body's length, o and k the range's first byte in the body and its length. Assumes nothing.
use Rattle.std.specs.Prelude.{ℕ, ◌+◌, ◌%◌, ◌≤◌, ◌<◌, ◌≡◌, true, List, length, Result, Ok, Err}
use Rattle.std.proofs.lemmas.List.Edits.{sets}
use Rattle.rules.specs.Words.{digits}
use Rattle.rules.specs.Shape.{entry_limit}
use Rattle.rules.specs.Check.{check}
use Rattle.rules.specs.Runs.{check_word, covered, head_check}
use Rattle.rules.specs.Staging.{Store, word_count, word_from}
use Rattle.rules.specs.Plan.{touch_write}
use Rattle.refusals.specs.declared.Refusal.{Refusal}
use Rattle.refusals.specs.Number.{number_of}
use Rattle.stage.specs.View.{entries_of, part}
use Rattle.stage.specs.Touched.{Grown, added, missing}
use Rattle.overwrite.specs.Range.{RangeFresh}
use Rattle.write.specs.declared.Change.{Change}
use Rattle.write.specs.declared.Fresh.{Fresh}

-- A range, not empty, of the body of an object whose check is right.
pub record Range (v : List ℕ) (h m o k : ℕ) : Type 0 where
  pub even : h % 8 ≡ 0
  pub inside : h + 16 + m ≤ length v
  pub most : m ≤ 496
  pub right : head_check (part 16 h v) ≡ check (covered (part 16 h v) (part m (h + 16) v))
  pub some : 1 ≤ k
  pub within : o + k ≤ m

-- The change is of such a range.
abbrev pub Changes : List ℕ → Change → Type 0
Changes v c = Range v c.head c.length c.at (length c.bytes.now)

-- The word w holds the check, and the tag, of the object that is changed.
abbrev pub Checked : List ℕ → Change → ℕ → Type 0
Checked v c w = digits 8 w ≡ check_word (part 16 c.head v) (sets (part c.length (c.head + 16) v) c.at c.bytes.now)

-- How many entries a write adds: of the word that holds the check, and of those that hold the range.
unfoldable pub added_by : ℕ → ℕ → ℕ → List Store → ℕ
added_by h o k es = missing 1 (h + 8) es + missing (word_count (h + (16 + o)) k) (word_from (h + (16 + o))) es

-- There is room for these; and those of which it is told that none has an entry have none.
pub record Unstaged (st : List ℕ) (n : ℕ) (c : Change) (f : Fresh) : Type 0 where
  pub room : n + added_by c.head c.at (length c.bytes.now) (entries_of st n) ≤ entry_limit
  pub check : f.check ≡ true → added (c.head + 8) (entries_of st n) ≡ 1
  pub range : f.range ≡ true → RangeFresh st n (c.head + (16 + c.at)) (length c.bytes.now)

-- That, or refusal 27: there is no room.
abbrev pub Counted : List ℕ → ℕ → Change → Result Fresh Refusal → Type 0
Counted st n c (Ok f) = Unstaged st n c f
Counted st n c (Err r) = (number_of r ≡ 27) × (entry_limit < n + added_by c.head c.at (length c.bytes.now) (entries_of st n))

-- The words of a write are touched.
pub record Written (v st : List ℕ) (n : ℕ) (c : Change) (st' : List ℕ) (n' : ℕ) : Type 0 where
  pub entries : entries_of st' n' ≡ touch_write v c.head (part c.length (c.head + 16) v) c.at c.bytes.now (entries_of st n)
  pub grown : Grown st n st' n'
