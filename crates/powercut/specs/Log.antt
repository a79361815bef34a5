-- The two logs (01, "Commit, cut, recovery"): a seal word, 8 zero bytes (layout only: never read, never stored), then up to 127 entries as
-- staged. 01's seal is the commit record of a log. Assumes nothing.
--
--   seal   0 check of the entries 4 bytes   4 count n 2   6 mark hex A51C 2
use Rattle.std.specs.Prelude.{Bool, ◌&&◌, List, ℕ, ◌+◌, ◌*◌, ◌/◌, ◌%◌, ◌^◌, leb, eqb, length}
use Rattle.rules.specs.Words.{word}
use Rattle.rules.specs.Check.{check}
use Rattle.rules.specs.Shape.{Shape, log_a, log_b, entry_limit, log_head}
use Rattle.rules.specs.Staging.{Store, entries_at, entry_bytes, good_targets}

pub data Log : Type 0 where
  from_a from_b : Log

abbrev pub log_at : Shape → Log → ℕ
log_at sh from_a = log_a sh
log_at sh from_b = log_b sh

abbrev pub seal_mark : ℕ
seal_mark = 0xA51C

-- The seal of entries: their check (4 bytes), count n (2), mark hex A51C (2). Zero means empty.
unfoldable pub seal_of : List Store → ℕ
seal_of es = (seal_mark * 2 ^ 16 + length es) * 2 ^ 32 + check (entry_bytes es)

-- The mark, the count and the check in a seal word.
unfoldable pub mark_in : ℕ → ℕ
mark_in w = w / 2 ^ 32 / 2 ^ 16

unfoldable pub count_in : ℕ → ℕ
count_in w = w / 2 ^ 32 % 2 ^ 16

unfoldable pub check_in : ℕ → ℕ
check_in w = w % 2 ^ 32

module _ (sh : Shape) where
  -- The entries of the log at place b, as many as its seal counts.
  unfoldable pub log_entries : List ℕ → ℕ → List Store
  log_entries p b = entries_at p (b + log_head) (count_in (word p b))

  -- The log at place b is valid: mark, count of 1 to 127 and check fit, targets are multiples of 8 inside data rows, none repeats.
  unfoldable pub valid : List ℕ → ℕ → Bool
  valid p b =
      eqb (mark_in (word p b)) seal_mark && (leb 1 (count_in (word p b)) && (leb (count_in (word p b)) entry_limit
      && (eqb (check_in (word p b)) (check (entry_bytes (log_entries p b))) && good_targets sh (log_entries p b))))
