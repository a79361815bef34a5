-- What the fields of a view keep: its entries can be read (`staged-by`); and views with fewer entries. Assumes nothing.
use Prim.Native.Nat.{ℕ, ◌+◌, ◌%◌, ◌≤◌}
use mathlib.Core.Path.{◌≡◌}
use mathlib.Core.List.{List}
use lib.ListN.{length}
use Rattle.rules.specs.Words.{Bytes}
use Rattle.rules.specs.Staging.{Tidy}
use Rattle.stage.specs.View.{Staged, entries_of, part}
use Rattle.stage.specs.Seen.{Within, seen_by}
use Rattle.stage.specs.declared.View.{View}
use Rattle.stage.proofs.Asked.{asked-seen}
use Rattle.stage.proofs.Seen.{bytes-seen, length_seen}

pub staged-by : (v : View) → Staged v.pool.now v.staging.now v.count
staged-by v = record { room = v.room; tidy = v.tidy; words = v.words }

pub length-by : (v : View) → length (seen_by v) ≡ length v.pool.now
length-by v = length_seen v.pool.now v.staging.now v.count

pub bytes-by : (v : View) → Bytes v.pool.now → Bytes (seen_by v)
bytes-by v h = bytes-seen v.pool.now v.staging.now v.count h

-- no entries are tidy
pub tidy-none : (st : List ℕ) → Tidy (entries_of st 0)
unfolding entries_of
tidy-none st = tt

-- the part asked for is the same
pub within-same : {v r : View} {a n : ℕ} → Within v a n r → a % 8 ≡ 0 → a + n ≤ length v.pool.now → part n a (seen_by r) ≡ part n a (seen_by v)
within-same {v} w e h = rw (w.pool, w.staging) (asked-seen (staged-by v) w.asked e h)
