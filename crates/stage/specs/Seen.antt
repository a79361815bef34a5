-- What a view shows: the pool as staged; a view of the pool alone, and a view for a part of the pool. Assumes nothing.
use Rattle.std.specs.Prelude.{ℕ, ◌≡◌, List}
use Rattle.stage.specs.View.{Asked, seen}
use Rattle.stage.specs.declared.View.{View}

abbrev pub seen_by : View → List ℕ
seen_by v = seen v.pool.now v.staging.now v.count

-- The view v shows the pool p and has no entries.
pub record Alone (p : List ℕ) (v : View) : Type 0 where
  pub pool : v.pool.now ≡ p
  pub count : v.count ≡ 0
  pub shows : seen_by v ≡ p

-- The view r of the pool of v has those of its entries that are to be asked for the n bytes from place a on.
pub record Within (v : View) (a n : ℕ) (r : View) : Type 0 where
  pub pool : r.pool.now ≡ v.pool.now
  pub staging : r.staging.now ≡ v.staging.now
  pub asked : Asked v.staging.now v.count a n r.count
