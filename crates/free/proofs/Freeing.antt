-- The ways out of free. Assumes nothing.
use Prim.Native.Nat.{ℕ, ◌+◌, ◌*◌, ◌/◌, ◌%◌, ◌≤◌, ◌<◌}
use mathlib.Core.Path.{◌≡◌, refl, sym, ap, ◌∙◌}
use mathlib.Core.Bool.{true, false}
use mathlib.Core.Option.{Option, none, some}
use mathlib.Core.List.{List, ◌++◌}
use native.Mathlib.Omega.{arith}
use lib.ListN.{length}
use Rattle.std.specs.Prelude.{Option as Maybe, Some, None, IsSome}
use Rattle.rules.specs.Words.{Bytes, digits}
use Rattle.rules.specs.Shape.{Shape as PoolShape, entry_limit, pool_size, staging_size, zone_at, zone_cells}
use Rattle.rules.specs.Test.{first}
use Rattle.rules.specs.Runs.{Walk, free_head}
use Rattle.rules.specs.Search.{Place, joined, run_at}
use Rattle.rules.specs.Zones.{object_tests, run_there, walk_in, zone_data}
use Rattle.rules.specs.Staging.{touch_words}
use Rattle.rules.specs.Answer.{refused, taken}
use Rattle.rules.specs.Plan.{joined_at, plan, release, touch_joined}
use Rattle.rules.proofs.Test.{first-passed}
use Rattle.rules.proofs.Calls.{Named as NamedRun, object-named}
use Rattle.layout.specs.declared.Shape.{Shape}
use Rattle.layout.specs.Meaning.{shape_of}
use Rattle.layout.proofs.Range.{shape-good, size-bounds}
use Rattle.stage.specs.View.{entries_of, part, seen}
use Rattle.stage.specs.Seen.{seen_by}
use Rattle.stage.specs.declared.View.{View}
use Rattle.stage.specs.Touched.{TouchedWords, missing}
use Rattle.stage.proofs.Entries.{length-entries}
use Rattle.stage.proofs.Touched.{length-words}
use Rattle.heads.specs.HeadWords.{head_of}
use Rattle.runs.specs.Rest.{walk_of}
use Rattle.runs.specs.Spotted.{Joined, Located, Stands}
use Rattle.runs.specs.declared.Run.{Run}
use Rattle.runs.specs.declared.Spot.{Spot}
use Rattle.runs.specs.declared.Zone.{Zone}
use Rattle.zones.specs.Found.{SpotAt, ZoneIs}
use Rattle.zones.proofs.Shaped.{address-zone, cells-some}
use Rattle.free.specs.declared.FreeRun.{FreeRun}
use Rattle.free.specs.Freed.{Freed}
use Rattle.answers.specs.Planned.{Left, planned, stage_entries}
use Rattle.answers.proofs.Planned.{planned-passed, planned-refused, stage-many, stage-stored}

-- ---- the head of the joined run

module _ (st : List ℕ) (n at cells : ℕ) {r : ℕ} (e : r ≡ missing 2 at (entries_of st n)) where
  words : length (touch_words 2 at (free_head cells) (entries_of st n)) ≡ n + r
  words = length-words 2 at (free_head cells) (entries_of st n) ∙ rw (length-entries st n, e)

  pub free-many : entry_limit < n + r → record { answer = refused 27; staging = st; count = n } ≡ stage_entries st n taken (touch_words 2 at (free_head cells) (entries_of st n))
  free-many h = stage-many st n taken (touch_words 2 at (free_head cells) (entries_of st n)) (rw words h)

  pub free-stored : (a b : ℕ) {st' : List ℕ} {m : ℕ} → Bytes st' → staging_size ≤ length st → n + r ≤ entry_limit → head_of a b ≡ free_head cells → TouchedWords st n 2 at (digits 8 a ++ digits 8 b) st' m
      → record { answer = taken; staging = st'; count = m } ≡ stage_entries st n taken (touch_words 2 at (free_head cells) (entries_of st n))
  unfolding head_of
  free-stored a w {st'} {m} b l h f t =
      let q : entries_of st' m ≡ touch_words 2 at (free_head cells) (entries_of st n) = rw (← f) t.entries in
      let c : m ≡ n + r = sym (length-entries st' m) ∙ ap length q ∙ words in
      stage-stored st n taken (touch_words 2 at (free_head cells) (entries_of st n)) b (rw t.grown.long (omega arith)) (omega arith) t.grown q

-- ---- the object, found at its cell

true-or-false : true ≡ false → ⊥
true-or-false e = let y : ◌≡◌ {A = ℕ} 0 1 = cc in omega arith

none-or-some : {A : Type 0} {x : A} → ◌≡◌ {A = Option A} none (some x) → ⊥
none-or-some e = let y : ◌≡◌ {A = ℕ} 0 1 = cc in omega arith

some-found : {A : Type 0} (o : Maybe A) → (o ≡ None → ⊥) → IsSome o
some-found None h = absurd (h refl)
some-found (Some x) h = refl

walk-same : (s : PoolShape) (v : List ℕ) (z : ℕ) → walk_in s v z ≡ walk_of v (zone_at s z) (zone_cells s)
unfolding walk_in zone_data walk_of part
walk-same s v z = refl

module _ (s : Shape) (v : List ℕ) (a : ℕ) {o : Maybe Spot} (passed : first (object_tests (shape_of s) v a) ≡ none) (p : SpotAt (shape_of s) v a o) where
  named : NamedRun (shape_of s) v a
  named = object-named (shape_of s) v a (first-passed (object_tests (shape_of s) v a) passed)

  abbrev from : ℕ
  from = zone_at (shape_of s) (a / zone_cells (shape_of s))

  abbrev cells : ℕ
  cells = zone_cells (shape_of s)

  located : Located v from cells (a % cells) o
  located = p.located named.below

  -- its zone is whole, and a run begins there
  pub spot-some : IsSome o
  spot-some = some-found o (λ e. true-or-false (sym named.whole ∙ ap (λ (w : Walk). w.whole) (walk-same (shape_of s) v (a / cells)) ∙ located.broken e))

  module _ {w : Spot} (e : o ≡ Some w) where
    found : run_at (a % cells) 0 (walk_of v from cells).runs ≡ none → ⊥
    unfolding run_there
    found h = none-or-some (sym h ∙ ap (λ (x : Walk). run_at (a % cells) 0 x.runs) (sym (walk-same (shape_of s) v (a / cells))) ∙ named.found)

    pub run-some : IsSome w.run
    run-some = some-found w.run (λ f. found ((located.spotted e).absent f))

    pub run-stands : {r : Run} → w.run ≡ Some r → Stands v from cells (a % cells) w.prior r.cells r.free
    run-stands f = (located.spotted e).present f

-- ---- in its zone

pub free-some : (s : Shape) {n : ℕ} → n ≡ zone_cells (shape_of s) → 0 < n
free-some s f = omega (arith, cells-some s)

module _ (s : Shape) (v : View) (h : length v.pool.now ≡ pool_size (shape_of s)) (a : ℕ) (passed : first (object_tests (shape_of s) (seen_by v) a) ≡ none) {n : ℕ} (c : n ≡ zone_cells (shape_of s)) where
  pub free-zone : a / n < s.zones
  free-zone = address-zone s c (rw c (object-named (shape_of s) (seen_by v) a (first-passed (object_tests (shape_of s) (seen_by v) a) passed)).below)

  module _ {z : Zone} (i : ZoneIs v (shape_of s) (a / n) z) where
    pub free-stands : {p : ℕ} (r : Run) → Stands (seen_by v) (zone_at (shape_of s) (a / zone_cells (shape_of s))) (zone_cells (shape_of s)) (a % zone_cells (shape_of s)) p r.cells r.free
        → Stands (seen_by z.view) z.from z.cells (a % n) p r.cells r.free
    free-stands r d = rw (i.view_is, i.from_is, i.cells_is, c) d

    pub free-freed : {j : Place} → Joined (seen_by z.view) z.from z.cells (a % n) j.cell j.count → Freed (shape_of s) (seen_by v) a (record { at = z.from + 64 * j.cell; cells = j.count })
    unfolding joined_at
    free-freed {j} d' =
        let d : Joined (seen_by v) (zone_at (shape_of s) (a / zone_cells (shape_of s))) (zone_cells (shape_of s)) (a % zone_cells (shape_of s)) j.cell j.count = rw (i.view_is, i.from_is, i.cells_is, c) at d' in
        let w : joined (a % zone_cells (shape_of s)) 0 0 (walk_of (seen_by v) (zone_at (shape_of s) (a / zone_cells (shape_of s))) (zone_cells (shape_of s))).runs ≡ joined_at (shape_of s) (seen_by v) a =
        ap (λ (x : Walk). joined (a % zone_cells (shape_of s)) 0 0 x.runs) (sym (walk-same (shape_of s) (seen_by v) (a / zone_cells (shape_of s)))) in
        let y = z.zoned.inside in
        let q : length z.view.pool.now ≡ length v.pool.now = ap (λ (x : View). length x.pool.now) i.view_is in
        record {
          passed = passed;
          at-is = rw (i.from_is, c) (ap (λ (x : ℕ). zone_at (shape_of s) (a / zone_cells (shape_of s)) + 64 * x) (d.cell-is ∙ ap (λ (x : Place). x.cell) w));
          cells_is = d.count-is ∙ ap (λ (x : Place). x.count) w;
          low = omega (arith, d'.within, h, (size-bounds s).1);
          short = omega (arith, d.within, (shape-good s).runs);
        }

-- ---- what free leaves

module _ (s : Shape) (p st : List ℕ) (n a : ℕ) where
  pub free-refused : {k : ℕ} → first (object_tests (shape_of s) (seen p st n) a) ≡ some k → record { answer = refused k; staging = st; count = n } ≡ planned (shape_of s) p st n (release a)
  unfolding plan
  free-refused {k} e = planned-refused (shape_of s) p st n (release a) k e

  pub free-taken : {r : FreeRun} {x : Left} → Freed (shape_of s) (seen p st n) a r → x ≡ stage_entries st n taken (touch_words 2 r.at (free_head r.cells) (entries_of st n)) → x ≡ planned (shape_of s) p st n (release a)
  unfolding plan touch_joined
  free-taken f h = h ∙ rw (f.at-is, f.cells_is) (planned-passed (shape_of s) p st n (release a) f.passed)
