-- The free run for a body by the tests 6, 23, 26, inside its zone; and what allocate leaves. Assumes nothing.
use Prim.Native.Nat.{ℕ, ◌+◌, ◌-◌, ◌*◌, ◌^◌, ◌≤◌, ◌<◌}
use mathlib.Core.Path.{◌≡◌, refl, sym, ap, ap₂, ◌∙◌}
use mathlib.Core.Bool.{Bool, true}
use mathlib.Core.Option.{some}
use mathlib.Core.List.{List}
use native.Mathlib.Nat.{min-le_left, mul-le-mul}
use native.Mathlib.Omega.{arith}
use lib.ListN.{length, take, drop, length-take}
use borrow.Author.Tests.{le-leb, lt-leb}
use Rattle.rules.specs.Shape.{Shape, pool_size, zone_at, zone_cells}
use Rattle.rules.specs.Test.{first}
use Rattle.rules.specs.Header.{within}
use Rattle.rules.specs.Runs.{cell_count, cells_for}
use Rattle.rules.specs.Staging.{Store}
use Rattle.rules.specs.Answer.{address, refused}
use Rattle.rules.specs.Zones.{walk_in, zone_data}
use Rattle.rules.specs.Plan.{Fit as Fits, allocate, fit_address, fit_test, fitted, plan, search, touch_object}
use Rattle.rules.proofs.Laid.{laid-length, zone-laid}
use Rattle.rules.proofs.Search.{fit-bound}
use Rattle.rules.proofs.Calls.{search-inv}
use Rattle.zones.specs.Found.{found_of}
use Rattle.zones.specs.declared.Fit.{Fit}
use Rattle.std.specs.Prelude.{Result, Ok, Err}
use Rattle.refusals.specs.declared.Refusal.{Refusal}
use mathlib.Core.Logic.{◌⊎◌, inl, inr}
use Rattle.layout.specs.Meaning.{shape_of}
use Rattle.layout.specs.declared.Shape.{Shape as LayoutShape}
use Rattle.layout.proofs.Range.{bounds, shape-good, size-bounds}
use Rattle.stage.specs.View.{entries_of, seen}
use Rattle.answers.specs.Planned.{Left, planned, stage_entries}
use Rattle.answers.proofs.Planned.{planned-passed, planned-refused}
use Rattle.allocate.specs.Placed.{FitAt, FitsBody, body_tests, place_object}

-- ---- a run found lies inside its zone

zone-count : (s : Shape) (v : List ℕ) (z : ℕ) → (walk_in s v z).whole ≡ true → cell_count (walk_in s v z).runs ≤ zone_cells s
unfolding walk_in zone_data
zone-count s v z w =
    let bs : List ℕ = take (64 * zone_cells s) (drop (zone_at s z) v) in
    let l = laid-length (zone-laid (walk_in s v z).runs bs (ap (λ (x : Bool). record { runs = (walk_in s v z).runs; whole = x }) w)) in
    omega (arith, l, length-take (64 * zone_cells s) (drop (zone_at s z) v), min-le_left (64 * zone_cells s) (length (drop (zone_at s z) v)))

-- ---- the tests

module _ (s : Shape) (v : List ℕ) (m : ℕ) where
  pub fits-none : (m ≡ 0) ⊎ (496 < m) → first (body_tests s v m) ≡ some 6
  unfolding body_tests first within
  fits-none (inl e) = rw e
  fits-none (inr h) = rw (le-leb 1 m (omega arith), lt-leb m 496 h)

  pub fits-found : {k : ℕ} (r : Result Fit Refusal) → (m ≡ 0 → ⊥) → m ≤ 496 → k ≡ cells_for m → found_of r ≡ search s v k 0 s.zones → FitsBody s v m r
  unfolding body_tests first within fit_test
  fits-found (Err n) a b e f = rw (le-leb 1 m (omega arith), le-leb m 496 b, ← e, ← f)
  fits-found (Ok x) a b e f =
      let g : search s v (cells_for m) 0 s.zones ≡ fitted x.zone (record { cell = x.cell; count = x.cells }) = rw (← e) (sym f) in
      let i = search-inv s v (cells_for m) 0 s.zones x.zone (record { cell = x.cell; count = x.cells }) g in
      let j = fit-bound (cells_for m) (walk_in s v x.zone).runs (record { cell = x.cell; count = x.cells }) i.2 in
      record {
        passed = rw (le-leb 1 m (omega arith), le-leb m 496 b, g);
        found = g;
        zone-lt = omega (arith, i.0);
        inside = omega (arith, j.0, zone-count s v x.zone i.1);
        long = j.1;
        small = b;
      }

-- ---- the numbers stay small

module _ (s : LayoutShape) {v : List ℕ} {m : ℕ} {f : Fit} (g : FitAt (shape_of s) v m f) where
  pub fit_small : (f.zone ≤ s.zones) × (f.cell + f.cells < 65536) × (pool_size (shape_of s) < 2 ^ 32)
  fit_small = (omega (arith, g.zone-lt), omega (arith, g.inside, (shape-good s).runs), omega (arith, size-bounds s))

  pub address-small : {k : ℕ} → k ≡ zone_cells (shape_of s) → f.zone * k ≤ 16 * 65536
  address-small {k} q =
      let a : f.zone ≤ 16 = omega (arith, g.zone-lt, (bounds s).zones-high) in
      let b : k ≤ 65536 = omega (arith, q, (shape-good s).runs) in
      mul-le-mul a b

-- ---- what allocate leaves

place-touches : (s : Shape) (z c n t : ℕ) (b : List ℕ) (es : List Store)
    → place_object (zone_at s z + 64 * c) (n - cells_for (length b)) t b es ≡ touch_object s (fitted z (record { cell = c; count = n })) t b es
unfolding place_object touch_object
place-touches s z c n t b es = let e : zone_at s z + 64 * c + 64 * cells_for (length b) ≡ zone_at s z + 64 * (c + cells_for (length b)) = omega arith in rw e

module _ (s : Shape) (pool st : List ℕ) (count t : ℕ) (b : List ℕ) where
  pub allocate-refused : {i : ℕ} → first (body_tests s (seen pool st count) (length b)) ≡ some i → record { answer = refused i; staging = st; count = count } ≡ planned s pool st count (allocate t b)
  unfolding plan body_tests
  allocate-refused {i} e = planned-refused s pool st count (allocate t b) i e

  pub allocate-placed : {f : Fit} {k o o' q a l : ℕ} {x : Left} → FitAt s (seen pool st count) (length b) f → x ≡ stage_entries st count (address a) (place_object o l t b (entries_of st count))
      → q ≡ zone_cells s → a ≡ f.zone * q + f.cell → o' ≡ zone_at s f.zone → o ≡ o' + 64 * f.cell → k ≡ cells_for (length b) → l ≡ f.cells - k → x ≡ planned s pool st count (allocate t b)
  unfolding plan body_tests
  allocate-placed {f} g p h h' i i' e e' =
      let a : f.zone * zone_cells s + f.cell ≡ fit_address s (search s (seen pool st count) (cells_for (length b)) 0 s.zones) = rw g.found (unfold fit_address in refl) in
      let d : place_object (zone_at s f.zone + 64 * f.cell) (f.cells - cells_for (length b)) t b (entries_of st count) ≡ touch_object s (search s (seen pool st count) (cells_for (length b)) 0 s.zones) t b (entries_of st count) =
      place-touches s f.zone f.cell f.cells t b (entries_of st count) ∙ ap (λ (y : Fits). touch_object s y t b (entries_of st count)) (sym g.found) in
      (rw (h', h, i', i, e', e) at p) ∙ ap₂ (λ (y : ℕ) (us : List Store). stage_entries st count (address y) us) a d ∙ planned-passed s pool st count (allocate t b) g.passed
