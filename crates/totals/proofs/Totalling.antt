-- The totals of a zone, one run further on. Assumes nothing.
use Prim.Native.Nat.{ℕ, ◌+◌, ◌*◌, ◌≤◌, ◌<◌}
use mathlib.Core.Path.{◌≡◌, refl, sym, ap, ◌∙◌}
use mathlib.Core.Bool.{Bool, true, false}
use mathlib.Core.List.{List, []}
use native.Mathlib.Nat.{add_assoc, mul-add, mul-le-mul_left, zero-add}
use native.Mathlib.Omega.{arith}
use Rattle.rules.specs.Runs.{Run, cells, free, head_cells, head_length, is_free, object}
use Rattle.rules.specs.Search.{free_cells}
use Rattle.rules.specs.Scan.{body_length, one_object, sum_runs}
use Rattle.rules.proofs.Bool.{split}
use Rattle.std.specs.Prelude.{Option, None}
use Rattle.stage.specs.View.{part}
use Rattle.stage.specs.Seen.{seen_by}
use Rattle.runs.specs.Rest.{Passed, Zoned}
use Rattle.runs.specs.Taken.{Taken, runs_on, walk_by}
use Rattle.runs.specs.declared.Run.{Run as MetRun}
use Rattle.runs.specs.declared.Runs.{Runs}
use Rattle.runs.specs.declared.Zone.{Zone}
use Rattle.runs.proofs.Rest.{zoned-seen}
use Rattle.runs.proofs.Going.{Going, Took, going-broken, going-cell, going-end, going_start, going-step}
use Rattle.objects.specs.Named.{object_run}
use Rattle.objects.proofs.Naming.{body-inside, body-length, passed-object}
use Rattle.totals.specs.Totalled.{Added, Small, Summed, Totalled}

-- ---- what one run adds

pub added-free : (v : List ℕ) (a n : ℕ) {f : Bool} → f ≡ true → Added v a n f 0 0 n
added-free v a n e = rw e (record { objects = refl; bytes = refl; cells = refl })

pub added-object : (v : List ℕ) (a n : ℕ) {f : Bool} {h : List ℕ} {b : ℕ} → f ≡ false → h ≡ part 16 a v → b ≡ head_length h → Added v a n f 1 b 0
added-object v a n e q k = rw e (record { objects = refl; bytes = k ∙ rw q; cells = refl })

-- the run r of m cells adds o, b, f
pub record Adds (r : Run) (m o b f : ℕ) : Type 0 where
  pub objects : (o ≡ one_object r) × (o ≤ 1 * m)
  pub bytes : (b ≡ body_length r) × (b ≤ 64 * m)
  pub free : (f ≡ free_cells r) × (f ≤ 1 * m)

free-adds : (r : Run) (m : ℕ) → is_free r ≡ true → cells r ≡ m → Adds r m 0 0 m
free-adds (free n) m e k = record { objects = (refl, omega arith); bytes = (refl, omega arith); free = (sym k, omega arith) }
free-adds (object n t b g) m e k = absurd (let z : ◌≡◌ {A = ℕ} 0 1 = cc in omega arith)

module _ {v : List ℕ} {from n c : ℕ} {a : Bool} {m : ℕ} {f : Bool} (z : Zoned v from n) (d : Passed v from n c a m f) where
  object-adds : f ≡ false → Adds d.that m 1 (head_length (part 16 (from + 64 * c) v)) 0
  unfolding object_run
  object-adds e =
      let at : ℕ = from + 64 * c in
      let head : List ℕ = part 16 at v in
      let h = passed-object d e refl in
      let k : cells d.that ≡ head_cells head = ap cells h.is in
      let l = body-length v head at h.ok refl (omega (arith, h.inside, z.inside)) in
      let few = body-inside head 0 {k = 64 * m} h.ok refl (omega (arith, d.cells_is)) in
      rw h.is (record { objects = (refl, omega (arith, d.some)); bytes = (sym l, omega (arith, few)); free = (refl, omega arith) })

  pub run-adds : {o b k : ℕ} → Added v (from + 64 * c) m f o b k → Adds d.that m o b k
  run-adds x =
      split f
      (λ e. let y = rw e at x in rw (y.objects, y.bytes, y.cells) (free-adds d.that m (d.free-is ∙ e) d.cells_is))
      (λ e. let y = rw e at x in rw (y.objects, y.bytes, y.cells) (object-adds e))

-- ---- a number of each run, added up

-- the runs before i add up to k, at most u a cell
pub record SummingRuns (g : Run → ℕ) (u : ℕ) (z : Zone) (i : Runs) (k : ℕ) : Type 0 where
  pub going : Going (λ c w. k + sum_runs g w.runs) (sum_runs g (walk_by z).runs) z i
  pub few : k ≤ u * i.cell

runs-start : {g : Run → ℕ} {u : ℕ} {z : Zone} {i j : Runs} → i ≡ runs_on z 0 false → j ≡ i → SummingRuns g u z j 0
runs-start p q = record { going = going_start p q (zero-add _); few = omega arith }

module _ {g : Run → ℕ} {u : ℕ} {z : Zone} {i : Runs} {k : ℕ} (s : SummingRuns g u z i k) where
  runs-step : {m : MetRun} {t : Runs} (d : Took z i m t) {j : ℕ} → (j ≡ g d.passed.that) × (j ≤ u * m.cells) → SummingRuns g u z t (k + j)
  unfolding sum_runs
  runs-step {m} d {j} q =
      record { going = going-step s.going d (λ w. rw (← q.0) (sym (add_assoc k j (sum_runs g w.runs)))); few = rw (going-cell d) (omega (arith, s.few, q.1, mul-add u i.cell m.cells)) }

  runs-summed : k + sum_runs g [] ≡ sum_runs g (walk_by z).runs → Summed g u (walk_by z) z.cells k
  unfolding sum_runs
  runs-summed e = record { sum = omega (arith, e); few = omega (arith, s.few, mul-le-mul_left u s.going.walking.within) }

-- ---- the three totals

pub record Totalling (z : Zone) (i : Runs) (o b f : ℕ) : Type 0 where
  pub objects : SummingRuns one_object 1 z i o
  pub bytes : SummingRuns body_length 64 z i b
  pub free : SummingRuns free_cells 1 z i f

pub totalling-start : {z : Zone} {i j : Runs} {o b f : ℕ} → i ≡ runs_on z 0 false → j ≡ i → (o ≡ 0) × (b ≡ 0) × (f ≡ 0) → Totalling z j o b f
totalling-start p q e = rw (e.0, e.1, e.2) (record { objects = runs-start p q; bytes = runs-start p q; free = runs-start p q })

module _ {z : Zone} {i : Runs} {o b f : ℕ} (s : Totalling z i o b f) where
  pub totalling-step : {m : MetRun} {t : Runs} → Took z i m t → {o₁ b₁ f₁ o₂ b₂ f₂ : ℕ} → Added (seen_by z.view) (z.from + 64 * m.cell) m.cells m.free o₁ b₁ f₁
      → (o₂ ≡ o + o₁) × (b₂ ≡ b + b₁) × (f₂ ≡ f + f₁) → Totalling z t o₂ b₂ f₂
  totalling-step d p e =
      let q = run-adds (zoned-seen z) d.passed p in
      rw (e.0, e.1, e.2) (record { objects = runs-step s.objects d q.objects; bytes = runs-step s.bytes d q.bytes; free = runs-step s.free d q.free })

  pub totalling-broken : {x : Option MetRun} {t : Runs} → Taken i x t → x ≡ None → Totalled (walk_by z) z.cells o b f
  totalling-broken k e =
      record {
        objects = runs-summed s.objects (going-broken s.objects.going k e);
        bytes = runs-summed s.bytes (going-broken s.bytes.going k e);
        free = runs-summed s.free (going-broken s.free.going k e);
      }

  pub totalling-end : i.zone.cells ≤ i.cell → Totalled (walk_by z) z.cells o b f
  totalling-end h =
      record {
        objects = runs-summed s.objects (going-end s.objects.going h);
        bytes = runs-summed s.bytes (going-end s.bytes.going h);
        free = runs-summed s.free (going-end s.free.going h);
      }

  -- the totals are small, and so is what a run adds
  pub totals-small : z.cells < 65536 → Small o b f
  totals-small h = let w = s.objects.going.walking.within in record { objects = omega (arith, s.objects.few); bytes = omega (arith, s.bytes.few); free = omega (arith, s.free.few) }

pub run_small : {z : Zone} {i t : Runs} {m : MetRun} {o b k : ℕ} → z.cells < 65536 → Took z i m t → Added (seen_by z.view) (z.from + 64 * m.cell) m.cells m.free o b k → Small o b k
run_small {z} h d p =
    let q = run-adds (zoned-seen z) d.passed p in
    let w = d.passed.within in
    record { objects = omega (arith, q.objects.1); bytes = omega (arith, q.bytes.1); free = omega (arith, q.free.1) }
