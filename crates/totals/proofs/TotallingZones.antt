-- The totals of the pool, one zone further on. Assumes nothing.
use Prim.Native.Nat.{ℕ, ◌+◌, ◌≤◌, ◌<◌}
use mathlib.Core.Path.{◌≡◌, sym, ap, ◌∙◌}
use mathlib.Core.List.{List}
use native.Mathlib.Omega.{arith}
use Rattle.rules.specs.Shape.{Shape as PoolShape}
use Rattle.rules.specs.Search.{free_cells}
use Rattle.rules.specs.Scan.{body_length, body_total, free_total, object_lines, one_object, sum_runs}
use Rattle.rules.proofs.Scan.{lines_runs}
use Rattle.rules.specs.Runs.{Walk}
use Rattle.stage.specs.Seen.{Alone}
use Rattle.stage.specs.declared.View.{View}
use Rattle.runs.specs.Taken.{walk_by}
use Rattle.runs.specs.declared.Zone.{Zone}
use Rattle.zones.specs.Found.{ZoneIs}
use Rattle.zones.proofs.Shaped.{walk-alone}
use Rattle.zones.proofs.Summing.{SummingZones, summing-end, summing_start, summing-step}
use Rattle.totals.specs.Totalled.{LinesTotalled, Small, Totalled}

pub record TotallingZones (s : PoolShape) (v : List ℕ) (z o b f : ℕ) : Type 0 where
  pub within : z ≤ s.zones
  pub objects : SummingZones one_object 65536 s v z o
  pub bytes : SummingZones body_length 4194304 s v z b
  pub free : SummingZones free_cells 65536 s v z f

pub zones-start : (s : PoolShape) (v : List ℕ) {o b f : ℕ} → (o ≡ 0) × (b ≡ 0) × (f ≡ 0) → TotallingZones s v 0 o b f
zones-start s v e = rw (e.0, e.1, e.2) (record { within = omega arith; objects = summing_start _ _ s v; bytes = summing_start _ _ s v; free = summing_start _ _ s v })

pub zone-small : {w : Walk} {n o b f : ℕ} → n < 65536 → Totalled w n o b f → Small o b f
zone-small h t = record { objects = omega (arith, t.objects.few); bytes = omega (arith, t.bytes.few); free = omega (arith, t.free.few) }

module _ {s : PoolShape} {v : List ℕ} {z o b f : ℕ} (i : TotallingZones s v z o b f) where
  pub zones-small : s.zones ≤ 16 → Small o b f
  zones-small h = let w = i.within in record { objects = omega (arith, i.objects.few); bytes = omega (arith, i.bytes.few); free = omega (arith, i.free.few) }

  pub zones-step : {x : View} {r : Zone} {o₁ b₁ f₁ o₂ b₂ f₂ : ℕ} → z < s.zones → Alone v x → ZoneIs x s z r → r.cells < 65536 → Totalled (walk_by r) r.cells o₁ b₁ f₁
      → (o₂ ≡ o + o₁) × (b₂ ≡ b + b₁) × (f₂ ≡ f + f₁) → TotallingZones s v (z + 1) o₂ b₂ f₂
  zones-step h a e l t q =
      rw (q.0, q.1, q.2) (record {
        within = omega arith;
        objects = summing-step i.objects h (walk-alone a e) t.objects.sum (omega (arith, t.objects.few));
        bytes = summing-step i.bytes h (walk-alone a e) t.bytes.sum (omega (arith, t.bytes.few));
        free = summing-step i.free h (walk-alone a e) t.free.sum (omega (arith, t.free.few));
      })

  pub zones-end : s.zones ≤ z → s.zones ≤ 16 → LinesTotalled s v o b f
  unfolding object_lines body_total free_total
  zones-end h k =
      let e = lines_runs s v in
      record {
        objects = summing-end i.objects h ∙ ap (sum_runs one_object) (sym e);
        bytes = summing-end i.bytes h ∙ ap (sum_runs body_length) (sym e);
        free = summing-end i.free h ∙ ap (sum_runs free_cells) (sym e);
        small = zones-small k;
      }
