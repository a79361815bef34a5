-- The zones of a pool counted, one zone further on. Assumes nothing.
use Prim.Native.Nat.{ℕ, ◌+◌, ◌≤◌, ◌<◌}
use mathlib.Core.Path.{◌≡◌, refl, sym, ap, ◌∙◌}
use mathlib.Core.Bool.{Bool, not, cond}
use mathlib.Core.List.{List}
use native.Mathlib.Numerals.{add-one}
use native.Mathlib.Omega.{arith}
use Rattle.rules.specs.Shape.{Shape as PoolShape}
use Rattle.rules.specs.Runs.{is_free, is_good}
use Rattle.rules.specs.Zones.{walk_in}
use Rattle.rules.specs.Scrub.{broken_zones, count_to, damaged_met, objects_met, wrong_columns}
use Rattle.rules.proofs.Sums.{count-sum}
use Rattle.stage.specs.Seen.{Alone}
use Rattle.stage.specs.declared.View.{View}
use Rattle.runs.specs.Taken.{walk_by}
use Rattle.runs.specs.declared.Zone.{Zone}
use Rattle.zones.specs.Found.{ZoneIs}
use Rattle.zones.proofs.Shaped.{walk-alone}
use Rattle.zones.proofs.Summing.{SummingZones, summing-end, summing_start, summing-step}
use Rattle.scrub.specs.Counted.{Counted, Tallied}

-- one number more
count-more : (f : ℕ → Bool) (z n m : ℕ) → n ≡ count_to z f → m ≡ cond (f z) 1 0 → n + m ≡ count_to (z + 1) f
unfolding count_to
count-more f z n m e t = rw add-one (omega arith)

-- ---- the loop over the zones: o objects, d of them damaged, b broken zones

pub record CountingZones (s : PoolShape) (v : List ℕ) (z o d b : ℕ) : Type 0 where
  pub within : z ≤ s.zones
  pub objects : SummingZones (λ r. cond (not (is_free r)) 1 0) 65536 s v z o
  pub damaged : SummingZones (λ r. cond (not (is_good r)) 1 0) 65536 s v z d
  pub broken : b ≡ count_to z (λ z. not (walk_in s v z).whole)
  pub few : b ≤ z

pub zones-start : (s : PoolShape) (v : List ℕ) → CountingZones s v 0 0 0 0
unfolding count_to
zones-start s v = record { within = omega arith; objects = summing_start _ _ s v; damaged = summing_start _ _ s v; broken = refl; few = omega arith }

pub zones-step : {s : PoolShape} {p : List ℕ} {v : View} {z o d b i j k : ℕ} {r : Zone} {w : Bool} → CountingZones s p z o d b → z < s.zones → Alone p v → ZoneIs v s z r → r.cells < 65536
    → Tallied (walk_by r) r.cells i j w → (k ≡ cond (not w) 1 0) × (k ≤ 1) → CountingZones s p (z + 1) (o + i) (d + j) (b + k)
zones-step {s} {p} {v} {z} {o} {d} {b} {k = k} {w = w} c h a e l t q =
    record {
      within = omega arith;
      objects = summing-step c.objects h (walk-alone a e) (t.objects ∙ count-sum (λ r. not (is_free r)) _) (omega (arith, t.few));
      damaged = summing-step c.damaged h (walk-alone a e) (t.damaged ∙ count-sum (λ r. not (is_good r)) _) (omega (arith, t.fewer));
      broken = count-more (λ z. not (walk_in s p z).whole) z b k c.broken (rw (walk-alone a e, ← t.whole) q.0);
      few = omega (arith, c.few, q.1);
    }

pub zones-end : {s : PoolShape} {v : List ℕ} {z o d b c : ℕ} → CountingZones s v z o d b → s.zones ≤ z → c ≡ wrong_columns s v → Counted s v o d b c
unfolding objects_met damaged_met broken_zones
zones-end {s} {v} {z} i h e =
    let q : z ≡ s.zones = omega (arith, i.within) in
    record { objects = summing-end i.objects h ∙ sym (count-sum (λ r. not (is_free r)) _); damaged = summing-end i.damaged h ∙ sym (count-sum (λ r. not (is_good r)) _); broken = i.broken ∙ ap (λ (x : ℕ). count_to x (λ z. not (walk_in s v z).whole)) q; columns = e }
