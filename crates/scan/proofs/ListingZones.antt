-- The lines of the pool, zone by zone, and their number. Assumes nothing.
use Prim.Native.Nat.{ℕ, ◌+◌, ◌-◌, ◌*◌, ◌≤◌, ◌<◌}
use mathlib.Core.Path.{◌≡◌, refl, ap, ◌∙◌}
use mathlib.Core.List.{List, ◌++◌}
use native.Mathlib.Nat.{le_refl, mul_assoc, mul-le-mul, mul-le-mul_right, sub-zero, suc-mul}
use native.Mathlib.Numerals.{add-one}
use native.Mathlib.Omega.{arith}
use lib.ListN.{length}
use Rattle.rules.specs.Shape.{Shape as PoolShape, zone_at, zone_cells, zone_size}
use Rattle.rules.specs.Scan.{zones_text}
use Rattle.rules.proofs.Numbers.{less}
use Rattle.rules.proofs.Shape.{zone-end}
use Rattle.rules.proofs.Format.{zone-size}
use Rattle.layout.specs.declared.Shape.{Shape}
use Rattle.layout.specs.declared.opened.Pool.{Pool}
use Rattle.layout.specs.Meaning.{shape_of}
use Rattle.layout.proofs.Range.{shape-good}
use Rattle.stage.specs.Seen.{Alone}
use Rattle.stage.specs.declared.View.{View}
use Rattle.runs.specs.Taken.{walk_by}
use Rattle.runs.specs.declared.Zone.{Zone}
use Rattle.zones.specs.Found.{ZoneIs}
use Rattle.zones.proofs.Shaped.{address-bound, walk-alone}
use Rattle.texts.specs.declared.Text.{Text}
use Rattle.texts.specs.Adds.{Adds}
use Rattle.texts.proofs.Adds.{Adding, adding-end, adding-start, adding-step, adds_as}
use Rattle.scan.specs.Lined.{zone_text}

pub record ListingZones (s : PoolShape) (v : List ℕ) (t t' : Text) (z : ℕ) : Type 0 where
  pub within : z ≤ s.zones
  pub most : t'.at ≤ t.at + 64 * (z * zone_cells s)
  pub adding : Adding t (zones_text s v 0 s.zones) t' (zones_text s v z (s.zones - z))

pub zones-start : (s : PoolShape) (v : List ℕ) (t : Text) → ListingZones s v t t 0
zones-start s v t = record { within = omega arith; most = omega arith; adding = rw (sub-zero s.zones) (adding-start t (zones_text s v 0 s.zones)) }

module _ {s : PoolShape} {v : List ℕ} {t t' : Text} {z : ℕ} (i : ListingZones s v t t' z) where
  pub zones-step : z < s.zones → {x : View} {y : Zone} → Alone v x → ZoneIs x s z y → {t'' : Text} → Adds (64 * y.cells) t' (zone_text (walk_by y) z) t'' → ListingZones s v t t'' (z + 1)
  unfolding zones_text zone_text
  zones-step h {y = w} k e q =
      let y : zones_text s v z (s.zones - z) ≡ zone_text (walk_by w) z ++ zones_text s v (z + 1) (s.zones - (z + 1)) = rw (less s.zones z h, walk-alone k e, add-one z) in
      let m : (z + 1) * zone_cells s ≡ z * zone_cells s + zone_cells s = ap (λ (x : ℕ). x * zone_cells s) (add-one z) ∙ suc-mul z (zone_cells s) in
      record {
        within = omega arith;
        most = omega (arith, i.most, q.put.most, m, e.cells_is);
        adding = adding-step (rw y at i.adding) q;
      }

  zones-end : s.zones ≤ z → Adds (64 * (s.zones * zone_cells s)) t (zones_text s v 0 s.zones) t'
  unfolding zones_text
  zones-end h =
      let e : z ≡ s.zones = omega (arith, i.within) in
      let d : s.zones - z ≡ 0 = omega arith in
      let q : z * zone_cells s ≡ s.zones * zone_cells s = ap (λ (x : ℕ). x * zone_cells s) e in
      adding-end (rw d at i.adding) (omega (arith, i.most))

-- ---- bounds

module _ (q : Pool) where
  abbrev s : Shape
  s = q.shape

  abbrev p : List ℕ
  p = q.bytes.now

  pub place-small : {v : List ℕ} {t t' : Text} {z : ℕ} → ListingZones (shape_of s) v t t' z → t.at ≤ 64 → t'.at ≤ 64 + 64 * (16 * 65536)
  place-small {z = z} i h =
      let b = address-bound s in
      let c : z * zone_cells (shape_of s) ≤ s.zones * zone_cells (shape_of s) = mul-le-mul_right (zone_cells (shape_of s)) i.within in
      omega (arith, i.most)

  -- a pool of at most 65,536 bytes has at most 952 cells
  cells-few : length p ≤ 65536 → s.zones * zone_cells (shape_of s) ≤ 952
  unfolding zone_at
  cells-few h =
      let k = shape-good s in
      let c : zone_cells (shape_of s) * 64 ≤ zone_size (shape_of s) = omega (arith, zone-size (shape_of s) k) in
      let d = mul-le-mul (le_refl s.zones) c in
      omega (arith, q.sized, k.page-min, zone-end (shape_of s) k, mul_assoc s.zones (zone_cells (shape_of s)) 64)

  pub zones-put : {t t' : Text} {z : ℕ} → length p ≤ 65536 → ListingZones (shape_of s) p t t' z → s.zones ≤ z → Adds 60928 t (zones_text (shape_of s) p 0 s.zones) t'
  zones-put h i e = adds_as (zones-end i e) refl (omega (arith, cells-few h))
