-- What a pool's shape tells of its zones. Assumes nothing.
use Prim.Native.Nat.{ℕ, ◌*◌, ◌/◌, ◌%◌, ◌≤◌, ◌<◌}
use mathlib.Core.Path.{◌≡◌, sym, ap, subst, ◌∙◌}
use mathlib.Core.List.{List}
use native.Mathlib.Nat.{div-lt_iff_lt-mul, mod-lt, mul-le-mul, mul-le-mul_right, mul-pos}
use native.Mathlib.Omega.{arith}
use lib.ListN.{length}
use Rattle.rules.specs.Shape.{Shape as PoolShape, pool_size, zone_at, zone_cells, zone_size}
use Rattle.rules.specs.Zones.{walk_in, zone_data}
use Rattle.rules.proofs.Shape.{size-even, zone-cells, zone-end, zone-even}
use Rattle.layout.specs.Meaning.{shape_of}
use Rattle.layout.specs.declared.opened.Pool.{Pool}
use Rattle.layout.specs.declared.Shape.{Shape}
use Rattle.layout.proofs.Range.{bounds, shape-good}
use Rattle.stage.specs.Seen.{Alone, seen_by}
use Rattle.stage.specs.View.{part}
use Rattle.stage.specs.declared.View.{View}
use Rattle.runs.specs.Rest.{Zoned, walk_of}
use Rattle.runs.specs.Taken.{walk_by}
use Rattle.runs.specs.declared.Zone.{Zone}
use Rattle.zones.specs.Found.{ZoneIs}

-- a zone's walk is that of 01
pub walk-in : {v : View} {s : PoolShape} {z : ℕ} {r : Zone} → ZoneIs v s z r → walk_in s (seen_by v) z ≡ walk_by r
unfolding walk_in zone_data walk_of part
walk-in e = rw (e.view_is, e.from_is, e.cells_is)

pub walk-alone : {p : List ℕ} {v : View} {s : PoolShape} {z : ℕ} {r : Zone} → Alone p v → ZoneIs v s z r → walk_in s p z ≡ walk_by r
walk-alone {s = s} {z} a e = ap (λ (x : List ℕ). walk_in s x z) (sym a.shows) ∙ walk-in e

-- a zone by an equal shape
pub zone-of : {s t : Shape} {v : View} {z : ℕ} {r : Zone} → t ≡ s → ZoneIs v (shape_of t) z r → ZoneIs v (shape_of s) z r
zone-of {v = v} {z} {r} e d = subst (λ (x : Shape). ZoneIs v (shape_of x) z r) e d

module _ (s : Shape) where
  pub zone-inside : {pool : List ℕ} {z from n : ℕ} → length pool ≡ pool_size (shape_of s) → z < s.zones → from ≡ zone_at (shape_of s) z → n ≡ zone_cells (shape_of s) → Zoned pool from n
  unfolding zone_at
  zone-inside {z = z} l h e f =
      let g = shape-good s in
      let w : 64 * zone_cells (shape_of s) ≤ zone_size (shape_of s) = omega (arith, zone-cells (shape_of s) g) in
      record {
        even = rw e (zone-even (shape_of s) g z);
        inside = rw (e, f, l) (omega (arith, mul-le-mul_right (zone_size (shape_of s)) h, w, zone-end (shape_of s) g));
      }

  pub cells-some : 1 ≤ zone_cells (shape_of s)
  unfolding zone_cells
  cells-some =
      let g = shape-good s in
      let k : 0 < s.page / 64 = omega (arith, g.page-min) in mul-pos (mul-pos g.rows-pos g.cols-pos) k

  pub cells-small : zone_cells (shape_of s) < 65536
  cells-small = (shape-good s).runs

  pub address-bound : s.zones * zone_cells (shape_of s) ≤ 16 * 65536
  address-bound = let b : zone_cells (shape_of s) ≤ 65536 = omega (arith, cells-small) in mul-le-mul (bounds s).zones-high b

  pub address-zone : {a n : ℕ} → n ≡ zone_cells (shape_of s) → a < s.zones * n → a / n < s.zones
  address-zone {a} {n} e h = let k : 0 < n = rw e cells-some in (div-lt_iff_lt-mul k).1 h

  pub address-cell : (a : ℕ) {n m : ℕ} → n ≡ zone_cells (shape_of s) → m ≡ zone_cells (shape_of s) → a % n < m
  address-cell a {n} e f = let k : 0 < n = rw e cells-some in rw (f ∙ sym e) (mod-lt a k)

-- a pool has whole words
pub pool-words : (p : Pool) → length p.bytes.now % 8 ≡ 0
pool-words p = rw p.sized (size-even (shape_of p.shape) (shape-good p.shape))
