-- Arrangements and bytes: a zone that the walk calls unbroken is arranged (`walk-arranged`), and each arrangement of at most 8 cells is that of
-- a zone (`arranged-zone`). Assumes nothing.
use Prim.Native.Nat.{ℕ, ◌+◌, ◌-◌, ◌*◌, ◌≤◌}
use mathlib.Core.Path.{◌≡◌, refl, sym, ap, ap₂, ◌∙◌, subst}
use mathlib.Core.Bool.{Bool, true, false}
use mathlib.Core.List.{List, [], ◌∷◌, ◌++◌, map}
use native.Mathlib.Omega.{arith}
use lib.ListN.{length, length-replicate, replicate}
use Rattle.rules.specs.Words.{Bytes}
use Rattle.rules.specs.Runs.{Run, Walk, cell_count, cells_for, free_head, is_good, object_bytes, zone_walk}
use Rattle.rules.specs.Runs as Runs
use Rattle.rules.specs.Zones.{all_good}
use Rattle.rules.proofs.Bool.{and-join}
use Rattle.rules.proofs.Words.{bytes-append, bytes-zeros}
use Rattle.rules.proofs.Laid.{Laid, Seg, ended_here, laid-length, laid-zone, more, seg-cells, zone-laid}
use Rattle.rules.proofs.Segments.{free_bytes_lem, object-bytes, seg-free, seg-object}
use Rattle.arrangements.specs.Arrangements.{Extent, Zone, arrangement_of, cells, extent_of, free, is_free, object}
use Rattle.arrangements.proofs.Arranged.{Arranged}

-- An extent has its run's cells, and is free where the run is.
extent-same : (r : Run) → (cells (extent_of r) ≡ Runs.cells r) × (is_free (extent_of r) ≡ Runs.is_free r)
extent-same (Runs.free n) = (refl, refl)
extent-same (Runs.object n t b g) = (refl, refl)

-- ---- From bytes.

-- each run has a cell at least
pub laid-arranged : {after : Bool} {rs : List Run} {bs : List ℕ} → Laid after rs bs → Arranged after (cell_count rs) (map extent_of rs)
unfolding cell_count
laid-arranged ended_here = refl
laid-arranged (more {r = r} {rs = rs} g k l e) =
    let s = extent-same r in
    let d : Runs.cells r + cell_count rs - cells (extent_of r) ≡ cell_count rs = omega arith in
    ((omega (arith, seg-cells g), omega arith, rw s.1 k), rw (d, s.1) (laid-arranged l))

pub walk-arranged : (n : ℕ) (bs : List ℕ) → length bs ≡ 64 * n → (zone_walk bs).whole ≡ true → Arranged false n (arrangement_of bs)
unfolding arrangement_of
walk-arranged n bs e w =
    let l = zone-laid (zone_walk bs).runs bs (λ i. record { runs = (zone_walk bs).runs; whole = w i }) in
    let c : cell_count (zone_walk bs).runs ≡ n = omega (arith, laid-length l) in
    rw c at (laid-arranged l)

-- ---- To bytes: a run of k cells is its head, and zeros behind it.

zeros : ℕ → List ℕ
zeros k = replicate (64 * k - 16) 0

length-zeros : (k : ℕ) → length (zeros k) ≡ 64 * k - 16
unfolding zeros
length-zeros k = length-replicate {A = ℕ} (64 * k - 16) 0

zeros-bytes : (k : ℕ) → Bytes (zeros k)
unfolding zeros
zeros-bytes k = bytes-zeros (64 * k - 16)

-- a body of these zeros fills k cells
zeros-cells : (k : ℕ) → 1 ≤ k → cells_for (length (zeros k)) ≡ k
unfolding cells_for
zeros-cells k p = rw (length-zeros k) (omega arith)

-- A good run and its bytes, for an extent.
record Made (x : Extent) : Type 0 where
  run : Run
  bytes : List ℕ
  seg : Seg run bytes
  good : is_good run ≡ true
  proper : Bytes bytes
  extent : extent_of run ≡ x

made : (x : Extent) → 1 ≤ cells x → cells x ≤ 8 → Made x
made (free k) p q = record {
  run = Runs.free k;
  bytes = free_head k ++ zeros k;
  seg = seg-free k (zeros k) p (omega arith) (omega (arith, length-zeros k));
  good = refl;
  proper = bytes-append (free_head k) (zeros k) (free_bytes_lem k) (zeros-bytes k);
  extent = refl;
}
made (object k) p q = record {
  run = Runs.object (cells_for (length (zeros k))) 0 (zeros k) true;
  bytes = object_bytes 0 (zeros k);
  seg = seg-object 0 (zeros k) (omega arith) (zeros-bytes k) (omega (arith, length-zeros k)) (omega (arith, length-zeros k));
  good = refl;
  proper = object-bytes 0 (zeros k) (zeros-bytes k);
  extent = ap object (zeros-cells k p);
}

-- The same for an arrangement.
record Filled (after : Bool) (m : ℕ) (a : List Extent) : Type 0 where
  runs : List Run
  bytes : List ℕ
  laid : Laid after runs bytes
  good : all_good runs ≡ true
  proper : Bytes bytes
  count : cell_count runs ≡ m
  arranged : map extent_of runs ≡ a

filled : (after : Bool) (m : ℕ) (a : List Extent) → m ≤ 8 → Arranged after m a → Filled after m a
unfolding cell_count all_good
filled after m [] l h = record { runs = []; bytes = []; laid = ended_here; good = refl; proper = bytes-zeros 0; count = sym h; arranged = refl }
filled after m (x ∷ a) l h =
    let i = made x h.0.0 (omega arith) in
    let j = filled (is_free x) (m - cells x) a (omega arith) h.1 in
    let s = extent-same i.run in
    let c : Runs.cells i.run ≡ cells x = sym s.0 ∙ ap cells i.extent in
    let f : is_free x ≡ Runs.is_free i.run = ap is_free (sym i.extent) ∙ s.1 in
    record {
      runs = i.run ∷ j.runs;
      bytes = i.bytes ++ j.bytes;
      laid = more i.seg (rw f at h.0.2) (subst (λ (b : Bool). Laid b j.runs j.bytes) f j.laid) refl;
      good = and-join (is_good i.run) (all_good j.runs) i.good j.good;
      proper = bytes-append i.bytes j.bytes i.proper j.proper;
      count = rw (c, j.count) (omega arith);
      arranged = ap₂ (λ (y : Extent) (b : List Extent). y ∷ b) i.extent j.arranged;
    }

pub arranged-zone : (n : ℕ) (a : List Extent) → n ≤ 8 → Arranged false n a → Zone n a
unfolding arrangement_of
arranged-zone n a l h =
    let i = filled false n a l h in
    let w : zone_walk i.bytes ≡ record { runs = i.runs; whole = true } = laid-zone i.runs i.bytes i.laid in
    record {
      bytes = i.bytes;
      proper = i.proper;
      size = rw i.count at (laid-length i.laid);
      whole = ap (λ (x : Walk). x.whole) w;
      good = rw w i.good;
      arranged = rw w i.arranged;
    }
