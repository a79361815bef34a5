-- A number of each run added up over the zones of a pool, one zone further on. Assumes nothing.
use Prim.Native.Nat.{ℕ, ◌+◌, ◌-◌, ◌*◌, ◌≤◌, ◌<◌}
use mathlib.Core.Path.{◌≡◌, ap, ◌∙◌}
use mathlib.Core.List.{List}
use native.Mathlib.Nat.{sub-zero, suc-mul, zero-add}
use native.Mathlib.Numerals.{add-one}
use native.Mathlib.Omega.{arith}
use Rattle.rules.specs.Shape.{Shape as PoolShape}
use Rattle.rules.specs.Runs.{Run, Walk}
use Rattle.rules.specs.Zones.{runs_from, walk_in}
use Rattle.rules.specs.Scan.{sum_runs}
use Rattle.rules.proofs.Numbers.{less}
use Rattle.rules.proofs.Sums.{sum-append}

-- the runs of the zones before z add up to k, at most b a zone
pub record SummingZones (f : Run → ℕ) (b : ℕ) (s : PoolShape) (v : List ℕ) (z k : ℕ) : Type 0 where
  pub rest : k + sum_runs f (runs_from s v z (s.zones - z)) ≡ sum_runs f (runs_from s v 0 s.zones)
  pub few : k ≤ z * b

pub summing_start : (f : Run → ℕ) (b : ℕ) (s : PoolShape) (v : List ℕ) → SummingZones f b s v 0 0
summing_start f b s v = record { rest = rw (sub-zero s.zones) (zero-add _); few = omega arith }

pub summing-step : {f : Run → ℕ} {b : ℕ} {s : PoolShape} {v : List ℕ} {z k j : ℕ} {w : Walk} → SummingZones f b s v z k → z < s.zones → walk_in s v z ≡ w
    → j ≡ sum_runs f w.runs → j ≤ b → SummingZones f b s v (z + 1) (k + j)
unfolding runs_from
summing-step {f} {b} {s} {v} {z} {k} i h e q l =
    let r = rw (less s.zones z h, e, sum-append f, ← (add-one z)) at i.rest in
    let m : (z + 1) * b ≡ z * b + b = ap (λ (x : ℕ). x * b) (add-one z) ∙ suc-mul z b in
    record { rest = omega (arith, r); few = omega (arith, i.few) }

pub summing-end : {f : Run → ℕ} {b : ℕ} {s : PoolShape} {v : List ℕ} {z k : ℕ} → SummingZones f b s v z k → s.zones ≤ z → k ≡ sum_runs f (runs_from s v 0 s.zones)
unfolding runs_from sum_runs
summing-end {s = s} {z = z} i h = let e : s.zones - z ≡ 0 = omega arith in let r = rw e at i.rest in omega (arith, r)
