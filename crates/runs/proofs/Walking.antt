-- The loop that walks a zone's runs, some runs further on: what is left of the walk gives the loop's whole result (`Walking`). One law each
-- for its start, a step, a break and the end; a loop adds what one run does to F. Assumes nothing.
use Prim.Native.Nat.{ℕ, ◌+◌, ◌≤◌, ◌<◌}
use mathlib.Core.Path.{◌≡◌, sym, ap, ap₂, ◌∙◌}
use mathlib.Core.Bool.{Bool, true, false}
use mathlib.Core.List.{List, [], ◌∷◌}
use native.Mathlib.Omega.{arith}
use Rattle.std.specs.Prelude.{Some, None}
use Rattle.rules.specs.Runs.{Run, Walk}
use Rattle.runs.specs.Rest.{Meets, Passed, Zoned, rest_of, walk_of, walk_on}
use Rattle.runs.specs.declared.Run.{Run as MetRun}
use Rattle.runs.proofs.Rest.{walk-broken, walk_end, walk-passed, walk_start}

-- The loop came to cell c, behind a free run or not. F w: its result with what it gathered before, where the walk from there on is w.
pub record Walking {R : Type 0} (F : Walk → R) (result : R) (v : List ℕ) (from n c : ℕ) (after : Bool) : Type 0 where
  pub zoned : Zoned v from n
  pub within : c ≤ n
  pub rest : F (walk_on after (rest_of v from n c)) ≡ result

-- From the first cell on. A loop from another cell on starts with the record itself.
pub walking_start : {R : Type 0} {F : Walk → R} {result : R} {v : List ℕ} {from n : ℕ} → Zoned v from n → F (walk_of v from n) ≡ result → Walking F result v from n 0 false
walking_start {F = F} {v = v} {from} {n} z e = record { zoned = z; within = omega arith; rest = ap F (walk_start v from n) ∙ e }

module _ {R : Type 0} {F : Walk → R} {result : R} {v : List ℕ} {from n c : ℕ} {after : Bool} (i : Walking F result v from n c after) where
  -- the run at cell c
  pub walking-passed : {r : MetRun} → c < n → Meets v from n c after (Some r) → Passed v from n c after r.cells r.free
  walking-passed h e = walk-passed i.zoned h e

  pub walking-step : {G : Walk → R} {m : ℕ} {f : Bool} (p : Passed v from n c after m f) → ((w : Walk) → F (record { runs = p.that ∷ w.runs; whole = w.whole }) ≡ G w)
      → Walking G result v from n (c + m) f
  walking-step {m = m} {f} p e =
      let w = ap₂ (λ (x : List Run) (y : Bool). F (record { runs = x; whole = y })) p.runs p.whole in
      record { zoned = i.zoned; within = p.within; rest = sym (w ∙ e (walk_on f (rest_of v from n (c + m)))) ∙ i.rest }

  -- no run follows
  pub walking-stop : {b : Bool} → walk_on after (rest_of v from n c) ≡ record { runs = []; whole = b } → F (record { runs = []; whole = b }) ≡ result
  walking-stop e = sym (ap F e) ∙ i.rest

  pub walking-broken : c < n → Meets v from n c after None → F (record { runs = []; whole = false }) ≡ result
  walking-broken h e = walking-stop (walk-broken i.zoned h e)

  pub walking-end : n ≤ c → F (record { runs = []; whole = true }) ≡ result
  walking-end h = walking-stop (walk_end c after i.zoned h)
