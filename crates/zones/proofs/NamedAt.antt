-- The object at a cell address, by the tests 5, 23, 24, 25. Assumes nothing.
use Prim.Native.Nat.{ℕ, ◌+◌, ◌*◌, ◌/◌, ◌%◌, ◌≤◌, ◌<◌}
use mathlib.Core.Path.{◌≡◌, sym, ap, ◌∙◌}
use mathlib.Core.Bool.{true, false}
use mathlib.Core.Option.{some}
use mathlib.Core.List.{List}
use native.Mathlib.Omega.{arith}
use lib.ListN.{length, length-drop}
use lib.Seq.{length-take-le}
use borrow.Author.Tests.{le-ltb, lt-ltb}
use Rattle.rules.specs.Shape.{Shape, zone_cells}
use Rattle.rules.specs.Test.{first}
use Rattle.rules.specs.Search.{run_at}
use Rattle.rules.specs.Zones.{body_of, head_at, is_damaged, is_object, object_tests, run_there, walk_in, zone_data}
use Rattle.rules.specs.Runs.{cells_for}
use Rattle.rules.proofs.Calls.{object-named}
use Rattle.rules.proofs.Test.{first-passed}
use Rattle.std.specs.Prelude.{Option as Maybe, None, Result, Ok, Err}
use Rattle.refusals.specs.declared.Refusal.{Refusal}
use Rattle.stage.specs.Seen.{seen_by}
use Rattle.stage.specs.View.{part}
use Rattle.stage.specs.declared.View.{View}
use Rattle.runs.specs.Rest.{walk_of}
use Rattle.runs.specs.Spotted.{Located}
use Rattle.runs.specs.Taken.{walk_by}
use Rattle.runs.specs.declared.Spot.{Spot}
use Rattle.runs.specs.declared.Zone.{Zone}
use Rattle.objects.specs.Named.{Names, run_tests}
use Rattle.objects.specs.declared.Object.{Object}
use Rattle.zones.specs.Found.{NamedAt, NamesAt, SpotAt, ZoneIs}
use Rattle.zones.proofs.Shaped.{walk-in}

module _ (s : Shape) (v : List ℕ) (a : ℕ) {n : ℕ} (c : n ≡ zone_cells s) where
  pub address-past : s.zones * n ≤ a → first (object_tests s v a) ≡ some 5
  unfolding object_tests first
  address-past h = rw (le-ltb a (s.zones * zone_cells s) (rw (← c) h))

  pub spot_past : {o : Maybe Spot} → s.zones * n ≤ a → SpotAt s v a o
  spot_past h = record { located = λ l. absurd (let q : s.zones * zone_cells s ≤ a = rw (← c) h in omega arith) }

  pub spot-broken : {o : Maybe Spot} → a < s.zones * n → SpotAt s v a o → o ≡ None → first (object_tests s v a) ≡ some 23
  unfolding object_tests first
  spot-broken h d q =
      let l : a < s.zones * zone_cells s = rw (← c) h in
      let w : (walk_in s v (a / zone_cells s)).whole ≡ false = unfold walk_in in (unfold zone_data in (unfold walk_of in (unfold part in ((d.located l).broken q)))) in
      rw (lt-ltb a (s.zones * zone_cells s) l, w)

module _ {v : View} {s : Shape} (a : ℕ) {n : ℕ} (c : n ≡ zone_cells s) {r : Zone} (e : ZoneIs v s (a / n) r) where
  pub address-named : (x : Result Object Refusal) → a < s.zones * n → (walk_by r).whole ≡ true
      → Names (seen_by r.view) (r.from + 64 * (a % n)) (run_at (a % n) 0 (walk_by r).runs) x → NamesAt s (seen_by v) a x
  unfolding object_tests first run_tests run_there head_at is_object is_damaged
  address-named (Err k) h q d =
      rw (lt-ltb a (s.zones * zone_cells s) (rw (← c) h), ← c, walk-in e, q) d
  address-named (Ok o) h q d =
      record {
        passed = rw (lt-ltb a (s.zones * zone_cells s) (rw (← c) h), ← c, walk-in e, q, d.is);
        object = rw (← c, walk-in e, ← e.from_is, ← e.view_is) d;
      }

  -- ---- the cell at an address

  pub spot_in : {o : Maybe Spot} → Located (seen_by r.view) r.from r.cells (a % n) o → SpotAt s (seen_by v) a o
  spot_in d = record { located = λ l. rw (← c, ← e.from_is, ← e.view_is) (rw (e.cells_is ∙ sym c) at d) }

  pub spot-located : {o : Maybe Spot} → a < s.zones * n → SpotAt s (seen_by v) a o → Located (seen_by r.view) r.from r.cells (a % n) o
  spot-located h d = rw (e.view_is, e.from_is, e.cells_is, c) (d.located (rw (← c) h))

-- ---- an object that is named

module _ {s : Shape} {v : List ℕ} {a n m t : ℕ} (o : NamedAt s v a n m t) where
  pub named-below : a < s.zones * zone_cells s
  named-below = (object-named s v a (first-passed (object_tests s v a) o.passed)).below

  -- the body lies behind its head, in the object's cells
  pub named_end : head_at s a + 16 + m ≤ length v
  unfolding cells_for
  named_end = let w = o.object in omega (arith, w.inside, w.fewest)

  pub named-body : body_of (run_there s v a) ≡ part m (head_at s a + 16) v
  unfolding body_of
  named-body = rw o.object.is

  pub named-length : length (body_of (run_there s v a)) ≡ m
  named-length = ap length named-body ∙ unfold part in (length-take-le m _ (rw length-drop (omega (arith, named_end))))
