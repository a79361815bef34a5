-- The look-up in a pool, one zone further on. Assumes nothing.
use Prim.Native.Nat.{ℕ, ◌+◌, ◌-◌, ◌*◌, ◌≤◌, ◌<◌}
use mathlib.Core.Path.{◌≡◌, refl, sym, ap, ◌∙◌}
use mathlib.Core.Bool.{Bool, true, false}
use mathlib.Core.Option.{Option, none, or_else}
use mathlib.Core.List.{List}
use native.Mathlib.Nat.{mul-le-mul_right, sub-zero, suc-mul}
use native.Mathlib.Numerals.{add-one}
use native.Mathlib.Omega.{arith}
use Rattle.rules.specs.Shape.{Shape as PoolShape, zone_cells}
use Rattle.rules.specs.Test.{first}
use Rattle.rules.specs.Runs.{Walk}
use Rattle.rules.specs.Book.{book}
use Rattle.rules.specs.Zones.{book_from, pool_book, walk_in}
use Rattle.rules.specs.Scrub.{all_to}
use Rattle.rules.specs.Tag.{conclude_look_up, first_from, first_tagged, found, refused, with_tag}
use Rattle.rules.proofs.Bool.{and-join, split}
use Rattle.rules.proofs.Numbers.{less}
use Rattle.rules.proofs.Scrub.{all_true}
use Rattle.rules.proofs.Tag.{first-append}
use Rattle.std.specs.Prelude.{Option as Maybe, Some, None, Ok, Err}
use Rattle.layout.specs.declared.Shape.{Shape}
use Rattle.layout.specs.Meaning.{shape_of}
use Rattle.stage.specs.Seen.{Alone}
use Rattle.stage.specs.declared.View.{View}
use Rattle.runs.specs.Taken.{walk_by}
use Rattle.runs.specs.declared.Zone.{Zone}
use Rattle.zones.specs.Found.{ZoneIs}
use Rattle.zones.proofs.Shaped.{address-bound, walk-alone}
use Rattle.tags.specs.Found.{hit_of, hits_from, look_up_in, slot_of}
use Rattle.tags.proofs.Scanning.{or_assoc, or-none}

pub addresses-small : {v : View} (s : Shape) {z : ℕ} {r : Zone} → z < s.zones → ZoneIs v (shape_of s) z r → z * r.cells + r.cells ≤ 1048576
addresses-small s {z} h e = rw e.cells_is (let m = mul-le-mul_right (zone_cells (shape_of s)) h in omega (arith, address-bound s, suc-mul z (zone_cells (shape_of s))))

all-false : (n : ℕ) (f : ℕ → Bool) (i : ℕ) → i < n → f i ≡ false → all_to n f ≡ false
all-false n f i h e =
    split (all_to n f) (λ t. absurd (let q : true ≡ false = sym (all_true n f t i h) ∙ e in let z : ◌≡◌ {A = ℕ} 0 1 = cc in omega arith)) (λ q. q)

-- h is the first hit in the zones before z; they are unbroken
pub record ScanningZones (s : PoolShape) (v : List ℕ) (t from z : ℕ) (h : Option ℕ) : Type 0 where
  pub within : z ≤ s.zones
  pub rest : or_else h (first_tagged t from (book_from s v z (s.zones - z))) ≡ first_tagged t from (pool_book s v)
  pub whole : all_to z (λ z. (walk_in s v z).whole) ≡ true

pub zones-start : (s : PoolShape) (v : List ℕ) (t from : ℕ) → ScanningZones s v t from 0 none
unfolding or_else all_to pool_book
zones-start s v t from = record { within = omega arith; rest = rw (sub-zero s.zones); whole = refl }

-- what a zone gives
hits-whole : (t from b : ℕ) (h : Option ℕ) (w : Walk) {r : Option ℕ} → Ok r ≡ hits_from t from h b w → (w.whole ≡ true) × (r ≡ or_else h (first_tagged t from (book b w.runs)))
unfolding hits_from
hits-whole t from b h w e = split w.whole (λ y. (y, let q = rw y at e in cc)) (λ y. let q = rw y at e in cc)

hits-broken : (t from b : ℕ) (h : Option ℕ) (w : Walk) {n : ℕ} → Err n ≡ hits_from t from h b w → (w.whole ≡ false) × (n ≡ 23)
unfolding hits_from
hits-broken t from b h w e = split w.whole (λ y. let q = rw y at e in cc) (λ y. (y, let q = rw y at e in cc))

module _ {p : List ℕ} {v : View} {s : PoolShape} {t from z : ℕ} {h : Option ℕ} {r : Zone} (i : ScanningZones s p t from z h) (l : z < s.zones) (a : Alone p v) (e : ZoneIs v s z r) where
  pub zones-step : {k : Option ℕ} → Ok k ≡ hits_from t from h (z * r.cells) (walk_by r) → ScanningZones s p t from (z + 1) k
  unfolding book_from all_to
  zones-step q =
      let y = hits-whole t from (z * r.cells) h (walk_by r) q in
      let x = rw (less s.zones z l, first-append t from, or_assoc h, walk-alone a e, ← e.cells_is, ← y.1, ← (add-one z)) at i.rest in
      record { within = omega arith; rest = x; whole = rw add-one (and-join _ _ i.whole (rw (walk-alone a e) y.0)) }

  pub zones-broken : {n : ℕ} → Err n ≡ hits_from t from h (z * r.cells) (walk_by r) → refused n ≡ look_up_in s p t from
  unfolding look_up_in first conclude_look_up
  zones-broken q =
      let y = hits-broken t from (z * r.cells) h (walk_by r) q in
      let f = all-false s.zones (λ z. (walk_in s p z).whole) z l (ap (λ (x : Walk). x.whole) (walk-alone a e) ∙ y.0) in
      rw (f, y.1)

pub zones-end : {s : PoolShape} {v : List ℕ} {t from z : ℕ} {h : Option ℕ} → ScanningZones s v t from z h → s.zones ≤ z → found h ≡ look_up_in s v t from
unfolding look_up_in first conclude_look_up book_from first_tagged first_from with_tag
zones-end {s} {z = z} {h} i l =
    let q : z ≡ s.zones = omega (arith, i.within) in
    let d : s.zones - z ≡ 0 = omega arith in
    let r = rw d at i.rest in
    let w = rw q at i.whole in
    rw w (ap found (sym (or-none h) ∙ r))

-- what the code's hit means
pub hit-found : (h : Maybe ℕ) → hit_of (Ok h) ≡ found (slot_of h)
unfolding found
hit-found None = refl
hit-found (Some a) = refl
