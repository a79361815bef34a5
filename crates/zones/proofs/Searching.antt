-- The search for free cells, some zones and some runs further on. Assumes nothing.
use Prim.Native.Nat.{ℕ, ◌+◌, ◌-◌, ◌≤◌, ◌<◌}
use mathlib.Core.Path.{◌≡◌, refl, sym, ap, ◌∙◌}
use mathlib.Core.Bool.{Bool, true, false, cond, ◌&&◌}
use mathlib.Core.Option.{Option, none, some}
use mathlib.Core.List.{List, [], ◌∷◌}
use native.Mathlib.Nat.{sub-zero}
use native.Mathlib.Numerals.{add-one}
use native.Mathlib.Omega.{arith}
use lib.Dec.{leb}
use Rattle.std.specs.Prelude.{Result, Ok, Err}
use Rattle.rules.specs.Shape.{Shape}
use Rattle.rules.specs.Runs.{Run, Walk, cells, free, is_free, object}
use Rattle.rules.specs.Search.{Place, fit}
use Rattle.rules.specs.Plan.{Fit, failed, fit_in, fitted, search}
use Rattle.rules.specs.Zones.{walk_in}
use Rattle.rules.proofs.Numbers.{less}
use Rattle.runs.specs.Rest.{Passed}

-- The first free run of k cells or more from cell c on, where the walk from there on is w; or 23 the zone is broken.
unfoldable pub fits_from : ℕ → ℕ → Walk → Result (Option Place) ℕ
fits_from k c w = cond w.whole (Ok (fit k c w.runs)) (Err 23)

-- ---- in a zone: a run that is too short, or no free run, is passed; a free run of k cells or more fits

fit-pass : (k c : ℕ) (r : Run) (rs : List Run) (m : ℕ) → (is_free r && leb k m) ≡ false → cells r ≡ m → fit k c (r ∷ rs) ≡ fit k (c + m) rs
unfolding fit
fit-pass k c (object n t b g) rs m h e = rw (← e)
fit-pass k c (free n) rs m h e = let q : leb k n ≡ false = ap (leb k) e ∙ h in rw (q, ← e)

fit-hit : (k c : ℕ) (r : Run) (rs : List Run) (m : ℕ) → (is_free r && leb k m) ≡ true → cells r ≡ m → fit k c (r ∷ rs) ≡ some (record { cell = c; count = m })
unfolding fit
fit-hit k c (object n t b g) rs m h e = absurd (let q : ◌≡◌ {A = ℕ} 0 1 = cc in omega arith)
fit-hit k c (free n) rs m h e = let q : leb k n ≡ true = ap (leb k) e ∙ h in rw (q, ← e)

-- a run of m cells at cell c fits, if its zone is unbroken
abbrev pub fit_or : ℕ → ℕ → Bool → Result (Option Place) ℕ
fit_or c m whole = cond whole (Ok (some (record { cell = c; count = m }))) (Err 23)

module _ (k : ℕ) {v : List ℕ} {from n c : ℕ} {a : Bool} {m : ℕ} {f : Bool} (q : Passed v from n c a m f) where
  pub inside-pass : {b : Bool} → b ≡ (f && leb k m) → b ≡ false → (w : Walk) → fits_from k c (record { runs = q.that ∷ w.runs; whole = w.whole }) ≡ fits_from k (c + m) w
  unfolding fits_from
  inside-pass p h w = rw (fit-pass k c q.that w.runs m (rw q.free-is (sym p ∙ h)) q.cells_is)

  pub inside-hit : {b : Bool} → b ≡ (f && leb k m) → b ≡ true → (w : Walk) → fits_from k c (record { runs = q.that ∷ w.runs; whole = w.whole }) ≡ fit_or c m w.whole
  unfolding fits_from
  inside-hit p h w = rw (fit-hit k c q.that w.runs m (rw q.free-is (sym p ∙ h)) q.cells_is)

pub inside-broken : (k c : ℕ) {r : Result (Option Place) ℕ} → fits_from k c (record { runs = []; whole = false }) ≡ r → Err 23 ≡ r
unfolding fits_from
inside-broken k c e = e

pub inside-end : (k c : ℕ) {r : Result (Option Place) ℕ} → fits_from k c (record { runs = []; whole = true }) ≡ r → Ok none ≡ r
unfolding fits_from fit
inside-end k c e = e

-- ---- over the zones: the search from zone z on
unfoldable pub zones_from : Shape → List ℕ → ℕ → ℕ → Fit
zones_from s v k z = search s v k z (s.zones - z)

-- what a zone gives, and the search behind it
abbrev fits_then : ℕ → Result (Option Place) ℕ → Fit → Fit
fits_then z (Ok o) further = fit_in z o further
fits_then z (Err n) further = failed n

fits-walk : (k z : ℕ) (w : Walk) (further : Fit) → cond w.whole (fit_in z (fit k 0 w.runs) further) (failed 23) ≡ fits_then z (fits_from k 0 w) further
unfolding fits_from
fits-walk k z w further = go w.whole
  where
    go : (b : Bool) → cond b (fit_in z (fit k 0 w.runs) further) (failed 23) ≡ fits_then z (cond b (Ok (fit k 0 w.runs)) (Err 23)) further
    go true = refl
    go false = refl

pub record Outside (s : Shape) (v : List ℕ) (k z : ℕ) : Type 0 where
  pub rest : zones_from s v k z ≡ search s v k 0 s.zones

pub outside-start : (s : Shape) (v : List ℕ) (k : ℕ) → Outside s v k 0
unfolding zones_from
outside-start s v k = record { rest = rw (sub-zero s.zones) }

pub outside-end : {s : Shape} {v : List ℕ} {k z : ℕ} → Outside s v k z → s.zones ≤ z → failed 26 ≡ search s v k 0 s.zones
unfolding zones_from search
outside-end {s} {z = z} o h = let e : s.zones - z ≡ 0 = omega arith in rw e at o.rest

module _ {s : Shape} {v : List ℕ} {k z : ℕ} (o : Outside s v k z) (h : z < s.zones) {w : Walk} (e : w ≡ walk_in s v z) where
  outside-zone : fits_then z (fits_from k 0 w) (zones_from s v k (z + 1)) ≡ search s v k 0 s.zones
  unfolding zones_from search
  outside-zone =
      sym (fits-walk k z w (search s v k (z + 1) (s.zones - (z + 1)))) ∙ rw add-one (rw (less s.zones z h, ← e, add-one z) at o.rest)

  outside-fits : {x : Result (Option Place) ℕ} → x ≡ fits_from k 0 w → fits_then z x (zones_from s v k (z + 1)) ≡ search s v k 0 s.zones
  outside-fits f = ap (λ (y : Result (Option Place) ℕ). fits_then z y (zones_from s v k (z + 1))) f ∙ outside-zone

  pub outside-step : Ok none ≡ fits_from k 0 w → Outside s v k (z + 1)
  unfolding fit_in
  outside-step q = record { rest = outside-fits q }

  pub outside-hit : {p : Place} → Ok (some p) ≡ fits_from k 0 w → fitted z p ≡ search s v k 0 s.zones
  unfolding fit_in
  outside-hit q = outside-fits q

  pub outside-refused : {n : ℕ} → Err n ≡ fits_from k 0 w → failed n ≡ search s v k 0 s.zones
  outside-refused q = outside-fits q
