-- The look-up in a zone, one run further on. Assumes nothing.
use Prim.Native.Nat.{ℕ, ◌+◌, ◌*◌, ◌≤◌, ◌<◌}
use mathlib.Core.Path.{◌≡◌, refl, sym, ap, ◌∙◌}
use mathlib.Core.Bool.{Bool, true, false}
use mathlib.Core.Option.{Option, none, some, or_else}
use mathlib.Core.List.{List, [], ◌∷◌}
use native.Mathlib.Nat.{add_assoc, add-zero}
use native.Mathlib.Omega.{arith}
use lib.Dec.{eqb, leb}
use borrow.Author.Tests.{le-leb, lt-leb}
use Rattle.rules.specs.Runs.{Run, Walk, cells, free, head_tag, is_free, object}
use Rattle.rules.specs.Book.{book}
use Rattle.rules.specs.Tag.{first_from, first_tagged, with_tag}
use Rattle.rules.proofs.Bool.{split}
use Rattle.std.specs.Prelude.{Option as Maybe, Some, None, Result, Ok, Err}
use Rattle.std.specs.Option.{option_or}
use Rattle.stage.specs.View.{part}
use Rattle.runs.specs.Rest.{Passed}
use Rattle.objects.specs.Named.{object_run}
use Rattle.objects.proofs.Naming.{passed-object}
use Rattle.tags.specs.Found.{hit_if, hits_from, slot_of, tagged_at}

-- ---- the first of three

pub or-none : {A : Type 0} (x : Option A) → or_else x none ≡ x
unfolding or_else
or-none none = refl
or-none (some a) = refl

pub or_assoc : {A : Type 0} (x y z : Option A) → or_else x (or_else y z) ≡ or_else (or_else x y) z
unfolding or_else
or_assoc none y z = refl
or_assoc (some a) y z = refl

-- ---- the hit at a run

pub free-tagged_at : (v : List ℕ) (a t : ℕ) {f : Bool} → f ≡ true → false ≡ tagged_at v a f t
unfolding tagged_at
free-tagged_at v a t e = rw e

pub object-tagged_at : (v : List ℕ) (a t : ℕ) {f : Bool} {h : List ℕ} {u : ℕ} → f ≡ false → h ≡ part 16 a v → u ≡ head_tag h → eqb u t ≡ tagged_at v a f t
unfolding tagged_at
object-tagged_at v a t e q k = rw (e, k, q)

pub hit-here : {g : Bool} {a from : ℕ} → from ≤ a → g ≡ true → some a ≡ hit_if g a from
unfolding hit_if
hit-here {a = a} {from} l e = rw (e, le-leb from a l)

pub hit-below : (g : Bool) {a from : ℕ} → a < from → none ≡ hit_if g a from
unfolding hit_if
hit-below g {a} {from} l = split g (λ e. rw (e, lt-leb from a l)) (λ e. rw e)

pub hit-untagged : {g : Bool} (a from : ℕ) → g ≡ false → none ≡ hit_if g a from
unfolding hit_if
hit-untagged a from e = rw e

pub slot-or : (h x : Maybe ℕ) → slot_of (option_or h x) ≡ or_else (slot_of h) (slot_of x)
unfolding or_else
slot-or None x = refl
slot-or (Some a) x = refl

-- ---- one run

is_tagged : ℕ → Run → Bool
is_tagged t (free n) = false
is_tagged t (object n u b g) = eqb u t

free-tagged : (t : ℕ) (r : Run) → is_free r ≡ true → is_tagged t r ≡ false
unfolding is_tagged
free-tagged t (free n) e = refl
free-tagged t (object n u b g) e = absurd (let z : ◌≡◌ {A = ℕ} 0 1 = cc in omega arith)

run-tagged : (t : ℕ) {v : List ℕ} {start n c : ℕ} {a : Bool} {m : ℕ} {f : Bool} (d : Passed v start n c a m f) → tagged_at v (start + 64 * c) f t ≡ is_tagged t d.that
unfolding tagged_at is_tagged object_run
run-tagged t {f = f} d =
    split f
    (λ e. rw (e, free-tagged t d.that (d.free-is ∙ e)))
    (λ e. rw (e, (passed-object d e refl).is))

first_run : (t from c : ℕ) (r : Run) (rs : List Run)
    → first_tagged t from (book c (r ∷ rs)) ≡ or_else (hit_if (is_tagged t r) c from) (first_tagged t from (book (c + cells r) rs))
unfolding first_tagged first_from with_tag book is_tagged hit_if or_else
first_run t from c (free n) rs = refl
first_run t from c (object n u b g) rs = split (eqb u t) (λ e. rw e (split (leb from c) (λ h. rw h) (λ h. rw h))) (λ e. rw e)

-- ---- the loop over a zone's runs

module _ (t from b : ℕ) where
  -- the walk from cell c on, behind the hit h
  abbrev pub scans : Option ℕ → ℕ → Walk → Result (Option ℕ) ℕ
  scans h c w = hits_from t from h (b + c) w

  pub scans-step : (h : Maybe ℕ) {v : List ℕ} {start n c : ℕ} {a : Bool} {m : ℕ} {f : Bool} (p : Passed v start n c a m f) (x : Maybe ℕ) → slot_of x ≡ hit_if (tagged_at v (start + 64 * c) f t) (b + c) from
      → (w : Walk) → scans (slot_of h) c (record { runs = p.that ∷ w.runs; whole = w.whole }) ≡ scans (slot_of (option_or h x)) (c + m) w
  unfolding hits_from
  scans-step h {c = c} {m = m} p x e w =
      let y : first_tagged t from (book (b + c) (p.that ∷ w.runs)) ≡ or_else (hit_if (is_tagged t p.that) (b + c) from) (first_tagged t from (book (b + (c + m)) w.runs)) =
      rw (← (add_assoc b c m), ← p.cells_is) (first_run t from (b + c) p.that w.runs) in
      rw (y, ← (run-tagged t p), ← e, or_assoc (slot_of h), slot-or h x)

  pub scans-start : (h : Option ℕ) (w : Walk) → scans h 0 w ≡ hits_from t from h b w
  scans-start h w = rw (add-zero b)

  pub scans-broken : (h : Option ℕ) (c : ℕ) {r : Result (Option ℕ) ℕ} → scans h c (record { runs = []; whole = false }) ≡ r → Err 23 ≡ r
  unfolding hits_from
  scans-broken h c e = e

  pub scans-end : (h : Option ℕ) (c : ℕ) {r : Result (Option ℕ) ℕ} → scans h c (record { runs = []; whole = true }) ≡ r → Ok h ≡ r
  unfolding hits_from first_tagged first_from with_tag book
  scans-end h c e = ap Ok (sym (or-none h)) ∙ e
