-- The runs of a zone counted, one run further on. Assumes nothing.
use Prim.Native.Nat.{ℕ, ◌+◌, ◌*◌, ◌≤◌}
use mathlib.Core.Path.{◌≡◌, refl, sym, ap, ap₂, ◌∙◌}
use mathlib.Core.Bool.{Bool, true, false, not, cond}
use mathlib.Core.List.{List, [], ◌∷◌}
use native.Mathlib.Nat.{add_assoc}
use native.Mathlib.Omega.{arith}
use lib.ListN.{length, drop}
use Rattle.std.specs.Int.{from_bool}
use Rattle.rules.specs.Runs.{Run, Walk, free, good_in, head_cells, head_length, is_free, is_good, object, object_ok}
use Rattle.rules.specs.Scrub.{count_runs}
use Rattle.rules.proofs.Bool.{split}
use Rattle.stage.specs.View.{part}
use Rattle.runs.specs.Rest.{Passed, Zoned}
use Rattle.objects.specs.Named.{object_run}
use Rattle.objects.proofs.Naming.{body-inside, passed-object}
use Rattle.scrub.specs.Counted.{ObjectThere, Tallied, damaged_at}

-- ---- one run

-- the number of a truth value
pub one-if : (b : Bool) {k : ℕ} → k ≡ from_bool b → (k ≡ cond b 1 0) × (k ≤ 1)
one-if true e = (e, omega arith)
one-if false e = (e, omega arith)

pub object-there : {v : List ℕ} {from n c : ℕ} {a : Bool} {m : ℕ} {f : Bool} → Zoned v from n → Passed v from n c a m f → f ≡ false → ObjectThere v (from + 64 * c)
object-there z d e = let h = passed-object d e refl in record { ok = h.ok; inside = omega (arith, h.inside, z.inside) }

free-good : (r : Run) → is_free r ≡ true → is_good r ≡ true
free-good (free n) e = refl
free-good (object n t b g) e = absurd (let z : ◌≡◌ {A = ℕ} 0 1 = cc in omega arith)

run-damaged : {v : List ℕ} {from n c : ℕ} {a : Bool} {m : ℕ} {f : Bool} (d : Passed v from n c a m f) → damaged_at v (from + 64 * c) f ≡ not (is_good d.that)
unfolding damaged_at
run-damaged {f = f} d =
    split f
    (λ e. rw (e, free-good d.that (d.free-is ∙ e)))
    (λ e. rw (e, (passed-object d e refl).is))

-- ---- the object at a byte

pub object-room : {v : List ℕ} {a : ℕ} → ObjectThere v a → a + 16 + head_length (part 16 a v) ≤ length v
object-room {v} {a} o = body-inside (part 16 a v) a o.ok refl o.inside

pub head-there : {v : List ℕ} {a : ℕ} {h : List ℕ} → ObjectThere v a → h ≡ part 16 a v → (a + 64 * head_cells h ≤ length v) × (object_ok h ≡ true)
head-there o q = (rw q o.inside, rw q o.ok)

pub free-damaged_at : (v : List ℕ) (a : ℕ) {f : Bool} → f ≡ true → false ≡ damaged_at v a f
unfolding damaged_at
free-damaged_at v a e = rw e

pub object-damaged_at : (v : List ℕ) (a : ℕ) {f : Bool} {h : List ℕ} {x : Bool} → f ≡ false → h ≡ part 16 a v → x ≡ good_in h (drop (a + 16) v) → not x ≡ damaged_at v a f
unfolding damaged_at object_run
object-damaged_at v a e q k = rw (e, k, q)

-- ---- the loop over a zone's runs: o objects, d of them damaged before the walk w

abbrev pub Tallies : Type 0
Tallies = ℕ × ℕ × Bool

abbrev pub tallies : ℕ → ℕ → ℕ → Walk → Tallies
tallies o d c w = (o + count_runs (λ r. not (is_free r)) w.runs, d + count_runs (λ r. not (is_good r)) w.runs, w.whole)

pub tallies-step : (o d : ℕ) {v : List ℕ} {from n c : ℕ} {a : Bool} {m i j : ℕ} {f x : Bool} (p : Passed v from n c a m f) → i ≡ cond (not f) 1 0
    → x ≡ damaged_at v (from + 64 * c) f → j ≡ cond x 1 0 → (w : Walk) → tallies o d c (record { runs = p.that ∷ w.runs; whole = w.whole }) ≡ tallies (o + i) (d + j) (c + m) w
unfolding count_runs
tallies-step o d p e q l w = rw (p.free-is, ← (run-damaged p), ← q, ← e, ← l) (ap₂ (λ (x y : ℕ). (x, y, w.whole)) (sym (add_assoc o _ _)) (sym (add_assoc d _ _)))

pub tallied : (c : ℕ) {n o d : ℕ} {w : Walk} {b : Bool} → tallies o d c (record { runs = []; whole = b }) ≡ tallies 0 0 0 w → o ≤ n → d ≤ n → Tallied w n o d b
unfolding count_runs
tallied c e h k =
    let i = ap (λ (x : Tallies). x.0) e in
    let j = ap (λ (x : Tallies). x.1) e in
    record { objects = omega (arith, i); damaged = omega (arith, j); whole = ap (λ (x : Tallies). x.2) e; few = h; fewer = k }
