-- What stands at a cell: no object, a damaged one, or a good one. Assumes nothing.
use Prim.Native.Nat.{ℕ, ◌+◌, ◌-◌, ◌*◌, ◌≤◌}
use mathlib.Core.Path.{◌≡◌, refl, sym, ap, ◌∙◌}
use mathlib.Core.Bool.{Bool, true, false}
use mathlib.Core.Option.{Option, some}
use mathlib.Core.List.{List, ◌++◌}
use native.Mathlib.Omega.{arith}
use lib.ListN.{length, take, drop, length-drop, take-append-drop}
use lib.Seq.{drop-append-le, drop-drop, length-take-le}
use Rattle.rules.specs.Test.{first}
use Rattle.rules.specs.Runs.{Run, cells_for, free, good_in, head_cells, head_length, head_tag, is_free, object, object_ok}
use Rattle.rules.specs.Search.{run_at}
use Rattle.rules.specs.Zones.{is_damaged, is_object}
use Rattle.rules.proofs.Sets.{part-take}
use Rattle.rules.proofs.Good.{good-local}
use Rattle.rules.proofs.Laid.{Says, object-ok, object-says, read-says, says-cells, says-free, says-object, step-inv}
use Rattle.rules.proofs.Segments.{cells-hold}
use Rattle.stage.specs.View.{part}
use Rattle.runs.specs.Rest.{Passed, rest_of, walk_of}
use Rattle.runs.specs.Spotted.{Spotted}
use Rattle.std.specs.Prelude.{Option as Found, Some, None}
use Rattle.runs.specs.declared.Run.{Run as MetRun}
use Rattle.runs.proofs.Rest.{rest-head}
use Rattle.runs.proofs.Spotted.{stands-run}
use Rattle.objects.specs.Named.{ObjectAt, object_run, run_tests}

none-begins : (o : Option Run) → is_object o ≡ false → first (run_tests o) ≡ some 24
unfolding first run_tests
none-begins o e = rw e

pub spotted-empty : {v : List ℕ} {from n a p : ℕ} {o : Found MetRun} → Spotted v from n a p o → o ≡ None → first (run_tests (run_at a 0 (walk_of v from n).runs)) ≡ some 24
unfolding is_object
spotted-empty {v} {from} {n} {a} s e = none-begins (run_at a 0 (walk_of v from n).runs) (rw (s.absent e))

free-object : (r : Run) → is_free r ≡ true → is_object (some r) ≡ false
unfolding is_object
free-object (free n) e = refl
free-object (object n t b g) e = sym e

pub spotted-free : {v : List ℕ} {from n a p : ℕ} {o : Found MetRun} {r : MetRun} → Spotted v from n a p o → o ≡ Some r → r.free ≡ true → first (run_tests (run_at a 0 (walk_of v from n).runs)) ≡ some 24
spotted-free {v} {from} {n} {a} s e g =
    let t = s.present e in
    none-begins (run_at a 0 (walk_of v from n).runs) (ap is_object (stands-run t) ∙ free-object t.passed.that (t.passed.free-is ∙ g))

-- the object's run r at cell a: its head h, and the run as the head and the bytes behind it tell it
pub record Heads (v : List ℕ) (from n a : ℕ) (h : List ℕ) (r : Run) : Type 0 where
  pub is : r ≡ object_run v (from + 64 * a) h
  pub ok : object_ok h ≡ true
  pub inside : a + head_cells h ≤ n

says-run : {h rest : List ℕ} {r : Run} → Says h rest r → is_free r ≡ false
    → (r ≡ object (head_cells h) (head_tag h) (take (head_length h) rest) (good_in h rest)) × (object_ok h ≡ true)
says-run (says-free s) e = absurd (let z : ◌≡◌ {A = ℕ} 0 1 = cc in omega arith)
says-run {h} (says-object s) e = (refl, object-ok h s)

-- a run that was met and is no free run is an object's
pub passed-object : {v : List ℕ} {from n a m : ℕ} {after f : Bool} {h : List ℕ} (d : Passed v from n a after m f) → f ≡ false → h ≡ part 16 (from + 64 * a) v
    → Heads v from n a h d.that
unfolding rest_of part object_run
passed-object {v} {from} {n} {a} {m} {after} {f} {h} d g k =
    let i = step-inv after (rest_of v from n a) d.that d.next in
    let y = read-says (rest_of v from n a) d.that i.0 in
    let w = says-cells y in
    let q : take 16 (rest_of v from n a) ≡ h = rest-head v from n a (omega (arith, d.within, d.some)) ∙ sym k in
    let b : 16 + head_length h ≤ 64 * m = rw (← q, ← d.cells_is) w.1 in
    let c : head_cells h ≡ m = rw (← q, ← d.cells_is) w.2 in
    let z : take (head_length h) (drop 16 (rest_of v from n a)) ≡ take (head_length h) (drop (from + 64 * a + 16) v) =
    part-take 16 (head_length h) (64 * (n - a)) (drop (from + 64 * a) v) (omega (arith, d.within)) ∙ ap (take (head_length h)) (drop-drop 16 (from + 64 * a) v) in
    let l : 64 * head_cells h ≤ length (rest_of v from n a) = rw (c, ← d.cells_is) i.1 in
    let more : List ℕ = drop (64 * (n - a)) (drop (from + 64 * a) v) in
    let e : drop (from + 64 * a + 16) v ≡ drop 16 (rest_of v from n a) ++ more =
    sym (drop-drop 16 (from + 64 * a) v) ∙ ap (drop 16) (sym (take-append-drop (64 * (n - a)) (drop (from + 64 * a) v))) ∙ drop-append-le 16 (rest_of v from n a) more (omega arith) in
    let x : good_in h (drop (from + 64 * a + 16) v) ≡ good_in h (drop 16 (rest_of v from n a)) =
    ap (good_in h) e ∙ good-local h (drop 16 (rest_of v from n a)) more (omega arith) (rw (length-drop 16 (rest_of v from n a)) (omega arith)) in
    let u = rw q at (says-run y (d.free-is ∙ g)) in
    record { is = rw (z, ← x) at u.0; ok = u.1; inside = omega (arith, d.within) }

-- an object stands there, with the head h
pub record Begins (v : List ℕ) (from n a : ℕ) (h : List ℕ) : Type 0 where
  pub that : Run
  pub found : run_at a 0 (walk_of v from n).runs ≡ some that
  pub heads : Heads v from n a h that

pub spotted-object : {v : List ℕ} {from n a p : ℕ} {o : Found MetRun} {r : MetRun} {h : List ℕ} → Spotted v from n a p o → o ≡ Some r → r.free ≡ false → h ≡ part 16 (from + 64 * a) v → Begins v from n a h
spotted-object s e g k =
    let t = s.present e in
    record { that = t.passed.that; found = stands-run t; heads = passed-object t.passed g k }

-- the body lies in the object's cells
pub body-inside : (h : List ℕ) (a : ℕ) {m k : ℕ} → object_ok h ≡ true → m ≡ head_length h → a + 64 * head_cells h ≤ k → a + 16 + m ≤ k
body-inside h a {m} {k} o e l =
    let s = object-says h o in
    let q : head_cells h ≡ cells_for m = s.len ∙ ap cells_for (sym e) in
    omega (arith, cells-hold m)

pub body-length : (v h : List ℕ) (a : ℕ) {m : ℕ} → object_ok h ≡ true → m ≡ head_length h → a + 64 * head_cells h ≤ length v → length (part m (a + 16) v) ≡ m
unfolding part
body-length v h a {m} o e l = length-take-le m _ (rw length-drop (omega (arith, body-inside h a o e l)))

module _ (v : List ℕ) (a : ℕ) (h : List ℕ) {x : Bool} (e : x ≡ good_in h (drop (a + 16) v)) where
  pub object-good : x ≡ true → object_ok h ≡ true → {n m t : ℕ} → n ≡ head_cells h → m ≡ head_length h → t ≡ head_tag h → a + 64 * head_cells h ≤ length v
      → ObjectAt v a (some (object_run v a h)) n m t
  unfolding object_run
  object-good p k i j q l =
      let s = object-says h k in
      record {
        is = rw (← j, sym e ∙ p, i, q);
        least = rw j s.some;
        most = rw j s.most;
        fewest = rw (i, j) s.len;
        inside = rw i l;
      }

  pub object-damaged : x ≡ false → first (run_tests (some (object_run v a h))) ≡ some 25
  unfolding object_run run_tests first is_object is_damaged
  object-damaged p = rw (sym e ∙ p)
