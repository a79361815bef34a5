-- The lines of a zone, run by run. Assumes nothing.
use Prim.Native.Nat.{ℕ, ◌+◌, ◌*◌, ◌≤◌}
use mathlib.Core.Path.{◌≡◌, refl, sym, ap, ◌∙◌}
use mathlib.Core.Bool.{Bool, true, false}
use mathlib.Core.List.{List, [], ◌++◌, append_assoc, append-nil}
use native.Mathlib.Nat.{add-zero}
use native.Mathlib.Omega.{arith}
use lib.ListN.{drop}
use Rattle.std.specs.Prelude.{Option, None}
use Rattle.rules.specs.Runs.{Run, Walk, cells, free, good_in, head_cells, head_length, head_tag, is_free, object}
use Rattle.rules.specs.Scan.{broken_line, run_line, zone_lines}
use Rattle.rules.proofs.Bool.{split}
use Rattle.stage.specs.View.{part}
use Rattle.stage.specs.Seen.{seen_by}
use Rattle.runs.specs.Taken.{Taken, runs_on, walk_by}
use Rattle.runs.specs.declared.Run.{Run as MetRun}
use Rattle.runs.specs.declared.Runs.{Runs}
use Rattle.runs.specs.declared.Zone.{Zone}
use Rattle.runs.proofs.Going.{Going, Took, going-below, going-broken, going-cell, going-end, going_start, going-step}
use Rattle.objects.specs.Named.{object_run}
use Rattle.objects.proofs.Naming.{body-length, passed-object}
use Rattle.scrub.specs.Counted.{ObjectThere}
use Rattle.scrub.proofs.Counting.{head-there}
use Rattle.texts.specs.declared.Text.{Text}
use Rattle.texts.specs.Adds.{Adds}
use Rattle.texts.proofs.Adds.{adds_as, adds_then}
use Rattle.scan.specs.Lined.{object_line, run_of, zone_text}
use Rattle.scan.proofs.Lines.{object-line}

-- ---- a run's line

-- the line of an object, by its head at byte a
pub judged-line : (v : List ℕ) (a : ℕ) {h : List ℕ} {m : ℕ} → ObjectThere v a → h ≡ part 16 a v → m ≡ head_length h → (z c : ℕ) {t : ℕ} {x : Bool}
    → x ≡ good_in h (drop (a + 16) v) → t ≡ head_tag h → object_line z c t m x ≡ run_line z c (object_run v a (part 16 a v))
unfolding object_run
judged-line v a {h} {m} o e k z c {t} {x} q i =
    let there = head-there o e in
    ap (λ (n : ℕ). object_line z c t n x) (sym (body-length v h a there.1 k there.0)) ∙ object-line z c (head_cells h) t (part m (a + 16) v) x ∙ rw (q, i, k, e)

module _ (z : Zone) (m : MetRun) where
  pub free-of : m.free ≡ true → free m.cells ≡ run_of z m
  unfolding run_of
  free-of e = rw e

  pub object-of : m.free ≡ false → object_run (seen_by z.view) (z.from + 64 * m.cell) (part 16 (z.from + 64 * m.cell) (seen_by z.view)) ≡ run_of z m
  unfolding run_of
  object-of e = rw e

free-run : (r : Run) (m : ℕ) → is_free r ≡ true → cells r ≡ m → free m ≡ r
free-run (free n) m e k = ap free (sym k)
free-run (object n t b g) m e k = absurd (let z : ◌≡◌ {A = ℕ} 0 1 = cc in omega arith)

-- the run that was taken
took-run : {z : Zone} {i t : Runs} {m : MetRun} (k : Took z i m t) → run_of z m ≡ k.passed.that
took-run {z} {m = m} k =
    split m.free
    (λ e. sym (free-of z m e) ∙ free-run k.passed.that m.cells (k.passed.free-is ∙ e) k.passed.cells_is)
    (λ e. sym (object-of z m e) ∙ sym (passed-object k.passed e refl).is)

-- ---- the loop over a zone's runs: the text before iterator i, and the lines of the walk w from there on

abbrev pub lines_from : ℕ → List ℕ → ℕ → Walk → List ℕ
lines_from z text c w = text ++ zone_lines z c w.runs w.whole

pub record Listing (zone : Zone) (z : ℕ) (t t' : Text) (i : Runs) (c : ℕ) : Type 0 where
  pub text : List ℕ
  pub cell : c ≡ i.cell
  pub going : Going (lines_from z text) (zone_text (walk_by zone) z) zone i
  pub adds : Adds (64 * i.cell) t text t'

pub listing_start : {zone : Zone} (z : ℕ) (t : Text) {i j : Runs} → i ≡ runs_on zone 0 false → j ≡ i → Listing zone z t t j 0
unfolding zone_text
listing_start z t p q =
    let e = ap (λ (y : Runs). y.cell) (q ∙ p) in
    record { text = []; cell = sym e; going = going_start p q refl; adds = record { put = record { stored = refl; ends = sym (add-zero t.at); most = omega arith }; buffer = refl } }

module _ {zone : Zone} {z : ℕ} {t t' : Text} {i : Runs} {c : ℕ} (s : Listing zone z t t' i c) where
  pub listing_step : {m : MetRun} {j : Runs} {t'' : Text} (k : Took zone i m j) → Adds 64 t' (run_line z m.cell (run_of zone m)) t'' → Listing zone z t t'' j (m.cell + m.cells)
  unfolding zone_lines
  listing_step {m} k q =
      let d = k.passed in
      let n = going-cell k in
      record {
        text = s.text ++ run_line z m.cell d.that;
        cell = omega (arith, n, k.here);
        going = going-step s.going k (λ w. rw d.cells_is (sym (append_assoc s.text (run_line z m.cell d.that) (zone_lines z (m.cell + m.cells) w.runs w.whole))));
        adds = adds_as (adds_then s.adds q) (ap (λ (x : Run). s.text ++ run_line z m.cell x) (took-run k)) (omega (arith, d.some, n));
      }

  pub listing-broken : {o : Option MetRun} {j : Runs} {t'' : Text} → Taken i o j → o ≡ None → Adds 64 t' (broken_line z c) t'' → Adds (64 * zone.cells) t (zone_text (walk_by zone) z) t''
  unfolding zone_lines
  listing-broken k e q =
      let h = going-below s.going k in
      adds_as (adds_then s.adds q) (ap (λ (x : ℕ). s.text ++ broken_line z x) s.cell ∙ going-broken s.going k e) (omega arith)

  pub listing-end : i.zone.cells ≤ i.cell → Adds (64 * zone.cells) t (zone_text (walk_by zone) z) t'
  unfolding zone_lines
  listing-end h = adds_as s.adds (sym (append-nil s.text) ∙ going-end s.going h) (omega (arith, s.going.walking.within))
