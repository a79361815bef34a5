-- The check in the head of the object at an address that the tests 5, 23, 24 and 25 pass is right. Assumes nothing.
use Prim.Native.Nat.{ℕ, ◌+◌, ◌*◌, ◌/◌, ◌%◌, ◌≤◌, ◌<◌}
use mathlib.Core.Path.{◌≡◌, ap, ◌∙◌}
use mathlib.Core.Bool.{true, false}
use mathlib.Core.Option.{none, some}
use mathlib.Core.List.{List, [], ◌∷◌, ◌++◌}
use native.Mathlib.Nat.{mod-lt}
use native.Mathlib.Omega.{arith}
use lib.ListN.{length, take, drop}
use lib.Seq.{drop_at, drop-drop, take-append-le}
use Rattle.rules.specs.Shape.{Shape, zone_at, zone_cells}
use Rattle.rules.specs.Test.{first}
use Rattle.rules.specs.Check.{check}
use Rattle.rules.specs.Runs.{Run, Walk, covered, head_check, object, zone_walk}
use Rattle.rules.specs.Search.{run_at}
use Rattle.rules.specs.Zones.{head_at, object_tests, run_there, walk_in, zone_data}
use Rattle.rules.proofs.Test.{first-passed}
use Rattle.rules.proofs.Sets.{part-take}
use Rattle.rules.proofs.Laid.{Laid, Seg, laid-length, parts, seg-cells, zone-laid}
use Rattle.rules.proofs.Segments.{seg-right}
use Rattle.rules.proofs.Search.{run-found}
use Rattle.rules.proofs.Written.{laid_one}
use Rattle.rules.proofs.Calls.{object-named}

-- among runs one behind the other
right-parts : (c : ℕ) (bs f m z : List ℕ) (n t : ℕ) (b : List ℕ) → bs ≡ f ++ (m ++ z) → length f ≡ 64 * c → Seg (object n t b true) m
    → head_check (take 16 (drop (64 * c) bs)) ≡ check (covered (take 16 (drop (64 * c) bs)) b)
right-parts c bs f m z n t b e l s =
    let d : drop (64 * c) bs ≡ m ++ z = rw e (drop_at f (m ++ z) (64 * c) l) in
    let k : take 16 (drop (64 * c) bs) ≡ take 16 m = rw d (take-append-le 16 m z (omega (arith, s.len, (seg-cells s).0))) in
    rw k (seg-right s)

laid-right : (c : ℕ) (rs : List Run) (bs : List ℕ) (n t : ℕ) (b : List ℕ) → Laid false rs bs → run_at c 0 rs ≡ some (object n t b true)
    → head_check (take 16 (drop (64 * c) bs)) ≡ check (covered (take 16 (drop (64 * c) bs)) b)
laid-right c rs bs n t b l e =
    let f = (run-found c 0 0 rs (object n t b true) e).0 in
    let p = parts false f.before (object n t b true ∷ []) f.behind bs (rw f.cut at l) in
    right-parts c bs p.front p.mid p.back n t b p.cut (laid-length p.laid-front ∙ omega (arith, f.here)) (laid_one p.laid-mid)

walk-whole : (w : Walk) → w.whole ≡ true → w ≡ record { runs = w.runs; whole = true }
walk-whole w e = λ k. record { runs = w.runs; whole = e k }

module _ (s : Shape) (v : List ℕ) (a : ℕ) (some-cells : 1 ≤ zone_cells s) (h : first (object_tests s v a) ≡ none) where
  pub object-right : {n t : ℕ} {b : List ℕ} → run_there s v a ≡ some (object n t b true) → head_check (take 16 (drop (head_at s a) v)) ≡ check (covered (take 16 (drop (head_at s a) v)) b)
  unfolding run_there walk_in zone_data head_at
  object-right {n} {t} {b} e =
      let z : ℕ = a / zone_cells s in
      let c : ℕ = a % zone_cells s in
      let x : List ℕ = drop (zone_at s z) v in
      let w : Walk = zone_walk (take (64 * zone_cells s) x) in
      let y : w.whole ≡ true = (object-named s v a (first-passed (object_tests s v a) h)).whole in
      let l : Laid false w.runs (take (64 * zone_cells s) x) = zone-laid w.runs (take (64 * zone_cells s) x) (walk-whole w y) in
      let m : c < zone_cells s = mod-lt a some-cells in
      let q : take 16 (drop (64 * c) (take (64 * zone_cells s) x)) ≡ take 16 (drop (zone_at s z + 64 * c) v) =
      part-take (64 * c) 16 (64 * zone_cells s) x (omega arith) ∙ ap (take 16) (drop-drop (64 * c) (zone_at s z) v) in
      rw q at (laid-right c w.runs (take (64 * zone_cells s) x) n t b l e)
