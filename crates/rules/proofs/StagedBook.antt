-- From a pool with no zone broken and no object damaged to what holds of a transaction (`held_start`), and back (`held-end`); and only the
-- zones' data bytes count (`same-zones`, `same-book`).
use Prim.Native.Nat.{ℕ, zero, suc, ◌+◌, ◌*◌, ◌≤◌, ◌<◌}
use mathlib.Core.Path.{◌≡◌, refl, sym, ap, ap₂, ◌∙◌}
use mathlib.Core.Bool.{Bool, true, false, ◌&&◌}
use mathlib.Core.List.{List, [], ◌∷◌, ◌++◌}
use native.Mathlib.Omega.{arith}
use lib.ListN.{length}
use Rattle.rules.specs.Shape.{Shape, zone_cells}
use Rattle.rules.specs.Runs.{Run, Walk, cell_count, is_good, zone_walk}
use Rattle.rules.specs.Book.{Listed, book}
use Rattle.rules.specs.Zones.{all_good, book_from, good_from, pool_book, walk_in, zone_data}
use Rattle.rules.specs.Staging.{Store, lay}
use Rattle.rules.proofs.Bool.{and-join, and_split}
use Rattle.rules.proofs.Laid.{Laid, laid-length, laid-zone, zone-laid}
use Rattle.rules.proofs.Book.{AllGood, book-append}
use Rattle.rules.proofs.Zones.{Fits, Zones, flat, zone-length}
use Rattle.rules.proofs.Held.{Held, view-fits}
use native.Mathlib.Nat.{suc-mul, zero-mul}

good_of : (rs : List Run) → all_good rs ≡ true → AllGood rs
unfolding all_good
good_of [] e = tt
good_of (r ∷ rs) e = let i = and_split (is_good r) (all_good rs) e in (i.0, good_of rs i.1)

of-good : (rs : List Run) → AllGood rs → all_good rs ≡ true
unfolding all_good
of-good [] g = refl
of-good (r ∷ rs) g = and-join (is_good r) (all_good rs) g.0 (of-good rs g.1)

-- the bytes of a zone that is not broken
pub whole-laid : (s : Shape) (v : List ℕ) (z : ℕ) → (walk_in s v z).whole ≡ true → Laid false (walk_in s v z).runs (zone_data s v z)
unfolding walk_in
whole-laid s v z p = zone-laid (walk_in s v z).runs (zone_data s v z) (λ i. record { runs = (walk_in s v z).runs; whole = p i })

-- the runs of n zones from zone z on
zone_lists : Shape → List ℕ → ℕ → ℕ → List (List Run)
zone_lists s v z zero = []
zone_lists s v z (suc n) = (walk_in s v z).runs ∷ zone_lists s v (suc z) n

sound-zones : (s : Shape) (v : List ℕ) (z n : ℕ) → good_from s v z n ≡ true → Zones s v z (zone_lists s v z n) × (length (zone_lists s v z n) ≡ n)
unfolding good_from zone_lists
sound-zones s v z zero e = (tt, refl)
sound-zones s v z (suc n) e =
    let a = and_split (walk_in s v z).whole (all_good (walk_in s v z).runs && good_from s v (suc z) n) e in
    let b = and_split (all_good (walk_in s v z).runs) (good_from s v (suc z) n) a.1 in
    let i = sound-zones s v (suc z) n b.1 in
    ((whole-laid s v z a.0, good_of (walk_in s v z).runs b.0, i.0), ap suc i.1)

-- zones whose bytes are good runs are good, and their objects stand at zone × cells of a zone + cell
zones-sound : (s : Shape) (v : List ℕ) (z : ℕ) (rss : List (List Run)) → Fits s v → z + length rss ≤ s.zones → Zones s v z rss
    → (good_from s v z (length rss) ≡ true) × (book_from s v z (length rss) ≡ book (z * zone_cells s) (flat rss))
unfolding good_from book_from flat walk_in book
zones-sound s v z [] f h q = (refl, refl)
zones-sound s v z (rs ∷ rss) f h q =
    let i = zones-sound s v (suc z) rss f (omega arith) q.2 in
    let w : walk_in s v z ≡ record { runs = rs; whole = true } = laid-zone rs (zone_data s v z) q.0 in
    let c : 64 * cell_count rs ≡ 64 * zone_cells s = sym (laid-length q.0) ∙ zone-length s v z f (omega arith) in
    let n : suc z * zone_cells s ≡ z * zone_cells s + cell_count rs = suc-mul z (zone_cells s) ∙ omega arith in (
      rw w (and-join (all_good rs) (good_from s v (suc z) (length rss)) (of-good rs q.1) i.0),
      rw (w, i.1, n) (sym (book-append (z * zone_cells s) rs (flat rss))),
    )

pub held_start : (s : Shape) (pool : List ℕ) → Fits s pool → good_from s pool 0 s.zones ≡ true → Held s pool [] (pool_book s pool)
unfolding pool_book
held_start s pool f e =
    let i = sound-zones s pool 0 s.zones e in
    let b = zones-sound s pool 0 (zone_lists s pool 0 s.zones) f (omega (arith, i.1)) i.0 in
    record { tidy = tt; inside = tt; rss = zone_lists s pool 0 s.zones; count = i.1; zones = i.0; books = sym (rw (zero-mul (zone_cells s)) at b.1) ∙ ap (book_from s pool 0) i.1 }

pub held-end : (s : Shape) (pool : List ℕ) (es : List Store) (bk : List Listed) → Fits s pool → Held s pool es bk
    → (good_from s (lay pool es) 0 s.zones ≡ true) × (pool_book s (lay pool es) ≡ bk)
unfolding pool_book
held-end s pool es bk f h =
    let i = zones-sound s (lay pool es) 0 h.rss (view-fits s pool es f) (omega (arith, h.count)) h.zones in
    (rw h.count at i.0, (rw (h.count, zero-mul (zone_cells s)) at i.1) ∙ h.books)

-- ---- only the zones' data bytes count: pools that agree there have one book
pub same-zones : (s : Shape) (v w : List ℕ) (z n : ℕ) → ((y : ℕ) → y < z + n → zone_data s w y ≡ zone_data s v y)
    → (book_from s w z n ≡ book_from s v z n) × (good_from s w z n ≡ good_from s v z n)
unfolding book_from good_from walk_in
same-zones s v w z zero h = (refl, refl)
same-zones s v w z (suc n) h =
    let i = same-zones s v w (suc z) n (λ y k. h y (omega arith)) in
    let e : walk_in s w z ≡ walk_in s v z = ap zone_walk (h z (omega arith)) in (
      ap₂ (λ (q : Walk) (l : List Listed). book (z * zone_cells s) q.runs ++ l) e i.0,
      ap₂ (λ (q : Walk) (x : Bool). q.whole && (all_good q.runs && x)) e i.1,
    )

pub same-book : (s : Shape) (v w : List ℕ) → ((y : ℕ) → y < s.zones → zone_data s w y ≡ zone_data s v y) → pool_book s w ≡ pool_book s v
unfolding pool_book
same-book s v w h = (same-zones s v w 0 s.zones (λ y k. h y (omega arith))).0
