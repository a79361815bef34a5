-- What holds of a transaction between calls, and that a change of one zone keeps it.
use Prim.Native.Nat.{ℕ, suc, ◌+◌, ◌*◌, ◌≤◌, ◌<◌}
use mathlib.Core.Path.{◌≡◌, sym, ap, ap₂, ◌∙◌}
use mathlib.Core.Bool.{true, false}
use mathlib.Core.List.{List, [], ◌∷◌, ◌++◌}
use native.Mathlib.Nat.{zero-add, zero-mul, suc-mul}
use native.Mathlib.Omega.{arith}
use lib.ListN.{length, length-append}
use Rattle.rules.specs.Shape.{Shape, zone_cells}
use Rattle.rules.specs.Runs.{Run, cell_count}
use Rattle.rules.specs.Book.{Listed, book}
use Rattle.rules.specs.Zones.{walk_in, zone_data}
use Rattle.rules.specs.Staging.{Store, Tidy, lay}
use Rattle.rules.proofs.Stores.{bytes-lay, length-lay}
use Rattle.rules.proofs.Laid.{Laid, laid-length, laid-zone}
use Rattle.rules.proofs.Book.{AllGood, Pos, laid-pos, pos-append, size-append}
use Rattle.rules.proofs.Freed.{Change}
use Rattle.rules.proofs.Zones.{Fits, Inside, Only, Zones, flat, flat_append, pick, zone-length, zones-change}

pub view-fits : (s : Shape) (pool : List ℕ) (es : List Store) → Fits s pool → Fits s (lay pool es)
view-fits s pool es f = record {
  bytes = bytes-lay pool es f.bytes;
  cell = f.cell;
  short = f.short;
  wide = f.wide;
  even = f.even;
  long = rw (length-lay pool es) f.long;
  words = rw (length-lay pool es) f.words;
}

-- the entries are in order, and their targets inside data rows; no zone of the staged lay broken is, no object damaged; and its book is bk
pub record Held (s : Shape) (pool : List ℕ) (es : List Store) (bk : List Listed) : Type 0 where
  pub tidy : Tidy es
  pub inside : Inside s es
  pub rss : List (List Run)
  pub count : length rss ≡ s.zones
  pub zones : Zones s (lay pool es) 0 rss
  pub books : book 0 (flat rss) ≡ bk

-- the cells of zones, and that their runs have cells
pub flat-size : (s : Shape) (v : List ℕ) (z : ℕ) (A B : List (List Run)) → Fits s v → Zones s v z (A ++ B) → z + length A ≤ s.zones
    → (cell_count (flat A) ≡ length A * zone_cells s) × Pos (flat A)
unfolding flat cell_count
flat-size s v z [] B f q h = (sym (zero-mul (zone_cells s)), tt)
flat-size s v z (rs ∷ A) B f q h =
    let i = flat-size s v (suc z) A B f q.2 (omega arith) in
    let e : 64 * cell_count rs ≡ 64 * zone_cells s = sym (laid-length q.0) ∙ zone-length s v z f (omega arith) in
    (size-append rs (flat A) ∙ rw (suc-mul (length A) (zone_cells s)) (omega (arith, i.0)), pos-append rs (flat A) (laid-pos q.0) i.1)

-- a zone of the staged view, and that a change of it keeps what holds
pub record At (s : Shape) (pool : List ℕ) (es : List Store) (bk : List Listed) (z : ℕ) : Type 0 where
  pub runs : List Run
  pub laid : Laid false runs (zone_data s (lay pool es) z)
  pub good : AllGood runs
  pub whole : walk_in s (lay pool es) z ≡ record { runs = runs; whole = true }
  pub count : cell_count runs ≡ zone_cells s
  pub next : (bs : List ℕ) (new : List Store) (f : ℕ → List Listed → List Listed)
      → Change bs runs f → Only s (lay pool es) (lay pool new) z bs → Tidy new → Inside s new → Held s pool new (f (z * zone_cells s) bk)

pub at-zone : (s : Shape) (pool : List ℕ) (es : List Store) (bk : List Listed) (z : ℕ) → Fits s pool → Held s pool es bk → z < s.zones → At s pool es bk z
unfolding walk_in flat
at-zone s pool es bk z fp h lt =
    let v : List ℕ = lay pool es in
    let f : Fits s v = view-fits s pool es fp in
    let k = pick s v 0 z h.rss h.zones (rw h.count lt) in
    let l : Laid false k.runs (zone_data s v z) = rw (zero-add z) at k.laid in
    record {
      runs = k.runs;
      laid = l;
      good = k.good;
      whole = laid-zone k.runs (zone_data s v z) l;
      count = (let e : 64 * cell_count k.runs ≡ 64 * zone_cells s = sym (laid-length l) ∙ zone-length s v z f lt in omega arith);
      next = λ bs new g c o t i. mk v f k.before k.runs k.behind k.cut k.len bs new g c o t i;
    }
  where
    books : (v : List ℕ) (A : List (List Run)) (rs qs : List Run) (B : List (List Run)) (g : ℕ → List Listed → List Listed) → length A ≡ z
        → (cell_count (flat A) ≡ length A * zone_cells s) × Pos (flat A) → book 0 (flat (A ++ (rs ∷ B))) ≡ bk
        → ((c : ℕ) (X Y : List Run) → Pos X → book c (X ++ (qs ++ Y)) ≡ g (c + cell_count X) (book c (X ++ (rs ++ Y))))
        → book 0 (flat (A ++ (qs ∷ B))) ≡ g (z * zone_cells s) bk
    books v A rs qs B g len i b c =
        ap (λ (l : List Run). book 0 l) (flat_append A (qs ∷ B)) ∙ c 0 (flat A) (flat B) i.1
        ∙ ap₂ (λ (n : ℕ) (l : List Listed). g n l) (zero-add (cell_count (flat A)) ∙ i.0 ∙ ap (λ (n : ℕ). n * zone_cells s) len)
        (ap (λ (l : List Run). book 0 l) (sym (flat_append A (rs ∷ B))) ∙ b)

    mk : (v : List ℕ) (f : Fits s (lay pool es)) (A : List (List Run)) (rs : List Run) (B : List (List Run)) → h.rss ≡ A ++ (rs ∷ B) → length A ≡ z
        → (bs : List ℕ) (new : List Store) (g : ℕ → List Listed → List Listed)
        → Change bs rs g → Only s (lay pool es) (lay pool new) z bs → Tidy new → Inside s new → Held s pool new (g (z * zone_cells s) bk)
    mk v f A rs B cut len bs new g c o t ins =
        let q : Zones s (lay pool es) 0 (A ++ (rs ∷ B)) = rw cut at h.zones in
        let i = flat-size s (lay pool es) 0 A (rs ∷ B) f q (omega arith) in
        record {
          tidy = t;
          inside = ins;
          rss = A ++ (c.runs ∷ B);
          count = length-append A (c.runs ∷ B) ∙ sym (length-append A (rs ∷ B)) ∙ ap length (sym cut) ∙ h.count;
          zones = zones-change s (lay pool es) (lay pool new) z 0 A B rs c.runs o.there (zero-add (length A) ∙ len) (rw o.here c.laid) c.good q;
          books = books v A rs c.runs B g len i (rw cut at h.books) c.books;
        }
