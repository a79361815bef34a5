-- The pool's zones: a change of one zone, and the book of all of them.
use Prim.Native.Nat.{ℕ, zero, suc, ◌+◌, ◌*◌, ◌/◌, ◌%◌, ◌≤◌, ◌<◌}
use mathlib.Core.Path.{◌≡◌, refl, sym, ap, ◌∙◌}
use mathlib.Core.Logic.{◌≢◌}
use mathlib.Core.Bool.{Bool, true, false}
use mathlib.Core.List.{List, [], ◌∷◌, ◌++◌, append_assoc}
use native.Mathlib.Nat.{add-zero, one-le-mul, mul-le-mul_right}
use native.Mathlib.Omega.{arith}
use lib.ListN.{length, take, drop, length-drop}
use lib.Seq.{sets, length-sets, length-take-le}
use lib.Dec.{leb, eqb}
use borrow.Author.Tests.{leb-true, leb-false}
use Rattle.rules.specs.Words.{Bytes, word}
use Rattle.rules.specs.Shape.{Shape, pool_size, zone_at, zone_cells, zone_size}
use Rattle.rules.specs.Runs.{Run}
use Rattle.rules.specs.Zones.{zone_data}
use Rattle.rules.specs.Staging.{Store, touch, touch_range, touch_words, word_count, word_from}
use Rattle.rules.proofs.Bool.{split}
use Rattle.rules.proofs.Sets.{part-sets-before, part-sets-behind, part-sets-in}
use Rattle.rules.proofs.Shape.{Good, size-even, zone-cells, zone-end, zone-even}
use Rattle.rules.proofs.Laid.{Laid}
use Rattle.rules.proofs.Book.{AllGood}

-- a zone's cells lie before the next zone; the pool's bytes hold all zones
pub record Fits (s : Shape) (v : List ℕ) : Type 0 where
  pub bytes : Bytes v
  pub cell : 1 ≤ zone_cells s
  pub short : zone_cells s < 65536
  pub wide : 64 * zone_cells s ≤ zone_size s
  pub even : (z : ℕ) → zone_at s z % 8 ≡ 0
  pub long : zone_at s s.zones ≤ length v
  pub words : length v % 8 ≡ 0

pub good-fits : (s : Shape) (v : List ℕ) → Good s → length v ≡ pool_size s → Bytes v → Fits s v
good-fits s v g l h = record {
  bytes = h;
  cell = (let a : 1 ≤ s.page = (let k = g.page-min in omega arith) in let m = one-le-mul g.rows-pos (one-le-mul g.cols-pos a) in omega (arith, zone-cells s g));
  short = g.runs;
  wide = omega (arith, zone-cells s g);
  even = zone-even s g;
  long = omega (arith, zone-end s g);
  words = ap (λ (x : ℕ). x % 8) l ∙ size-even s g;
}

pub zone-in : (s : Shape) (v : List ℕ) (z : ℕ) → Fits s v → z < s.zones → zone_at s z + 64 * zone_cells s ≤ length v
unfolding zone_at
zone-in s v z f h = omega (arith, mul-le-mul_right (zone_size s) h, f.wide, f.long)

pub zone-length : (s : Shape) (v : List ℕ) (z : ℕ) → Fits s v → z < s.zones → length (zone_data s v z) ≡ 64 * zone_cells s
unfolding zone_data
zone-length s v z f h = length-take-le (64 * zone_cells s) (drop (zone_at s z) v) (rw (length-drop (zone_at s z) v) (omega (arith, zone-in s v z f h)))

-- v' is v but for the zone z, which is bs
pub record Only (s : Shape) (v w : List ℕ) (z : ℕ) (bs : List ℕ) : Type 0 where
  pub len : length w ≡ length v
  pub here : zone_data s w z ≡ bs
  pub there : (y : ℕ) → y ≢ z → zone_data s w y ≡ zone_data s v y

pub only_same : (s : Shape) (v : List ℕ) (z : ℕ) → Only s v v z (zone_data s v z)
only_same s v z = record { len = refl; here = refl; there = λ y h. refl }

zone-other : (s : Shape) (w : List ℕ) (z y o : ℕ) (ys : List ℕ) → 64 * zone_cells s ≤ zone_size s → o + length ys ≤ 64 * zone_cells s → y ≢ z
    → zone_data s (sets w (zone_at s z + o) ys) y ≡ zone_data s w y
unfolding zone_data zone_at
zone-other s w z y o ys g k h = go (leb y z) refl
  where
    go : (x : Bool) → leb y z ≡ x → zone_data s (sets w (zone_at s z + o) ys) y ≡ zone_data s w y
    go true e =
        let l : y ≤ z = leb-true y z e in
        let m : suc y ≤ z = omega arith in
        part-sets-behind w (zone_at s y) (64 * zone_cells s) (zone_at s z + o) ys (omega (arith, mul-le-mul_right (zone_size s) m))
    go false e =
        let m : suc z ≤ y = leb-false y z e in
        part-sets-before w (zone_at s y) (64 * zone_cells s) (zone_at s z + o) ys (omega (arith, mul-le-mul_right (zone_size s) m))

pub only-sets : (s : Shape) (v w : List ℕ) (z : ℕ) (bs : List ℕ) (o : ℕ) (ys : List ℕ) → Fits s v → z < s.zones → o + length ys ≤ 64 * zone_cells s
    → Only s v w z bs → Only s v (sets w (zone_at s z + o) ys) z (sets bs o ys)
unfolding zone_data
only-sets s v w z bs o ys f h k i = record {
  len = length-sets w (zone_at s z + o) ys ∙ i.len;
  here = part-sets-in w (zone_at s z) (64 * zone_cells s) o ys (omega (arith, zone-in s v z f h, i.len)) k ∙ ap (λ (x : List ℕ). sets x o ys) i.here;
  there = λ y n. zone-other s w z y o ys f.wide k n ∙ i.there y n;
}

-- ---- the runs of all zones

abbrev pub Zones : Shape → List ℕ → ℕ → List (List Run) → Type 0
Zones s v z [] = Unit {0}
Zones s v z (rs ∷ rss) = Laid false rs (zone_data s v z) × AllGood rs × Zones s v (suc z) rss

unfoldable pub flat : List (List Run) → List Run
flat [] = []
flat (rs ∷ rss) = rs ++ flat rss

pub flat_append : (A B : List (List Run)) → flat (A ++ B) ≡ flat A ++ flat B
unfolding flat
flat_append [] B = refl
flat_append (rs ∷ A) B = rw (flat_append A B) (sym (append_assoc rs (flat A) (flat B)))

-- zone z + i of them
pub record Pick (s : Shape) (v : List ℕ) (z i : ℕ) (rss : List (List Run)) : Type 0 where
  pub before : List (List Run)
  pub runs : List Run
  pub behind : List (List Run)
  pub cut : rss ≡ before ++ (runs ∷ behind)
  pub len : length before ≡ i
  pub laid : Laid false runs (zone_data s v (z + i))
  pub good : AllGood runs

pub pick : (s : Shape) (v : List ℕ) (z i : ℕ) (rss : List (List Run)) → Zones s v z rss → i < length rss → Pick s v z i rss
pick s v z i [] q h = absurd (omega arith)
pick s v z zero (rs ∷ rss) q h =
    record { before = []; runs = rs; behind = rss; cut = refl; len = refl; laid = rw (add-zero z) q.0; good = q.1 }
pick s v z (suc i) (rs ∷ rss) q h =
    let k = pick s v (suc z) i rss q.2 (omega arith) in
    let e : suc z + i ≡ z + suc i = omega arith in
    record {
      before = rs ∷ k.before;
      runs = k.runs;
      behind = k.behind;
      cut = ap (λ (l : List (List Run)). rs ∷ l) k.cut;
      len = ap suc k.len;
      laid = rw e at k.laid;
      good = k.good;
    }

-- zones other than y are as they were
zones-same : (s : Shape) (v w : List ℕ) (y : ℕ) (z : ℕ) (rss : List (List Run)) → ((x : ℕ) → x ≢ y → zone_data s w x ≡ zone_data s v x) → y < z → Zones s v z rss → Zones s w z rss
zones-same s v w y z [] t h q = tt
zones-same s v w y z (rs ∷ rss) t h q = (rw (t z (omega arith)) q.0, q.1, zones-same s v w y (suc z) rss t (omega arith) q.2)

pub zones-change : (s : Shape) (v w : List ℕ) (y z : ℕ) (A B : List (List Run)) (rs qs : List Run) → ((x : ℕ) → x ≢ y → zone_data s w x ≡ zone_data s v x)
    → z + length A ≡ y → Laid false qs (zone_data s w y) → AllGood qs → Zones s v z (A ++ (rs ∷ B)) → Zones s w z (A ++ (qs ∷ B))
zones-change s v w y z [] B rs qs t e l g q =
    let e1 : y ≡ z = omega arith in
    (rw e1 at l, g, zones-same s v w y (suc z) B t (omega arith) q.2)
zones-change s v w y z (ps ∷ A) B rs qs t e l g q =
    (rw (t z (omega arith)) q.0, q.1, zones-change s v w y (suc z) A B rs qs t (omega arith) l g q.2)

-- ---- targets inside data rows

pub record InZone (s : Shape) (o : ℕ) : Type 0 where
  pub zone : ℕ
  pub lt : zone < s.zones
  pub from : zone_at s zone ≤ o
  pub upto : o + 8 ≤ zone_at s zone + 64 * zone_cells s

abbrev pub Inside : Shape → List Store → Type 0
Inside s [] = Unit {0}
Inside s (x ∷ xs) = InZone s x.at × Inside s xs

inside-touch : (s : Shape) (o w : ℕ) (es : List Store) → InZone s o → Inside s es → Inside s (touch o w es)
unfolding touch
inside-touch s o w [] i t = (i, tt)
inside-touch s o w (x ∷ xs) i t =
    split (eqb x.at o) (λ e. rw e (i, t.1)) (λ e. rw e (t.0, inside-touch s o w xs i t.1))

pub inside-words : (s : Shape) (z n o : ℕ) (ys : List ℕ) (es : List Store) → z < s.zones → zone_at s z ≤ o → o + 8 * n ≤ zone_at s z + 64 * zone_cells s
    → Inside s es → Inside s (touch_words n o ys es)
unfolding touch_words
inside-words s z zero o ys es lt a b t = t
inside-words s z (suc n) o ys es lt a b t =
    inside-words s z n (o + 8) (drop 8 ys) (touch o (word ys 0) es) lt (omega arith) (omega arith)
    (inside-touch s o (word ys 0) es (record { zone = z; lt = lt; from = a; upto = omega arith }) t)

pub inside-range : (s : Shape) (z a m : ℕ) (bs : List ℕ) (es : List Store) → z < s.zones → zone_at s z ≤ a → a + m ≤ zone_at s z + 64 * zone_cells s
    → zone_at s z % 8 ≡ 0 → Inside s es → Inside s (touch_range a m bs es)
unfolding touch_range word_from word_count
inside-range s z a m bs es lt p q e t =
    inside-words s z ((a % 8 + m + 7) / 8) (a / 8 * 8) (take (8 * ((a % 8 + m + 7) / 8)) (drop (a / 8 * 8) bs)) es lt (omega arith) (omega arith) t
