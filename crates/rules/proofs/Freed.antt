-- Free: the zone's walk comes to its end again, no two free runs side by side, and the book lacks the object.
use Prim.Native.Nat.{ℕ, ◌+◌, ◌-◌, ◌*◌, ◌≤◌, ◌<◌}
use mathlib.Core.Path.{◌≡◌, refl, sym, ap, ap₂, ◌∙◌}
use mathlib.Core.Bool.{Bool, true, false, ◌&&◌}
use mathlib.Core.Option.{some}
use mathlib.Core.List.{List, [], ◌∷◌, ◌++◌, append_assoc, append-nil}
use native.Mathlib.Nat.{add-zero}
use native.Mathlib.Omega.{arith}
use lib.ListN.{length, drop, length-append, length-drop}
use lib.Seq.{sets, sets-eq}
use lib.Dec.{eqb}
use borrow.Author.Tests.{eq-eqb}
use Rattle.rules.specs.Runs.{Run, cell_count, free, free_head, object}
use Rattle.rules.specs.Book.{Listed, book, strike}
use Rattle.rules.specs.Search.{Place, joined, lead, run_at}
use Rattle.rules.proofs.Sets.{sets-mid}
use Rattle.rules.proofs.Laid.{Laid, ended_here, ends, laid-length, laid-split, more, parts, splice, starts}
use Rattle.rules.proofs.Segments.{length-free_head, seg-free}
use Rattle.rules.proofs.Book.{AllGood, Pos, book-append, good-append, good_left, good_right, laid-pos, pos-append, size-append, strike-past}
use Rattle.rules.proofs.Search.{Around, Found, Frees, Left, Right, around, gap, nothing, run-found, tail}
use Rattle.rules.proofs.ZoneBytes.{free_bytes}

-- a zone's runs rs after a call that leaves the bytes bs: the walk comes to the end, its objects are good, and the book of the pool, with
-- the runs A of the zones before it and the runs B of those behind it, is f of the old book; f is told the address of the zone's first cell
pub record Change (bs : List ℕ) (rs : List Run) (f : ℕ → List Listed → List Listed) : Type 0 where
  pub runs : List Run
  pub laid : Laid false runs bs
  pub good : AllGood runs
  pub books : (c : ℕ) (A B : List Run) → Pos A → book c (A ++ (runs ++ B)) ≡ f (c + cell_count A) (book c (A ++ (rs ++ B)))

frees-book : (c : ℕ) (G X : List Run) → Frees G → book c (G ++ X) ≡ book (c + cell_count G) X
unfolding book cell_count
frees-book c [] X nothing = rw (add-zero c)
frees-book c (free n ∷ []) X gap = rw (add-zero n)
frees-book c (free n ∷ (_ ∷ _)) X x = elim x [ ]
frees-book c (object _ _ _ _ ∷ _) X x = elim x [ ]

frees-good : {G : List Run} → Frees G → AllGood G
frees-good nothing = tt
frees-good gap = (refl, tt)

-- a free head over bytes in the middle
pub set_free : (bs f m k : List ℕ) (n c : ℕ) → bs ≡ f ++ (m ++ k) → length f ≡ 64 * c → length m ≡ 64 * n → 1 ≤ n
    → sets bs (64 * c) (free_head n) ≡ f ++ ((free_head n ++ drop 16 m) ++ k)
set_free bs f m k n c e lf lm p =
    let z : 0 + length (free_head n) ≤ length m = rw (length-free_head n, lm) (omega arith) in
    let q : sets m 0 (free_head n) ≡ free_head n ++ drop 16 m = sets-eq (free_head n) m 0 z ∙ rw (length-free_head n) in
    rw (e, ← (add-zero (64 * c)), sets-mid f m k (64 * c) 0 (free_head n) lf z, q)

pub laid-free : (a : Bool) (n : ℕ) (m : List ℕ) → a ≡ false → length m ≡ 64 * n → 1 ≤ n → n < 65536 → Laid a (free n ∷ []) (free_head n ++ drop 16 m)
laid-free a n m e l p s =
    more (seg-free n (drop 16 m) p s (rw (length-drop 16 m, l) (omega arith))) (ap (λ (x : Bool). x && true) e) ended_here (sym (append-nil (free_head n ++ drop 16 m)))

module _ (c : ℕ) (R G H S : List Run) (n t : ℕ) (b : List ℕ) (g : Bool) where
  -- the object, its free neighbours, and what is before and behind them
  abbrev those : List Run
  those = G ++ (object n t b g ∷ H)

  join : ℕ
  join = cell_count G + (n + cell_count H)

  size-those : cell_count those ≡ join
  unfolding join cell_count
  size-those = size-append G (object n t b g ∷ H)

  joined-laid : (bs : List ℕ) → Laid false (R ++ (those ++ S)) bs → ends false R ≡ false → starts S ≡ false → length bs < 4194304
      → Laid false (R ++ (free join ∷ S)) (sets bs (64 * cell_count R) (free_head join))
  unfolding join ends
  joined-laid bs l e f s =
      let p = parts false R those S bs l in
      let lm : length p.mid ≡ 64 * join = laid-length p.laid-mid ∙ ap (λ (z : ℕ). 64 * z) size-those in
      let pk : 1 ≤ join = omega (arith, (laid-pos (laid-split (ends false R) G (object n t b g ∷ H) p.mid p.laid-mid).laid-back).0) in
      let lb : length bs ≡ length p.front + (length p.mid + length p.back) = ap length p.cut ∙ length-append p.front (p.mid ++ p.back) ∙ ap (λ (x : ℕ). length p.front + x) (length-append p.mid p.back) in
      rw (set_free bs p.front p.mid p.back join (cell_count R) p.cut (laid-length p.laid-front) lm pk)
      (splice false R those S (free join ∷ []) bs (free_head join ++ drop 16 p.mid) p (laid-free (ends false R) join p.mid e lm pk (omega arith)) f)

  those-book : Frees G → Frees H
      → book c (R ++ (those ++ S)) ≡ book c R ++ (record { addr = c + cell_count R + cell_count G; tag = t; body = b } ∷ book (c + cell_count R + cell_count G + n + cell_count H) S)
  unfolding book
  those-book x y =
      book-append c R (those ++ S)
      ∙ ap (λ (z : List Listed). book c R ++ z)
      (ap (λ (l : List Run). book (c + cell_count R) l) (append_assoc G (object n t b g ∷ H) S)
      ∙ frees-book (c + cell_count R) G (object n t b g ∷ (H ++ S)) x
      ∙ ap (λ (z : List Listed). record { addr = c + cell_count R + cell_count G; tag = t; body = b } ∷ z) (frees-book (c + cell_count R + cell_count G + n) H S y))

  joined-book : Pos R → Frees G → Frees H
      → book c (R ++ (free join ∷ S)) ≡ strike (c + (cell_count R + cell_count G)) (book c (R ++ (those ++ S)))
  unfolding book strike join
  joined-book p x y =
      let a : ℕ = c + (cell_count R + cell_count G) in
      let q : c + cell_count R + join ≡ c + cell_count R + cell_count G + n + cell_count H = omega arith in
      let e : eqb (c + cell_count R + cell_count G) a ≡ true = eq-eqb (c + cell_count R + cell_count G) a (omega arith) in
      book-append c R (free join ∷ S)
      ∙ ap (λ (k : ℕ). book c R ++ book k S) q
      ∙ sym (ap (λ (z : List Listed). strike a z) (those-book x y) ∙ strike-past R c a _ p (omega arith) ∙ rw (e, strike))

  joined-good : AllGood (R ++ (those ++ S)) → AllGood (R ++ (free join ∷ S))
  joined-good h = good-append R (free join ∷ S) (good_left R (those ++ S) h) (refl, good_right those S (good_right R (those ++ S) h))

regroup : (R G H S : List Run) (o : Run) → R ++ G ++ (o ∷ (H ++ S)) ≡ R ++ (G ++ (o ∷ H) ++ S)
regroup R G H S o = simp append_assoc

-- what the search found, as those runs
joined-zone : (R G H S : List Run) (n t : ℕ) (b : List ℕ) (g : Bool) (a : ℕ) (rs : List Run) (bs : List ℕ) (j : Place)
    → rs ≡ R ++ (G ++ (object n t b g ∷ H) ++ S) → j ≡ record { cell = cell_count R; count = cell_count G + (n + cell_count H) } → cell_count R + cell_count G ≡ a
    → ends false R ≡ false → starts S ≡ false → Frees G → Frees H → Laid false rs bs → AllGood rs → length bs < 4194304
    → Change (free_bytes bs j) rs (λ d. strike (d + a))
unfolding free_bytes join
joined-zone R G H S n t b g a rs bs j cut ej ea e f x y l h s =
    let o : Run = object n t b g in
    let M : List Run = G ++ (o ∷ H) in
    let k : ℕ = cell_count G + (n + cell_count H) in
    let l1 : Laid false (R ++ (M ++ S)) bs = rw cut at l in
    rw (cut, ej, ← ea)
    (record {
      runs = R ++ (free k ∷ S);
      laid = joined-laid 0 R G H S n t b g bs l1 e f s;
      good = joined-good 0 R G H S n t b g (rw cut at h);
      books = λ c A B p.
          let pr : Pos R = laid-pos (parts false R M S bs l1).laid-front in
          ap (λ (l : List Run). book c l) (simp append_assoc)
          ∙ joined-book c (A ++ R) G H (S ++ B) n t b g (pos-append A R p pr) x y
          ∙ ap₂ (λ (u : ℕ) (l : List Run). strike u (book c l)) (rw (size-append A R) (omega arith)) (simp append_assoc);
    })

-- THE LAW OF FREE
pub freed : (a : ℕ) (rs : List Run) (bs : List ℕ) (n t : ℕ) (b : List ℕ) (g : Bool) → Laid false rs bs → AllGood rs → length bs < 4194304 → run_at a 0 rs ≡ some (object n t b g)
    → Change (free_bytes bs (joined a 0 0 rs)) rs (λ d. strike (d + a))
freed a rs bs n t b g l h s e = go (run-found a 0 0 rs (object n t b g) e).0 (run-found a 0 0 rs (object n t b g) e).1
  where
    mk : (P Q : List Run) → rs ≡ P ++ (object n t b g ∷ Q) → 0 + cell_count P ≡ a → joined a 0 0 rs ≡ record { cell = a - tail 0 P; count = tail 0 P + (n + lead Q) }
        → (y : Around P (object n t b g) Q) → Change (free_bytes bs (joined a 0 0 rs)) rs (λ d. strike (d + a))
    mk P Q cut ea ej y =
        let i : Left P = y.left in
        let k : Right Q = y.right in
        let sp : cell_count P ≡ cell_count i.rest + cell_count i.gaps = ap cell_count i.cut ∙ size-append i.rest i.gaps in
        joined-zone i.rest i.gaps k.gaps k.rest n t b g a rs bs (joined a 0 0 rs)
        (cut ∙ ap₂ (λ (p q : List Run). p ++ (object n t b g ∷ q)) i.cut k.cut ∙ regroup i.rest i.gaps k.gaps k.rest (object n t b g))
        (ej ∙ ap₂ (λ (u v : ℕ). record { cell = u; count = v }) (omega (arith, i.count, sp)) (omega (arith, i.count, k.count)))
        (omega (arith, sp)) y.not-free-before y.not-free-behind i.are k.are l h s

    go : (f : Found rs (object n t b g) 0 a) → joined a 0 0 rs ≡ record { cell = a - tail 0 f.before; count = tail 0 f.before + (n + lead f.behind) }
        → Change (free_bytes bs (joined a 0 0 rs)) rs (λ d. strike (d + a))
    go f ej = mk f.before f.behind f.cut f.here ej (around f.before n t b g f.behind bs (rw f.cut at l))
