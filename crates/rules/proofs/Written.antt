-- Write: the book has the bytes laid over that range of that body. Look: an address of the book, looked up in the bytes, gives its body.
use Prim.Native.Nat.{ℕ, ◌+◌, ◌-◌, ◌*◌, ◌≤◌}
use mathlib.Core.Path.{◌≡◌, refl, sym, ap, ap₂, ◌∙◌, subst}
use mathlib.Core.Bool.{Bool, true, false, and-false}
use mathlib.Core.Option.{some}
use mathlib.Core.List.{List, [], ◌∷◌, ◌++◌, append_assoc, append-nil}
use native.Mathlib.Nat.{add_assoc, add-zero}
use native.Mathlib.Omega.{arith}
use lib.ListN.{length, take, drop}
use lib.Seq.{sets, length-sets, take_at, drop_at, take-append-le, drop-append-le, drop-drop, length-take-le}
use lib.Dec.{eqb}
use borrow.Author.Tests.{eq-eqb, eqb-true, ne_eqb}
use Rattle.rules.specs.Words.{Bytes}
use Rattle.rules.specs.Runs.{Run, cell_count, check_word, free, head_length, object}
use Rattle.rules.specs.Book.{Listed, book, find, overwrite}
use Rattle.rules.specs.Search.{run_at}
use Rattle.rules.proofs.Bool.{split}
use Rattle.rules.proofs.Words.{bytes_left, bytes-right}
use Rattle.rules.proofs.Sets.{sets-mid}
use Rattle.rules.proofs.Laid.{Laid, Seg, ended_here, ends, laid-length, more, parts, splice}
use Rattle.rules.proofs.Segments.{ObjectSeg, length-check_word, seg-inv, seg-write}
use Rattle.rules.proofs.Book.{AllGood, Pos, book-append, good-append, good_left, good_right, laid-pos, lay-past, pos-append, size-append}
use Rattle.rules.proofs.Search.{run-found}
use Rattle.rules.proofs.ZoneBytes.{write_bytes}
use Rattle.rules.proofs.Freed.{Change}

-- the bytes of one run
pub laid_one : {a : Bool} {r : Run} {m : List ℕ} → Laid a (r ∷ []) m → Seg r m
laid_one {r = r} (more {s = s} g k ended_here e) = subst (λ (x : List ℕ). Seg r x) (sym (e ∙ append-nil s)) g

module _ (c : ℕ) (P Q : List Run) (n t : ℕ) (b : List ℕ) (g : Bool) (o : ℕ) (xs : List ℕ) (fit : o + length xs ≤ length b) where
  abbrev old : Run
  old = object n t b g

  abbrev new : Run
  new = object n t (sets b o xs) true

  new-bytes : (bs f m z : List ℕ) → bs ≡ f ++ (m ++ z) → length f ≡ 64 * cell_count P → 16 + length b ≤ length m
      → write_bytes bs (cell_count P) b o xs ≡ f ++ (sets (sets m (16 + o) xs) 8 (check_word (take 16 m) (sets b o xs)) ++ z)
  unfolding write_bytes
  new-bytes bs f m z e lf lm =
      let h : take 16 (drop (64 * cell_count P) bs) ≡ take 16 m = rw (e, drop_at f (m ++ z) (64 * cell_count P) lf) (take-append-le 16 m z (omega arith)) in
      let w : List ℕ = check_word (take 16 m) (sets b o xs) in
      let lw : length w ≡ 8 = length-check_word (take 16 m) (sets b o xs) (rw (length-take-le 16 m (omega arith)) (omega arith)) in
      rw (
        h,
        e,
        sets-mid f m z (64 * cell_count P) (16 + o) xs lf (omega arith),
        sets-mid f (sets m (16 + o) xs) z (64 * cell_count P) 8 w lf (rw (length-sets m (16 + o) xs, lw) (omega arith)),
      )

  new-laid : (bs : List ℕ) → g ≡ true → Bytes bs → Bytes xs → Laid false (P ++ ((old ∷ []) ++ Q)) bs → Laid false (P ++ ((new ∷ []) ++ Q)) (write_bytes bs (cell_count P) b o xs)
  unfolding ends
  new-laid bs eg hb hx l =
      let p = parts false P (old ∷ []) Q bs l in
      let s : Seg old p.mid = laid_one p.laid-mid in
      let hm : Bytes p.mid = bytes_left p.mid p.back (bytes-right p.front (p.mid ++ p.back) (rw p.cut at hb)) in
      let ns : List ℕ = sets (sets p.mid (16 + o) xs) 8 (check_word (take 16 p.mid) (sets b o xs)) in
      rw (new-bytes bs p.front p.mid p.back p.cut (laid-length p.laid-front) (seg-inv n t b g p.mid s).long)
      (splice false P (old ∷ []) Q (new ∷ []) bs ns p (more (seg-write n t b p.mid (subst (λ (x : Bool). Seg (object n t b x) p.mid) eg s) o xs fit hm hx) (and-false (ends false P)) ended_here (sym (append-nil ns))) refl)

  new-book : Pos P → book c (P ++ ((new ∷ []) ++ Q)) ≡ overwrite (c + cell_count P) o xs (book c (P ++ ((old ∷ []) ++ Q)))
  unfolding book overwrite
  new-book p =
      book-append c P (new ∷ Q)
      ∙ sym (ap (λ (z : List Listed). overwrite (c + cell_count P) o xs z) (book-append c P (old ∷ Q)) ∙ lay-past P c (c + cell_count P) o xs _ p (omega arith)
      ∙ rw (eq-eqb (c + cell_count P) (c + cell_count P) refl, overwrite))

append-assoc-out : (A P Q B : List Run) → A ++ (P ++ Q ++ B) ≡ A ++ P ++ (Q ++ B)
append-assoc-out A P Q B = simp append_assoc

-- THE LAW OF WRITE
pub written : (a : ℕ) (rs : List Run) (bs : List ℕ) (n t : ℕ) (b : List ℕ) (g : Bool) (o : ℕ) (xs : List ℕ)
    → Laid false rs bs → AllGood rs → run_at a 0 rs ≡ some (object n t b g) → o + length xs ≤ length b → Bytes bs → Bytes xs
    → Change (write_bytes bs a b o xs) rs (λ d. overwrite (d + a) o xs)
written a rs bs n t b g o xs l h e fit hb hx =
    let f = (run-found a 0 0 rs (object n t b g) e).0 in
    go f.before f.behind f.cut f.here
  where
    go : (P Q : List Run) → rs ≡ P ++ (object n t b g ∷ Q) → 0 + cell_count P ≡ a → Change (write_bytes bs a b o xs) rs (λ d. overwrite (d + a) o xs)
    go P Q cut here =
        let q : cell_count P ≡ a = omega arith in
        let l1 : Laid false (P ++ (object n t b g ∷ Q)) bs = rw cut at l in
        let here_on = good_right P (object n t b g ∷ Q) (rw cut at h) in
        rw (← q, cut)
        (record {
          runs = P ++ (object n t (sets b o xs) true ∷ Q);
          laid = new-laid 0 P Q n t b g o xs fit bs here_on.0 hb hx l1;
          good = good-append P (object n t (sets b o xs) true ∷ Q) (good_left P _ (rw cut at h)) (refl, here_on.1);
          books = λ c A B x.
              let pp : Pos P = laid-pos (parts false P (object n t b g ∷ []) Q bs l1).laid-front in
              ap (λ (l : List Run). book c l) (append-assoc-out A P (object n t (sets b o xs) true ∷ Q) B)
              ∙ new-book c (A ++ P) (Q ++ B) n t b g o xs fit (pos-append A P x pp)
              ∙ ap₂ (λ (u : ℕ) (l : List Run). overwrite u o xs (book c l)) (rw (size-append A P) (omega arith)) (sym (append-assoc-out A P (object n t b g ∷ Q) B));
        })

-- ---- look

-- the body of the object at cell a
unfoldable pub look_body : List ℕ → ℕ → List ℕ
look_body bs a = take (head_length (take 16 (drop (64 * a) bs))) (drop (64 * a + 16) bs)

look-parts : (a : ℕ) (bs f m z b : List ℕ) (n t : ℕ) → bs ≡ f ++ (m ++ z) → length f ≡ 64 * a → ObjectSeg n t b m → look_body bs a ≡ b
unfolding look_body
look-parts a bs f m z b n t e lf i =
    let d : drop (64 * a) bs ≡ m ++ z = rw e (drop_at f (m ++ z) (64 * a) lf) in
    let h : take 16 (drop (64 * a) bs) ≡ take 16 m = rw d (take-append-le 16 m z (omega (arith, i.long))) in
    let r : drop (64 * a + 16) bs ≡ b ++ (i.pad ++ z) =
    sym (drop-drop 16 (64 * a) bs) ∙ ap (λ (x : List ℕ). drop 16 x) d ∙ drop-append-le 16 m z (omega (arith, i.long)) ∙ ap (λ (x : List ℕ). x ++ z) i.rest ∙ append_assoc b i.pad z in
    rw (h, r, i.blen) (take_at b (i.pad ++ z) (length b) refl)

body-parts : (a : ℕ) (bs f m z b : List ℕ) (n t : ℕ) → bs ≡ f ++ (m ++ z) → length f ≡ 64 * a → ObjectSeg n t b m → head_length (take 16 (drop (64 * a) bs)) ≡ length b
body-parts a bs f m z b n t e lf i =
    let d : drop (64 * a) bs ≡ m ++ z = rw e (drop_at f (m ++ z) (64 * a) lf) in
    ap (λ (l : List ℕ). head_length l) (ap (λ (l : List ℕ). take 16 l) d ∙ take-append-le 16 m z (omega (arith, i.long))) ∙ i.blen

pub look-run : (a : ℕ) (rs : List Run) (bs : List ℕ) (n t : ℕ) (b : List ℕ) (g : Bool) → Laid false rs bs → run_at a 0 rs ≡ some (object n t b g) → look_body bs a ≡ b
look-run a rs bs n t b g l e =
    let f = (run-found a 0 0 rs (object n t b g) e).0 in
    go f.before f.behind f.cut f.here
  where
    go : (P Q : List Run) → rs ≡ P ++ (object n t b g ∷ Q) → 0 + cell_count P ≡ a → look_body bs a ≡ b
    go P Q cut here =
        let p = parts false P (object n t b g ∷ []) Q bs (rw cut at l) in
        look-parts a bs p.front p.mid p.back b n t p.cut (laid-length p.laid-front ∙ omega arith) (seg-inv n t b g p.mid (laid_one p.laid-mid))

-- the length that its head gives
pub look-length : (a : ℕ) (rs : List Run) (bs : List ℕ) (n t : ℕ) (b : List ℕ) (g : Bool) → Laid false rs bs → run_at a 0 rs ≡ some (object n t b g)
    → head_length (take 16 (drop (64 * a) bs)) ≡ length b
look-length a rs bs n t b g l e =
    let f = (run-found a 0 0 rs (object n t b g) e).0 in
    let p = parts false f.before (object n t b g ∷ []) f.behind bs (rw f.cut at l) in
    body-parts a bs p.front p.mid p.back b n t p.cut (laid-length p.laid-front ∙ omega (arith, f.here)) (seg-inv n t b g p.mid (laid_one p.laid-mid))

pub body_bytes : (a : ℕ) (rs : List Run) (bs : List ℕ) (n t : ℕ) (b : List ℕ) (g : Bool) → Laid false rs bs → run_at a 0 rs ≡ some (object n t b g)
    → take (length b) (drop (64 * a + 16) bs) ≡ b
unfolding look_body
body_bytes a rs bs n t b g l e =
    ap (λ (k : ℕ). take k (drop (64 * a + 16) bs)) (sym (look-length a rs bs n t b g l e)) ∙ look-run a rs bs n t b g l e

-- an address of the book is the cell of an object; d is the first run's cell
pub find-run : (rs : List Run) (c d x : ℕ) (e : Listed) → Pos rs → find x (book c rs) ≡ some e
    → (a n : ℕ) × (g : Bool) × (c + a ≡ x) × (e.addr ≡ x) × (run_at (d + a) d rs ≡ some (object n e.tag e.body g))
unfolding find book run_at
find-run [] c d x e p q = absurd (let z : ◌≡◌ {A = ℕ} 0 1 = cc in omega arith)
find-run (free n ∷ rs) c d x e p q =
    let i = find-run rs (c + n) (d + n) x e p.1 q in
    (n + i.0, i.1, i.2, omega (arith, i.3), i.4, rw (ne_eqb d (d + (n + i.0)) (omega (arith, p.0))) (ap (λ (z : ℕ). run_at z (d + n) rs) (sym (add_assoc d n i.0)) ∙ i.5))
find-run (object n t b g ∷ rs) c d x e p q =
    split (eqb c x)
    (λ l.
    let q' : some (record { addr = c; tag = t; body = b }) ≡ some e = rw l at q in
    let u : ◌≡◌ {A = Listed} (record { addr = c; tag = t; body = b }) e = cc in (
      0,
      n,
      g,
      add-zero c ∙ eqb-true c x l,
      sym (ap (λ (w : Listed). w.addr) u) ∙ eqb-true c x l,
      rw (add-zero d, eq-eqb d d refl) (ap (λ (w : Listed). some (object n w.tag w.body g)) u),
    ))
    (λ l.
    let i = find-run rs (c + n) (d + n) x e p.1 (rw l at q) in
    (n + i.0, i.1, i.2, omega (arith, i.3), i.4, rw (ne_eqb d (d + (n + i.0)) (omega (arith, p.0))) (ap (λ (z : ℕ). run_at z (d + n) rs) (sym (add_assoc d n i.0)) ∙ i.5)))

-- READING BACK: an address of the book, looked up in the bytes
pub look-book : (c x : ℕ) (bs : List ℕ) (rs : List Run) (e : Listed) → Laid false rs bs → find x (book c rs) ≡ some e → look_body bs (x - c) ≡ e.body
look-book c x bs rs e l q =
    let i = find-run rs c 0 x e (laid-pos l) q in
    let k : x - c ≡ 0 + i.0 = omega (arith, i.3) in
    rw k (look-run (0 + i.0) rs bs i.1 e.tag e.body i.2 l i.5)

-- a body and its head lie in the object's cells
pub body-bound : (a : ℕ) (rs : List Run) (bs : List ℕ) (n t : ℕ) (b : List ℕ) (g : Bool) → Laid false rs bs → run_at a 0 rs ≡ some (object n t b g) → 16 + length b ≤ 64 * n
body-bound a rs bs n t b g l e =
    let f = (run-found a 0 0 rs (object n t b g) e).0 in
    let p = parts false f.before (object n t b g ∷ []) f.behind bs (rw f.cut at l) in
    let s : Seg (object n t b g) p.mid = laid_one p.laid-mid in
    omega (arith, (seg-inv n t b g p.mid s).long, s.len)
