-- Reading back: an address is in the book exactly where a good object begins, and its bytes are that body.
use Prim.Native.Nat.{ℕ, ◌+◌, ◌*◌, ◌/◌, ◌%◌, ◌≤◌, ◌<◌}
use mathlib.Core.Path.{◌≡◌, refl, sym, ap, ap₂, ◌∙◌}
use mathlib.Core.Bool.{Bool, true, false, cond}
use mathlib.Core.Option.{Option, none, some}
use mathlib.Core.List.{List, [], ◌∷◌, ◌++◌, append-nil}
use native.Mathlib.Nat.{add_assoc, add-zero, zero-add, div-lt_iff_lt-mul, div-add-mod', mod-lt}
use native.Mathlib.Omega.{arith}
use lib.ListN.{length, take, drop}
use lib.Seq.{drop-drop}
use lib.Dec.{eqb}
use borrow.Author.Tests.{eqb-true, eqb-false, eq-eqb, ne_eqb}
use Rattle.rules.specs.Shape.{Shape, zone_at, zone_cells}
use Rattle.rules.specs.Runs.{Run, Walk, cell_count, cells, is_good, object}
use Rattle.rules.specs.Book.{Listed, book, find}
use Rattle.rules.specs.Search.{run_at}
use Rattle.rules.specs.Zones.{head_at, run_there, walk_in, zone_data}
use Rattle.rules.specs.Staging.{Store, lay}
use Rattle.rules.proofs.Bool.{split}
use Rattle.rules.proofs.Sets.{part-take}
use Rattle.rules.proofs.Laid.{Laid, laid-zone}
use Rattle.rules.proofs.Book.{AllGood, Pos, book-append, find_past, pos-left}
use Rattle.rules.proofs.Search.{run-bound, run-found, run-pos}
use Rattle.rules.proofs.Written.{body-bound, body_bytes, find-run}
use Rattle.rules.proofs.Zones.{Fits, Zones, flat, flat_append, pick}
use Rattle.rules.proofs.Held.{At, Held, at-zone, flat-size, view-fits}
use Rattle.rules.proofs.Calls.{Named, found_in}

-- ---- a run behind other runs

past : (P Q : List Run) (a d : ℕ) → Pos P → d + cell_count P ≤ a → run_at a d (P ++ Q) ≡ run_at a (d + cell_count P) Q
unfolding run_at cell_count
past [] Q a d p h = rw (add-zero d)
past (r ∷ P) Q a d p h =
    rw (ne_eqb d a (omega (arith, p.0)), run_at) (past P Q a (d + cells r) p.1 (omega arith) ∙ rw (add_assoc d (cells r) (cell_count P)))

beyond : (Q : List Run) (a d : ℕ) → a < d → run_at a d Q ≡ none
unfolding run_at
beyond [] a d h = refl
beyond (r ∷ Q) a d h = rw (ne_eqb d a (omega arith)) (beyond Q a (d + cells r) (omega arith))

inside-runs : (P Q : List Run) (a d : ℕ) → a < d + cell_count P → run_at a d (P ++ Q) ≡ run_at a d P
unfolding run_at cell_count
inside-runs [] Q a d h = beyond Q a d (omega arith)
inside-runs (r ∷ P) Q a d h = rw (inside-runs P Q a (d + cells r) (omega arith), run_at)

eqb-shift : (k a b : ℕ) → eqb (k + a) (k + b) ≡ eqb a b
eqb-shift k a b = go (eqb a b) refl
  where
    go : (x : Bool) → eqb a b ≡ x → eqb (k + a) (k + b) ≡ x
    go true e = eq-eqb (k + a) (k + b) (ap (λ (n : ℕ). k + n) (eqb-true a b e))
    go false e = ne_eqb (k + a) (k + b) (λ q. eqb-false a b e (omega arith))

shift : (rs : List Run) (k a d : ℕ) → run_at (k + a) (k + d) rs ≡ run_at a d rs
unfolding run_at
shift [] k a d = refl
shift (r ∷ rs) k a d =
    ap₂ (λ (x : Bool) (o : Option Run). cond x (some r) o) (eqb-shift k d a)
    (ap (λ (n : ℕ). run_at (k + a) n rs) (add_assoc k d (cells r)) ∙ shift rs k a (d + cells r))

good-run : (rs : List Run) (a d n t : ℕ) (b : List ℕ) (g : Bool) → AllGood rs → run_at a d rs ≡ some (object n t b g) → g ≡ true
unfolding run_at
good-run [] a d n t b g q e = absurd (let z : ◌≡◌ {A = ℕ} 0 1 = cc in omega arith)
good-run (r ∷ rs) a d n t b g q e =
    split (eqb d a)
    (λ l. let e' : some r ≡ some (object n t b g) = rw l at e in let z : r ≡ object n t b g = cc in sym (ap is_good z) ∙ q.0)
    (λ l. good-run rs a (d + cells r) n t b g q.1 (rw l at e))

run-find : (rs : List Run) (a n t : ℕ) (b : List ℕ) (g : Bool) → Pos rs → run_at a 0 rs ≡ some (object n t b g)
    → find a (book 0 rs) ≡ some (record { addr = a; tag = t; body = b })
unfolding find book
run-find rs a n t b g p e =
    let f = (run-found a 0 0 rs (object n t b g) e).0 in
    go f.before f.behind f.cut f.here
  where
    go : (P Q : List Run) → rs ≡ P ++ (object n t b g ∷ Q) → 0 + cell_count P ≡ a → find a (book 0 rs) ≡ some (record { addr = a; tag = t; body = b })
    go P Q cut here =
        ap (λ (l : List Run). find a (book 0 l)) cut ∙ ap (λ (l : List Listed). find a l) (book-append 0 P (object n t b g ∷ Q))
        ∙ find_past P 0 a (book (0 + cell_count P) (object n t b g ∷ Q)) (pos-left P (object n t b g ∷ Q) (rw cut at p)) (omega arith)
        ∙ ap (λ (k : ℕ). find a (book k (object n t b g ∷ Q))) here ∙ rw (eq-eqb a a refl, find)

-- ---- the pool

module _ (s : Shape) (pool : List ℕ) (es : List Store) (bk : List Listed) (fp : Fits s pool) (h : Held s pool es bk) where
  abbrev v : List ℕ
  v = lay pool es

  -- the run at an address, in all zones' runs and in its own zone
  all-run : (z c : ℕ) → z < s.zones → c < zone_cells s → (x : At s pool es bk z) → run_at (z * zone_cells s + c) 0 (flat h.rss) ≡ run_at c 0 x.runs
  unfolding walk_in flat
  all-run z c lt k x =
      let p = pick s v 0 z h.rss h.zones (rw h.count lt) in
      let l : Laid false p.runs (zone_data s v z) = rw (zero-add z) at p.laid in
      let w : walk_in s v z ≡ record { runs = p.runs; whole = true } = laid-zone p.runs (zone_data s v z) l in
      let e : p.runs ≡ x.runs = ap (λ (q : Walk). q.runs) (sym w ∙ x.whole) in
      mk p.before p.runs p.behind p.cut p.len (ap cell_count e ∙ x.count) ∙ ap (λ (q : List Run). run_at c 0 q) e
    where
      mk : (A : List (List Run)) (rs : List Run) (B : List (List Run)) → h.rss ≡ A ++ (rs ∷ B) → length A ≡ z → cell_count rs ≡ zone_cells s
          → run_at (z * zone_cells s + c) 0 (flat h.rss) ≡ run_at c 0 rs
      mk A rs B cut len sz =
          let q : Zones s v 0 (A ++ (rs ∷ B)) = rw cut at h.zones in
          let i = flat-size s v 0 A (rs ∷ B) (view-fits s pool es fp) q (omega arith) in
          let zs : cell_count (flat A) ≡ z * zone_cells s = i.0 ∙ ap (λ (n : ℕ). n * zone_cells s) len in
          let a : ℕ = z * zone_cells s + c in
          ap (λ (l : List (List Run)). run_at a 0 (flat l)) cut ∙ ap (λ (l : List Run). run_at a 0 l) (flat_append A (rs ∷ B))
          ∙ past (flat A) (rs ++ flat B) a 0 i.1 (omega arith)
          ∙ inside-runs rs (flat B) a (0 + cell_count (flat A)) (omega arith)
          ∙ ap (λ (n : ℕ). run_at a n rs) (omega arith)
          ∙ shift rs (z * zone_cells s) c 0

  all-size : (cell_count (flat h.rss) ≡ s.zones * zone_cells s) × Pos (flat h.rss)
  all-size =
      let q : Zones s v 0 (h.rss ++ []) = rw (append-nil h.rss) h.zones in
      let i = flat-size s v 0 h.rss [] (view-fits s pool es fp) q (omega (arith, h.count)) in
      (i.0 ∙ ap (λ (n : ℕ). n * zone_cells s) h.count, i.1)

  -- AN ADDRESS OF THE BOOK NAMES A GOOD OBJECT, with that tag and body
  pub book-object : (a : ℕ) (e : Listed) → find a bk ≡ some e → (x : Named s v a) × (x.tag ≡ e.tag) × (x.body ≡ e.body)
  book-object a e q =
      let i = find-run (flat h.rss) 0 0 a e all-size.1 (rw h.books q) in
      go i.1 i.2 (ap (λ (n : ℕ). run_at n 0 (flat h.rss)) (sym i.3) ∙ i.5)
    where
      here : (n : ℕ) (g : Bool) → a < s.zones * zone_cells s → (x : At s pool es bk (a / zone_cells s)) → run_at (a % zone_cells s) 0 x.runs ≡ some (object n e.tag e.body g)
          → (x : Named s v a) × (x.tag ≡ e.tag) × (x.body ≡ e.body)
      here n g al x f = (
        record {
          below = al;
          whole = ap (λ (w : Walk). w.whole) x.whole;
          cells = n;
          tag = e.tag;
          body = e.body;
          found = unfold run_there in (ap (λ (w : Walk). run_at (a % zone_cells s) 0 w.runs) x.whole ∙ f
              ∙ ap (λ (y : Bool). some (object n e.tag e.body y)) (good-run x.runs (a % zone_cells s) 0 n e.tag e.body g x.good f));
        },
        refl,
        refl,
      )

      go : (n : ℕ) (g : Bool) → run_at a 0 (flat h.rss) ≡ some (object n e.tag e.body g) → (x : Named s v a) × (x.tag ≡ e.tag) × (x.body ≡ e.body)
      go n g r =
          let o : Run = object n e.tag e.body g in
          let al : a < s.zones * zone_cells s = omega (arith, run-bound a (flat h.rss) o r, run-pos a (flat h.rss) o all-size.1 r, all-size.0) in
          let lt : a / zone_cells s < s.zones = (div-lt_iff_lt-mul fp.cell).1 al in
          let x = at-zone s pool es bk (a / zone_cells s) fp h lt in
          here n g al x (sym (all-run (a / zone_cells s) (a % zone_cells s) lt (mod-lt a fp.cell) x) ∙ ap (λ (k : ℕ). run_at k 0 (flat h.rss)) (div-add-mod' a (zone_cells s)) ∙ r)

  -- and the other way round
  pub object-book : (a : ℕ) (n : Named s v a) → find a bk ≡ some (record { addr = a; tag = n.tag; body = n.body })
  object-book a n =
      let lt : a / zone_cells s < s.zones = (div-lt_iff_lt-mul fp.cell).1 n.below in
      let x = at-zone s pool es bk (a / zone_cells s) fp h lt in
      let r : run_at a 0 (flat h.rss) ≡ some (object n.cells n.tag n.body true) =
      ap (λ (k : ℕ). run_at k 0 (flat h.rss)) (sym (div-add-mod' a (zone_cells s))) ∙ all-run (a / zone_cells s) (a % zone_cells s) lt (mod-lt a fp.cell) x ∙ found_in s pool es bk fp h a n x in
      rw (← h.books) (run-find (flat h.rss) a n.cells n.tag n.body true all-size.1 r)

  -- ITS BYTES ARE THAT BODY
  pub body-there : (a : ℕ) (n : Named s v a) → take (length n.body) (drop (head_at s a + 16) v) ≡ n.body
  unfolding zone_data head_at
  body-there a n =
      let z : ℕ = a / zone_cells s in
      let c : ℕ = a % zone_cells s in
      let lt : z < s.zones = (div-lt_iff_lt-mul fp.cell).1 n.below in
      let x = at-zone s pool es bk z fp h lt in
      let b : List ℕ = n.body in
      let f : run_at c 0 x.runs ≡ some (object n.cells n.tag b true) = found_in s pool es bk fp h a n x in
      let bb : 16 + length b ≤ 64 * n.cells = body-bound c x.runs (zone_data s v z) n.cells n.tag b true x.laid f in
      let nb : c + n.cells ≤ cell_count x.runs = run-bound c x.runs (object n.cells n.tag b true) f in
      let e : zone_at s z + 64 * c + 16 ≡ zone_at s z + (64 * c + 16) = omega arith in
      ap (λ (k : ℕ). take (length b) (drop k v)) e
      ∙ ap (λ (l : List ℕ). take (length b) l) (sym (drop-drop (64 * c + 16) (zone_at s z) v))
      ∙ sym (part-take (64 * c + 16) (length b) (64 * zone_cells s) (drop (zone_at s z) v) (omega (arith, x.count)))
      ∙ body_bytes c x.runs (zone_data s v z) n.cells n.tag b true x.laid f
