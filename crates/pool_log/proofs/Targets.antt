-- Entries read one by one, and their targets judged, way out by way out. Assumes nothing.
use mathlib.Core.Path.{◌≡◌, refl, sym, ap, ap₂, ◌∙◌}
use mathlib.Core.Bool.{Bool, true, false, not, ◌&&◌}
use mathlib.Core.List.{List, [], ◌∷◌}
use Prim.Native.Nat.{ℕ, zero, suc, ◌+◌, ◌*◌, ◌-◌, ◌/◌, ◌%◌, ◌<◌, ◌≤◌}
use native.Mathlib.Nat.{add-zero, div-div-eq-div-mul, mul_comm, mul-le-mul_right, mul-pos}
use native.Mathlib.Numerals.{add-one}
use native.Mathlib.Omega.{arith}
use lib.Dec.{eqb, leb, ltb}
use lib.ListN.{length, take, drop, get_or, set, length-set, length-drop}
use lib.Seq.{drop-drop, get_or-set_same, get_or-set_other, take-length}
use borrow.Author.Tests.{eq-eqb, eqb-true, eqb-false, ne_eqb, le-leb, leb-true, ltb-true, lt-ltb}
use Rattle.std.specs.Option.{is_some}
use Rattle.std.specs.Prelude.{Option}
use Rattle.std.proofs.lemmas.Bool.{true≢false}
use Rattle.rules.specs.Words.{field, word}
use Rattle.rules.specs.Shape.{Shape as PoolShape, byte_at, pool_size, row, row_size, zone, zone_at, zone_cells, zone_size, zones_at}
use Rattle.rules.specs.Check.{check}
use Rattle.rules.specs.Staging.{Store, entries_at, entry_bytes, good_targets}
use Rattle.rules.proofs.Bool.{and_split, split}
use Rattle.rules.proofs.Numbers.{less}
use Rattle.rules.proofs.Words.{field-part}
use Rattle.rules.proofs.Shape.{Good, cell_self, off-lt, row-in-zone, span_pos, zone-below, zone-cells, zone-end, zone-low}
use Rattle.words.specs.Loaded.{Loaded}
use Rattle.layout.specs.declared.Shape.{Shape}
use Rattle.layout.specs.Meaning.{shape_of}
use Rattle.layout.proofs.Range.{shape-good}
use Rattle.stage.specs.Index.{mark_count, mark_of}
use Rattle.stage.specs.Touched.{Placed, added}
use Rattle.stage.specs.View.{entries_of}
use Rattle.stage.proofs.Counted.{fresh-told}
use Rattle.pool_log.specs.Targets.{DataRows, RowsFor, absent_from, all_fit, check_of, fits, read}

abbrev pub entry : List ℕ → ℕ → Store
entry p a = record { at = word p a; val = word p (a + 8) }

pub loaded_word : {p : List ℕ} {a r : ℕ} → Loaded 8 p a r → r ≡ word p a
unfolding word
loaded_word l = l.value

-- ---- what the names stand for, at the entries read

module _ (p : List ℕ) (at n : ℕ) where
  pub read_is : read p at n ≡ entries_at p at n
  unfolding read
  read_is = refl

  pub all-fit-is : (sh : PoolShape) → all_fit sh (read p at n) ≡ good_targets sh (entries_at p at n)
  unfolding all_fit read
  all-fit-is sh = refl

  pub check-is : check_of (read p at n) ≡ check (entry_bytes (entries_at p at n))
  unfolding check_of read
  check-is = refl

-- ---- the entries from number i on

-- the first of them
pub read_next : (p : List ℕ) (at n i : ℕ) → i < n → read p (at + 16 * i) (n - i) ≡ entry p (at + 16 * i) ∷ read p (at + 16 * (i + 1)) (n - (i + 1))
unfolding read
read_next p at n i h =
    let f : at + 16 * i + 16 ≡ at + 16 * (i + 1) = omega arith in
    rw (less n i h) (ap (λ (a : ℕ). entry p (at + 16 * i) ∷ entries_at p a (n - (i + 1))) f)

pub read_none : (p : List ℕ) (at n i : ℕ) → n ≤ i → read p (at + 16 * i) (n - i) ≡ []
unfolding read
read_none p at n i h = let e : n - i ≡ 0 = omega arith in rw e

pub read_all : (p : List ℕ) (at n : ℕ) → read p (at + 16 * 0) (n - 0) ≡ read p at n
read_all p at n =
    let a : at + 16 * 0 ≡ at = omega arith in
    let b : n - 0 ≡ n = omega arith in
    ap₂ (read p) a b

-- ---- no entry has the target t

added-absent : (t : ℕ) (es : List Store) → eqb (added t es) 1 ≡ absent_from t es
unfolding added absent_from
added-absent t [] = refl
added-absent t (x ∷ xs) =
    split (eqb x.at t)
    (λ e. rw (e, eq-eqb t x.at (sym (eqb-true x.at t e))))
    (λ e. rw (e, ne_eqb t x.at (λ q. eqb-false x.at t e (sym q))) (added-absent t xs))

word_drop : (p : List ℕ) (a k : ℕ) → word (drop a p) k ≡ word p (a + k)
unfolding word
word_drop p a k = field-part 8 (drop a p) k ∙ ap (λ (l : List ℕ). field 8 (take 8 l) 0) (drop-drop k a p) ∙ sym (field-part 8 p (a + k))

entries_drop : (p : List ℕ) (a k n : ℕ) → entries_at (drop a p) k n ≡ entries_at p (a + k) n
entries_drop p a k zero = refl
entries_drop p a k (suc n) =
    let e : a + (k + 8) ≡ a + k + 8 = omega arith in
    let f : a + (k + 16) ≡ a + k + 16 = omega arith in
    ap₂ ◌∷◌ (ap₂ (λ (u v : ℕ). record { at = u; val = v }) (word_drop p a k) (word_drop p a (k + 8) ∙ ap (word p) e)) (entries_drop p a (k + 16) n ∙ ap (λ (x : ℕ). entries_at p x n) f)

read_drop : (p : List ℕ) (at n : ℕ) → entries_of (take (length p - at) (drop at p)) n ≡ read p at n
unfolding entries_of read
read_drop p at n =
    let d : take (length p - at) (drop at p) ≡ drop at p = rw (← (length-drop at p)) (take-length (drop at p)) in
    rw d (entries_drop p at 0 n ∙ ap (λ (x : ℕ). entries_at p x n) (add-zero at))

-- where r is its entry among those of the rest of p
pub absent-placed : (p : List ℕ) (at n t : ℕ) (r : Option ℕ) → Placed (take (length p - at) (drop at p)) n t r → (b : Bool) → is_some r ≡ not b → b ≡ absent_from t (read p at n)
absent-placed p at n t r h b e =
    told (is_some r) b e ∙ fresh-told (take (length p - at) (drop at p)) n t r h ∙ added-absent t (entries_of (take (length p - at) (drop at p)) n)
    ∙ ap (absent_from t) (read_drop p at n)
  where
    told : (x y : Bool) → x ≡ not y → y ≡ not x
    told x true q = sym (ap not q)
    told x false q = sym (ap not q)

-- ---- a target that fits

pub fits-row : (sh : PoolShape) (t : ℕ) → fits sh t ≡ true → (t % 8 ≡ 0) × (zones_at sh ≤ t) × (t < pool_size sh) × (row sh t < sh.rows)
unfolding fits
fits-row sh t e =
    let a = and_split (eqb (t % 8) 0) _ e in
    let b = and_split (leb (zones_at sh) t) _ a.1 in
    let d = and_split (ltb t (pool_size sh)) _ b.1 in
    (eqb-true _ _ a.0, leb-true _ _ b.0, ltb-true _ _ d.0, ltb-true _ _ d.1)

-- ---- the data rows of a zone

module _ (sh : PoolShape) (g : Good sh) (z : ℕ) (h : z < sh.zones) where
  rows_end : zone_at sh z + 64 * zone_cells sh ≤ pool_size sh
  unfolding zone_at
  rows_end =
      let e = zone-end sh g in
      let c = zone-cells sh g in
      let k : z + 1 ≤ sh.zones = omega arith in
      let m = mul-le-mul_right ((sh.rows + 1) * (sh.cols * sh.page)) k in
      omega arith

  rows_fit : (u : ℕ) → zone_at sh z ≤ u → u < zone_at sh z + 64 * zone_cells sh → u % 8 ≡ 0 → fits sh u ≡ true
  unfolding fits
  rows_fit u l k e =
      let i : u - zone_at sh z < 64 * zone_cells sh = omega arith in
      let r = row-in-zone sh g z (u - zone_at sh z) i in
      let q : zone_at sh z + (u - zone_at sh z) ≡ u = omega arith in
      let w : row sh u < sh.rows = rw q at r in
      let a : zones_at sh ≤ u = let y = zone-low sh g z in omega arith in
      let b : u < pool_size sh = let y = rows_end in omega arith in
      rw (eq-eqb (u % 8) 0 e, le-leb (zones_at sh) u a, lt-ltb u (pool_size sh) b, lt-ltb (row sh u) sh.rows w)

-- a place of a data row lies in those of its zone
row-around : (sh : PoolShape) → Good sh → (t : ℕ) → zones_at sh ≤ t → row sh t < sh.rows → (zone_at sh (zone sh t) ≤ t) × (t < zone_at sh (zone sh t) + 64 * zone_cells sh)
unfolding zone_at byte_at
row-around sh g t l r =
    let e = cell_self sh g t l in
    let o = off-lt sh g t in
    let c = zone-cells sh g in
    let k : row sh t + 1 ≤ sh.rows = omega arith in
    let m = mul-le-mul_right (sh.cols * sh.page) k in
    (omega arith, omega arith)

module _ (s : Shape) (t : ℕ) where
  none-for : (fits (shape_of s) t ≡ true → ⊥) → RowsFor (shape_of s) t 0 0
  none-for f = record { rows = record { inside = λ u l h e. absurd (omega arith) }; around = λ e. absurd (f e) }

  pub rows-low : (m : ℕ) → m ≡ zones_at (shape_of s) → t < m → RowsFor (shape_of s) t 0 0
  rows-low m f h = none-for (λ e. let r = fits-row (shape_of s) t e in omega arith)

  pub rows-high : (z : ℕ) → z ≡ pool_size (shape_of s) → z ≤ t → RowsFor (shape_of s) t 0 0
  rows-high z f h = none-for (λ e. let r = fits-row (shape_of s) t e in omega arith)

  -- m where the zones begin, z where they end, d bytes of a zone
  module _ (m z d : ℕ) (em : m ≡ zones_at (shape_of s)) (l : m ≤ t) (f : z ≡ pool_size (shape_of s)) (h : t < z) (ed : d ≡ zone_size (shape_of s)) where
    zone-is : (t - m) / d ≡ zone (shape_of s) t
    unfolding zone
    zone-is =
        rw (em, ed)
        (ap (λ (x : ℕ). (t - zones_at (shape_of s)) / x) (mul_comm (s.rows + 1) (row_size (shape_of s))) ∙ sym (div-div-eq-div-mul (t - zones_at (shape_of s)) (row_size (shape_of s)) (s.rows + 1)))

    zone-inside : zone (shape_of s) t < s.zones
    zone-inside = zone-below (shape_of s) (shape-good s) t (omega arith) (omega arith)

    pub zone-some : 0 < d
    zone-some = rw ed (mul-pos (omega arith) (span_pos (shape_of s) (shape-good s)))

    pub zone-fits : (t - m) / d ≤ s.zones
    zone-fits = let e = zone-is in let k = zone-inside in omega arith

    pub rows-zone : (a b n : ℕ) → a ≡ zone_at (shape_of s) ((t - m) / d) → n ≡ zone_cells (shape_of s) → b ≡ a + 64 * n
        → RowsFor (shape_of s) t a b
    rows-zone a b n p q w =
        let x : a ≡ zone_at (shape_of s) (zone (shape_of s) t) = p ∙ ap (zone_at (shape_of s)) zone-is in
        let y : b ≡ zone_at (shape_of s) (zone (shape_of s) t) + 64 * zone_cells (shape_of s) = omega arith in
        rw (x, y) (record {
          rows = record { inside = rows_fit (shape_of s) (shape-good s) (zone (shape_of s) t) zone-inside };
          around = λ e. row-around (shape_of s) (shape-good s) t (omega arith) (fits-row (shape_of s) t e).3;
        })

-- where they are at hand, t fits if it is a multiple of 8 in them
pub rows-judge : (sh : PoolShape) (t low high : ℕ) → RowsFor sh t low high → (eqb (t % 8) 0 && (leb low t && ltb t high)) ≡ fits sh t
rows-judge sh t low high r = sym (split (fits sh t) (λ e. e ∙ sym (yes e)) (λ e. e ∙ sym (other e)))
  where
    yes : fits sh t ≡ true → (eqb (t % 8) 0 && (leb low t && ltb t high)) ≡ true
    yes e = let a = r.around e in rw (eq-eqb (t % 8) 0 (fits-row sh t e).0, le-leb low t a.0, lt-ltb t high a.1)

    other : fits sh t ≡ false → (eqb (t % 8) 0 && (leb low t && ltb t high)) ≡ false
    other e =
        split (eqb (t % 8) 0 && (leb low t && ltb t high))
        (λ w. let a = and_split (eqb (t % 8) 0) _ w in let b = and_split (leb low t) _ a.1 in
        w ∙ sym (r.rows.inside t (leb-true low t b.0) (ltb-true t high b.1) (eqb-true (t % 8) 0 a.0)) ∙ e)
        (λ w. w)

pub rows-here : (sh : PoolShape) (t low high : ℕ) → DataRows sh low high → low ≤ t → t < high → RowsFor sh t low high
rows-here sh t low high r l h = record { rows = r; around = λ e. (l, h) }

pub rows_none : (sh : PoolShape) → DataRows sh 0 0
rows_none sh = record { inside = λ u l h e. absurd (omega arith) }

-- ---- entries judged from the last to the first

-- those from number i on fit and none repeats; a target that is not marked is none of theirs
pub record Passed (sh : PoolShape) (p : List ℕ) (at n i : ℕ) (marks : List Bool) (low high : ℕ) : Type 0 where
  pub inside : i ≤ n
  pub size : length marks ≡ mark_count
  pub rows : DataRows sh low high
  pub unmarked : (t : ℕ) → get_or marks (mark_of t) false ≡ false → absent_from t (read p (at + 16 * i) (n - i)) ≡ true
  pub fit : all_fit sh (read p (at + 16 * i) (n - i)) ≡ true

module _ (sh : PoolShape) (p : List ℕ) (at n : ℕ) where
  -- if those from number i on do not all fit, nor do all
  fit-part : (i : ℕ) → i ≤ n → all_fit sh (read p (at + 16 * i) (n - i)) ≡ false → all_fit sh (read p at n) ≡ false
  unfolding all_fit fits absent_from
  fit-part zero h e = sym (ap (all_fit sh) (read_all p at n)) ∙ e
  fit-part (suc i) h e =
      let k : suc i ≡ i + 1 = sym (add-one i) in
      let d : all_fit sh (read p (at + 16 * (i + 1)) (n - (i + 1))) ≡ false = rw k at e in
      fit-part i (omega arith) (ap (all_fit sh) (read_next p at n i (omega arith)) ∙ none (fits sh (word p (at + 16 * i))) (absent_from (word p (at + 16 * i)) (read p (at + 16 * (i + 1)) (n - (i + 1)))) _ d)
    where
      none : (a b x : Bool) → x ≡ false → (a && (b && x)) ≡ false
      none true true x z = z
      none true false x z = refl
      none false b x z = refl

  pub passed_start : (marks : List Bool) → length marks ≡ mark_count → Passed sh p at n n marks 0 0
  unfolding all_fit absent_from
  passed_start marks m =
      let e = read_none p at n n (omega arith) in
      record { inside = omega arith; size = m; rows = rows_none sh; unmarked = λ t z. ap (absent_from t) e; fit = ap (all_fit sh) e }

  pub passed-end : (i : ℕ) (marks : List Bool) (low high : ℕ) → Passed sh p at n i marks low high → i ≡ 0 → true ≡ all_fit sh (read p at n)
  passed-end i marks low high h z = sym (sym (ap (all_fit sh) (read_all p at n)) ∙ (rw z at h.fit))

  -- entry number i - 1, with the target u
  module _ (i : ℕ) (marks : List Bool) (low high : ℕ) (h : Passed sh p at n i marks low high) (o : 0 < i) (u : ℕ) (w : Loaded 8 p (at + 16 * (i - 1)) u) where
    before : read p (at + 16 * (i - 1)) (n - (i - 1)) ≡ record { at = u; val = word p (at + 16 * (i - 1) + 8) } ∷ read p (at + 16 * i) (n - i)
    before =
        let l = h.inside in
        let e : i - 1 + 1 ≡ i = omega arith in
        rw (loaded_word w) (rw e at (read_next p at n (i - 1) (omega arith)))

    fit-before : all_fit sh (read p (at + 16 * (i - 1)) (n - (i - 1))) ≡ (fits sh u && absent_from u (read p (at + 16 * i) (n - i)))
    unfolding all_fit fits absent_from
    fit-before = ap (all_fit sh) before ∙ whole (fits sh u) (absent_from u (read p (at + 16 * i) (n - i))) _ h.fit
      where
        whole : (a b x : Bool) → x ≡ true → (a && (b && x)) ≡ (a && b)
        whole true true x z = z
        whole true false x z = refl
        whole false b x z = refl

    pub passed-mark : (k : ℕ) → k ≡ mark_of u → get_or marks k false ≡ false → absent_from u (read p (at + 16 * i) (n - i)) ≡ true
    passed-mark k b x = h.unmarked u (rw b at x)

    part_of : all_fit sh (read p (at + 16 * (i - 1)) (n - (i - 1))) ≡ false → false ≡ all_fit sh (read p at n)
    part_of e = let l = h.inside in sym (fit-part (i - 1) (omega arith) e)

    module _ (low' high' : ℕ) (g : RowsFor sh u low' high') (r : Bool) (f : r ≡ (eqb (u % 8) 0 && (leb low' u && ltb u high'))) where
      judged : r ≡ fits sh u
      judged = f ∙ rows-judge sh u low' high' g

      pub passed-bad : r ≡ false → false ≡ all_fit sh (read p at n)
      passed-bad z = part_of (fit-before ∙ rw (← judged, z))

      module _ (z : r ≡ true) (q : Bool) (v : q ≡ absent_from u (read p (at + 16 * i) (n - i))) where
        pub passed-twice : q ≡ false → false ≡ all_fit sh (read p at n)
        passed-twice y = part_of (fit-before ∙ rw (← judged, ← v, z, y))

        pub passed_on : (k : ℕ) → k ≡ mark_of u → k < mark_count → q ≡ true → Passed sh p at n (i - 1) (set marks k true) low' high'
        unfolding absent_from
        passed_on k b j y = record {
          inside = let l = h.inside in omega arith;
          size = length-set marks k true ∙ h.size;
          rows = g.rows;
          unmarked = λ t x. ap (absent_from t) before ∙ other t x;
          fit = fit-before ∙ rw (← judged, ← v, z, y);
        }
          where
            other : (t : ℕ) → get_or (set marks k true) (mark_of t) false ≡ false → (not (eqb t u) && absent_from t (read p (at + 16 * i) (n - i))) ≡ true
            other t x =
                let m = h.size in
                let s : k < length marks = omega arith in
                let d : (mark_of t ≡ k → ⊥) = λ e. true≢false (rw (e, get_or-set_same marks k true false s) at x) in
                let a : get_or marks (mark_of t) false ≡ false = sym (get_or-set_other marks k (mark_of t) true false d) ∙ x in
                rw (ne_eqb t u (λ e. d (ap mark_of e ∙ sym b))) (h.unmarked t a)
