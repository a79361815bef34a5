-- `Laid after rs bs`: bs are the runs rs, one behind the other, none free right after a free one. It is the walk that comes to the
-- end (`laid-walk`, `walk-laid`); it splits and joins with `◌++◌` (`laid-split`, `laid-append`), and so gives the splice law (`splice`).
use Prim.Native.Nat.{ℕ, zero, suc, ◌+◌, ◌-◌, ◌*◌, ◌≤◌, ◌<◌}
use mathlib.Core.Path.{◌≡◌, refl, sym, ap, ◌∙◌, subst}
use mathlib.Core.Bool.{Bool, true, false, cond, ◌&&◌}
use mathlib.Core.Option.{Option, none, some, some-injective, none-ne-some}
use mathlib.Core.List.{List, [], ◌∷◌, ◌++◌, append_assoc}
use native.Mathlib.Nat.{zero-add, suc-add}
use native.Mathlib.Omega.{arith}
use lib.ListN.{length, take, drop, length-append, length-drop, take-append-drop}
use lib.Seq.{take-append-le, drop-append-le, drop_at, length-take-le}
use borrow.Author.Tests.{leb-true, eqb-true, not-true, le-leb, eq-eqb}
use Rattle.rules.specs.Check.{check}
use Rattle.rules.specs.Shape.{body_limit}
use Rattle.rules.specs.Runs.{Next, Run, Walk, broken, cell_count, cells, cells_for, check_run, covered, ended, fits, free, free_ok, good_in, head_cells, head_check, head_kind, head_length, head_tag, is_free, next_run, object, object_ok, onward, read_run, run, run_of, walk, zone_walk}
use Rattle.rules.proofs.Bool.{and-join, and_split}
use Rattle.rules.proofs.Good.{good-local}

-- ---- what a head that is taken says

pub record FreeSays (h : List ℕ) : Type 0 where
  pub kind : head_kind h ≡ 1
  pub len : 1 ≤ head_cells h
  pub blen : head_length h ≡ 0
  pub tag : head_tag h ≡ 0
  pub chk : head_check h ≡ check (covered h [])

pub free-says : (h : List ℕ) → free_ok h ≡ true → FreeSays h
unfolding free_ok
free-says h e =
    let a = and_split _ _ e in
    let b = and_split _ _ a.1 in
    let c = and_split _ _ b.1 in
    let d = and_split _ _ c.1 in
    record { kind = eqb-true _ _ a.0; len = leb-true _ _ b.0; blen = eqb-true _ _ c.0; tag = eqb-true _ _ d.0; chk = eqb-true _ _ d.1 }

pub free-ok : (h : List ℕ) → FreeSays h → free_ok h ≡ true
unfolding free_ok
free-ok h s =
    and-join _ _ (eq-eqb _ _ s.kind) (and-join _ _ (le-leb _ _ s.len) (and-join _ _ (eq-eqb _ _ s.blen) (and-join _ _ (eq-eqb _ _ s.tag) (eq-eqb _ _ s.chk))))

pub record ObjectSays (h : List ℕ) : Type 0 where
  pub kind : head_kind h ≡ 2
  pub some : 1 ≤ head_length h
  pub most : head_length h ≤ body_limit
  pub len : head_cells h ≡ cells_for (head_length h)

pub object-says : (h : List ℕ) → object_ok h ≡ true → ObjectSays h
unfolding object_ok
object-says h e =
    let a = and_split _ _ e in
    let b = and_split _ _ a.1 in
    let c = and_split _ _ b.1 in
    record { kind = eqb-true _ _ a.0; some = leb-true _ _ b.0; most = leb-true _ _ c.0; len = eqb-true _ _ c.1 }

pub object-ok : (h : List ℕ) → ObjectSays h → object_ok h ≡ true
unfolding object_ok
object-ok h s =
    and-join _ _ (eq-eqb _ _ s.kind) (and-join _ _ (le-leb _ _ s.some) (and-join _ _ (le-leb _ _ s.most) (eq-eqb _ _ s.len)))

-- a head and the bytes behind it, as the run r
pub data Says (h rest : List ℕ) : Run → Type 0 where
  says-free : FreeSays h → Says h rest (free (head_cells h))
  says-object : ObjectSays h → Says h rest (object (head_cells h) (head_tag h) (take (head_length h) rest) (good_in h rest))

pub run-says : (h rest : List ℕ) (r : Run) → run_of h rest ≡ some r → Says h rest r
unfolding run_of
run-says h rest r e = go (free_ok h) (object_ok h) refl refl e
  where
    go : (f o : Bool) → free_ok h ≡ f → object_ok h ≡ o
        → cond f (some (free (head_cells h)))
        (cond o (some (object (head_cells h) (head_tag h) (take (head_length h) rest) (good_in h rest))) none) ≡ some r
        → Says h rest r
    go true o p q e = subst (λ (x : Run). Says h rest x) (some-injective _ _ e) (says-free (free-says h p))
    go false true p q e = subst (λ (x : Run). Says h rest x) (some-injective _ _ e) (says-object (object-says h q))
    go false false p q e = absurd (none-ne-some _ e)

pub says-cells : {h rest : List ℕ} {r : Run} → Says h rest r → (1 ≤ cells r) × (16 + head_length h ≤ 64 * cells r) × (head_cells h ≡ cells r)
unfolding cells_for
says-cells (says-free s) = omega arith
says-cells (says-object s) = omega arith

-- ---- a run's own bytes

pub record Seg (r : Run) (s : List ℕ) : Type 0 where
  pub read : read_run s ≡ some r
  pub len : length s ≡ 64 * cells r

pub read-says : (bs : List ℕ) (r : Run) → read_run bs ≡ some r → Says (take 16 bs) (drop 16 bs) r
unfolding read_run
read-says bs r e = run-says (take 16 bs) (drop 16 bs) r e

pub seg-cells : {r : Run} {s : List ℕ} → Seg r s → (1 ≤ cells r) × (16 + head_length (take 16 s) ≤ 64 * cells r) × (head_cells (take 16 s) ≡ cells r)
seg-cells {r} {s} g = says-cells (read-says s r g.read)

-- bytes behind a run are not read
read-local : (u v : List ℕ) → 16 + head_length (take 16 u) ≤ 64 * head_cells (take 16 u) → 64 * head_cells (take 16 u) ≤ length u → read_run (u ++ v) ≡ read_run u
unfolding read_run run_of
read-local u v h k =
    rw (
      take-append-le 16 u v (omega arith),
      drop-append-le 16 u v (omega arith),
      take-append-le (head_length (take 16 u)) (drop 16 u) v (rw (length-drop 16 u) (omega arith)),
      good-local (take 16 u) (drop 16 u) v h (rw (length-drop 16 u) (omega arith)),
    )

pub read-append : {r : Run} {s : List ℕ} → Seg r s → (t : List ℕ) → read_run (s ++ t) ≡ some r
read-append {r} {s} g t = read-local s t (omega (arith, seg-cells g)) (omega (arith, seg-cells g, g.len)) ∙ g.read

pub read_take : (bs : List ℕ) (r : Run) → read_run bs ≡ some r → 64 * cells r ≤ length bs → Seg r (take (64 * cells r) bs)
read_take bs r e h =
    let f = says-cells (read-says bs r e) in
    let u : List ℕ = take (64 * cells r) bs in
    let v : List ℕ = drop (64 * cells r) bs in
    let l : length u ≡ 64 * cells r = length-take-le (64 * cells r) bs h in
    let c : u ++ v ≡ bs = take-append-drop (64 * cells r) bs in
    let k : take 16 u ≡ take 16 bs = sym (take-append-le 16 u v (omega arith)) ∙ ap (λ (x : List ℕ). take 16 x) c in
    record { read = sym (read-local u v (rw k (omega (arith, f))) (rw k (omega (arith, f)))) ∙ ap read_run c ∙ e; len = l }

-- ---- runs one behind the other

pub data Laid : Bool → List Run → List ℕ → Type 0 where
  ended_here : {a : Bool} → Laid a [] []
  more : {a : Bool} {r : Run} {rs : List Run} {s t bs : List ℕ}
      → Seg r s → (a && is_free r) ≡ false → Laid (is_free r) rs t → bs ≡ s ++ t → Laid a (r ∷ rs) bs

unfoldable pub ends : Bool → List Run → Bool
ends a [] = a
ends a (r ∷ rs) = ends (is_free r) rs

pub laid-length : {a : Bool} {rs : List Run} {bs : List ℕ} → Laid a rs bs → length bs ≡ 64 * cell_count rs
unfolding cell_count
laid-length ended_here = refl
laid-length (more {r = r} {rs = rs} {s = s} {t = t} g k l e) = ap length e ∙ length-append s t ∙ omega (arith, g.len, laid-length l)

pub laid-append : {a : Bool} {rs qs : List Run} {bs cs : List ℕ} → Laid a rs bs → Laid (ends a rs) qs cs → Laid a (rs ++ qs) (bs ++ cs)
unfolding ends
laid-append ended_here q = q
laid-append {cs = cs} (more {s = s} {t = t} g k l e) q = more g k (laid-append l q) (ap (λ (x : List ℕ). x ++ cs) e ∙ append_assoc s t cs)

pub record Split (a : Bool) (rs qs : List Run) (bs : List ℕ) : Type 0 where
  pub front : List ℕ
  pub back : List ℕ
  pub cut : bs ≡ front ++ back
  pub laid-front : Laid a rs front
  pub laid-back : Laid (ends a rs) qs back

pub laid-split : (a : Bool) (rs qs : List Run) (bs : List ℕ) → Laid a (rs ++ qs) bs → Split a rs qs bs
unfolding ends
laid-split a [] qs bs l = record { front = []; back = bs; cut = refl; laid-front = ended_here; laid-back = l }
laid-split a (r ∷ rs) qs bs (more {s = s} {t = t} g k l e) =
    let i = laid-split (is_free r) rs qs t l in
    record {
      front = s ++ i.front;
      back = i.back;
      cut = e ∙ ap (λ (x : List ℕ). s ++ x) i.cut ∙ sym (append_assoc s i.front i.back);
      laid-front = more g k i.laid-front refl;
      laid-back = i.laid-back;
    }

-- what stands before runs matters only to a free first one
unfoldable pub starts : List Run → Bool
starts [] = false
starts (r ∷ rs) = is_free r

pub laid-after : {a : Bool} {rs : List Run} {bs : List ℕ} (b : Bool) → Laid a rs bs → (b && starts rs) ≡ false → Laid b rs bs
unfolding starts
laid-after b ended_here h = ended_here
laid-after b (more g k l e) h = more g h l e

pub laid-starts : {a : Bool} {rs : List Run} {bs : List ℕ} → Laid a rs bs → (a && starts rs) ≡ false
unfolding starts
laid-starts {a = true} ended_here = refl
laid-starts {a = false} ended_here = refl
laid-starts (more g k l e) = k

-- THE SPLICE LAW: runs in the middle of a zone, as bytes between bytes (`parts`); they may be replaced by others, which fit between what
-- stands before and behind (`splice`)
pub record Parts (a : Bool) (P M Q : List Run) (bs : List ℕ) : Type 0 where
  pub front : List ℕ
  pub mid : List ℕ
  pub back : List ℕ
  pub cut : bs ≡ front ++ (mid ++ back)
  pub laid-front : Laid a P front
  pub laid-mid : Laid (ends a P) M mid
  pub laid-back : Laid (ends (ends a P) M) Q back

pub parts : (a : Bool) (P M Q : List Run) (bs : List ℕ) → Laid a (P ++ (M ++ Q)) bs → Parts a P M Q bs
parts a P M Q bs l =
    let i = laid-split a P (M ++ Q) bs l in
    let j = laid-split (ends a P) M Q i.back i.laid-back in
    record {
      front = i.front;
      mid = j.front;
      back = j.back;
      cut = i.cut ∙ ap (λ (x : List ℕ). i.front ++ x) j.cut;
      laid-front = i.laid-front;
      laid-mid = j.laid-front;
      laid-back = j.laid-back;
    }

pub splice : (a : Bool) (P M Q N : List Run) (bs ns : List ℕ) (p : Parts a P M Q bs) → Laid (ends a P) N ns
    → (ends (ends a P) N && starts Q) ≡ false → Laid a (P ++ (N ++ Q)) (p.front ++ (ns ++ p.back))
splice a P M Q N bs ns p n h = laid-append p.laid-front (laid-append n (laid-after (ends (ends a P) N) p.laid-back h))

-- ---- the walk

step-cons : (a : Bool) (bs : List ℕ) → 1 ≤ length bs → next_run a bs ≡ check_run a bs (read_run bs)
unfolding next_run
step-cons a [] h = absurd (omega arith)
step-cons a (b ∷ bs) h = refl

step_run : (a : Bool) (r : Run) (bs : List ℕ) → read_run bs ≡ some r → 1 ≤ cells r → 64 * cells r ≤ length bs → (a && is_free r) ≡ false → next_run a bs ≡ run r
unfolding check_run fits
step_run a r bs e p h k = step-cons a bs (omega arith) ∙ rw e (rw (le-leb (64 * cells r) (length bs) h, k))

pub laid-walk : (f : ℕ) (a : Bool) (rs : List Run) (bs : List ℕ) → Laid a rs bs → length rs < f → walk f a bs ≡ record { runs = rs; whole = true }
unfolding walk next_run onward
laid-walk zero a rs bs l h = absurd (omega arith)
laid-walk (suc f) a [] bs ended_here h = refl
laid-walk (suc f) a (r ∷ rs) bs (more {s = s} {t = t} g k l e) h =
    let p : next_run a bs ≡ run r = step_run a r bs (rw e (read-append g t)) (seg-cells g).0 (rw (e, length-append s t, g.len) (omega arith)) k in
    let d : drop (64 * cells r) bs ≡ t = rw e (drop_at s t (64 * cells r) g.len) in
    rw p (rw (d, laid-walk f (is_free r) rs t l (omega arith)))

-- a next_run that is taken
pub step-inv : (a : Bool) (bs : List ℕ) (r : Run) → next_run a bs ≡ run r → (read_run bs ≡ some r) × (64 * cells r ≤ length bs) × ((a && is_free r) ≡ false)
unfolding next_run check_run fits
step-inv a [] r e = absurd (let z : ◌≡◌ {A = ℕ} 0 1 = cc in omega arith)
step-inv a (b ∷ bs) r e = go (read_run (b ∷ bs)) refl e
  where
    fit : (q : Run) (x : Bool) → fits a (b ∷ bs) q ≡ x → read_run (b ∷ bs) ≡ some q → cond x (run q) broken ≡ run r
        → (read_run (b ∷ bs) ≡ some r) × (64 * cells r ≤ length (b ∷ bs)) × ((a && is_free r) ≡ false)
    fit q true p o e =
        let s = and_split _ _ p in
        let z : q ≡ r = cc in
        subst (λ (x : Run). (read_run (b ∷ bs) ≡ some x) × (64 * cells x ≤ length (b ∷ bs)) × ((a && is_free x) ≡ false)) z
        (o, leb-true _ _ s.0, not-true _ s.1)
    fit q false p o e = absurd (let z : ◌≡◌ {A = ℕ} 0 1 = cc in omega arith)

    go : (o : Option Run) → read_run (b ∷ bs) ≡ o → check_run a (b ∷ bs) o ≡ run r
        → (read_run (b ∷ bs) ≡ some r) × (64 * cells r ≤ length (b ∷ bs)) × ((a && is_free r) ≡ false)
    go none p e = absurd (let z : ◌≡◌ {A = ℕ} 0 1 = cc in omega arith)
    go (some q) p e = fit q (fits a (b ∷ bs) q) refl p e

pub step_end : (a : Bool) (bs : List ℕ) → next_run a bs ≡ ended → bs ≡ []
unfolding next_run check_run
step_end a [] e = refl
step_end a (b ∷ bs) e = absurd (go (read_run (b ∷ bs)) e)
  where
    cut : (x : Bool) (r : Run) → cond x (run r) broken ≡ ended → ⊥
    cut true r e = let z : ◌≡◌ {A = ℕ} 0 1 = cc in omega arith
    cut false r e = let z : ◌≡◌ {A = ℕ} 0 1 = cc in omega arith

    go : (o : Option Run) → check_run a (b ∷ bs) o ≡ ended → ⊥
    go none e = let z : ◌≡◌ {A = ℕ} 0 1 = cc in omega arith
    go (some r) e = cut (fits a (b ∷ bs) r) r e

abbrev Whole : List Run → Walk
Whole rs = record { runs = rs; whole = true }

pub walk-laid : (f : ℕ) (a : Bool) (rs : List Run) (bs : List ℕ) → walk f a bs ≡ record { runs = rs; whole = true } → Laid a rs bs
unfolding walk next_run onward
walk-laid zero a rs bs e = absurd (let z : ◌≡◌ {A = Bool} false true = ap (λ (w : Walk). w.whole) e in let y : ◌≡◌ {A = ℕ} 0 1 = cc in omega arith)
walk-laid (suc f) a rs bs e = go (λ b qs cs. walk-laid f b qs cs) (next_run a bs) refl e
  where
    go : ((b : Bool) (qs : List Run) (cs : List ℕ) → walk f b cs ≡ record { runs = qs; whole = true } → Laid b qs cs)
        → (x : Next) → next_run a bs ≡ x → onward x (λ r. walk f (is_free r) (drop (64 * cells r) bs)) ≡ record { runs = rs; whole = true } → Laid a rs bs
    go ih ended p e = unfold onward in (subst (λ (qs : List Run). Laid a qs bs) (ap (λ (w : Walk). w.runs) e) (rw (step_end a bs p) ended_here))
    go ih broken p e = absurd (unfold onward in (let z : ◌≡◌ {A = Bool} false true = ap (λ (w : Walk). w.whole) e in let y : ◌≡◌ {A = ℕ} 0 1 = cc in omega arith))
    go ih (run r) p e = unfold onward in (
        let i = step-inv a bs r p in
        let w : Walk = walk f (is_free r) (drop (64 * cells r) bs) in
        let q : w.whole ≡ true = ap (λ (w : Walk). w.whole) e in
        subst (λ (qs : List Run). Laid a qs bs) (ap (λ (w : Walk). w.runs) e)
        (more (read_take bs r i.0 i.1) i.2 (ih (is_free r) w.runs (drop (64 * cells r) bs) (λ k. record { runs = w.runs; whole = q k }))
        (sym (take-append-drop (64 * cells r) bs)))
        )

-- each run has a byte at least
pub laid_runs : {a : Bool} {rs : List Run} {bs : List ℕ} → Laid a rs bs → length rs ≤ length bs
laid_runs ended_here = omega arith
laid_runs (more {rs = rs} {s = s} {t = t} {bs = bs} g k l e) =
    let n : length bs ≡ length s + length t = ap length e ∙ length-append s t in
    omega (arith, g.len, (seg-cells g).0, laid_runs l)

-- a zone's walk comes to the end with the runs rs exactly where its bytes are those runs
pub zone-laid : (rs : List Run) (bs : List ℕ) → zone_walk bs ≡ record { runs = rs; whole = true } → Laid false rs bs
unfolding zone_walk
zone-laid rs bs e = walk-laid (suc (length bs)) false rs bs e

pub laid-zone : (rs : List Run) (bs : List ℕ) → Laid false rs bs → zone_walk bs ≡ record { runs = rs; whole = true }
unfolding zone_walk
laid-zone rs bs l = laid-walk (suc (length bs)) false rs bs l (omega (arith, laid_runs l))

-- ---- for loops over a zone: the walk, some runs further on; and fuel that is enough

unfoldable pub prepend : List Run → Walk → Walk
prepend P w = record { runs = P ++ w.runs; whole = w.whole }

pub walk-prefix : (a : Bool) (P : List Run) (f k : List ℕ) (n : ℕ) → Laid a P f → walk (length P + n) a (f ++ k) ≡ prepend P (walk n (ends a P) k)
unfolding prepend ends walk onward
walk-prefix a [] f k n ended_here = rw (zero-add n)
walk-prefix a (r ∷ P) f k n (more {s = s} {t = t} g o l e) =
    let c : f ++ k ≡ s ++ (t ++ k) = ap (λ (x : List ℕ). x ++ k) e ∙ append_assoc s t k in
    let p : next_run a (f ++ k) ≡ run r =
    step_run a r (f ++ k) (rw c (read-append g (t ++ k))) (seg-cells g).0 (rw (c, length-append s (t ++ k), g.len) (omega arith)) o in
    let d : drop (64 * cells r) (f ++ k) ≡ t ++ k = rw c (drop_at s (t ++ k) (64 * cells r) g.len) in
    rw (suc-add (length P) n, p) (rw (d, walk-prefix (is_free r) P t k n l))

pub walk-fuel : (m n : ℕ) (a : Bool) (bs : List ℕ) → length bs < m → length bs < n → walk m a bs ≡ walk n a bs
unfolding walk onward
walk-fuel zero n a bs h k = absurd (omega arith)
walk-fuel (suc m) zero a bs h k = absurd (omega arith)
walk-fuel (suc m) (suc n) a bs h k = go (λ b cs x y. walk-fuel m n b cs x y) (next_run a bs) refl
  where
    go : ((b : Bool) (cs : List ℕ) → length cs < m → length cs < n → walk m b cs ≡ walk n b cs) → (x : Next) → next_run a bs ≡ x
        → onward x (λ r. walk m (is_free r) (drop (64 * cells r) bs)) ≡ onward x (λ r. walk n (is_free r) (drop (64 * cells r) bs))
    go ih ended p = unfold onward in refl
    go ih broken p = unfold onward in refl
    go ih (run r) p = unfold onward in (
        let i = step-inv a bs r p in
        let c : 1 ≤ cells r = (says-cells (read-says bs r i.0)).0 in
        let d : length (drop (64 * cells r) bs) ≡ length bs - 64 * cells r = length-drop (64 * cells r) bs in
        ap (λ (w : Walk). record { runs = r ∷ w.runs; whole = w.whole })
        (ih (is_free r) (drop (64 * cells r) bs) (omega (arith, i.1)) (omega (arith, i.1)))
        )
