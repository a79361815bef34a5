-- What the searches through a zone's runs find: the runs before it, and the runs behind it.
use Prim.Native.Nat.{ℕ, ◌+◌, ◌-◌, ◌≤◌}
use mathlib.Core.Path.{◌≡◌, refl, sym, ap, ap₂, ◌∙◌, subst}
use mathlib.Core.Bool.{Bool, false}
use mathlib.Core.Option.{some}
use mathlib.Core.List.{List, [], ◌∷◌, ◌++◌, append_assoc, append-nil}
use native.Mathlib.Nat.{add-zero}
use native.Mathlib.Omega.{arith}
use lib.Dec.{leb, eqb}
use borrow.Author.Tests.{eqb-true, leb-true}
use Rattle.rules.specs.Runs.{Run, cell_count, cells, free, object}
use Rattle.rules.specs.Search.{Place, fit, free_cells, joined, lead, run_at}
use Rattle.rules.proofs.Bool.{and-false, split}
use Rattle.rules.proofs.Laid.{Laid, ends, laid-split, laid-starts, more, starts}
use Rattle.rules.proofs.Book.{Pos, pos-right, size-append}

-- the run r behind the runs P, before the runs Q
pub record Found (rs : List Run) (r : Run) (c a : ℕ) : Type 0 where
  pub before : List Run
  pub behind : List Run
  pub cut : rs ≡ before ++ (r ∷ behind)
  pub here : c + cell_count before ≡ a

-- one run more in front
found-cons : (q : Run) (rs : List Run) (r : Run) (c a : ℕ) → Found rs r (c + cells q) a → Found (q ∷ rs) r c a
unfolding cell_count
found-cons q rs r c a f =
    record { before = q ∷ f.before; behind = f.behind; cut = ap (λ (l : List Run). q ∷ l) f.cut; here = omega (arith, f.here) }

pub fit_found : (k c : ℕ) (rs : List Run) (p : Place) → fit k c rs ≡ some p → Found rs (free p.count) c p.cell × (k ≤ p.count)
unfolding fit cell_count
fit_found k c [] p e = absurd (let z : ◌≡◌ {A = ℕ} 0 1 = cc in omega arith)
fit_found k c (object n t b g ∷ rs) p e = let i = fit_found k (c + n) rs p e in (found-cons (object n t b g) rs (free p.count) c p.cell i.0, i.1)
fit_found k c (free n ∷ rs) p e =
    split (leb k n)
    (λ l.
    let e' : some (record { cell = c; count = n }) ≡ some p = rw l at e in
    let q : ◌≡◌ {A = Place} (record { cell = c; count = n }) p = cc in
    subst (λ (p : Place). Found (free n ∷ rs) (free p.count) c p.cell × (k ≤ p.count)) q
    (record { before = []; behind = rs; cut = refl; here = add-zero c }, leb-true k n l))
    (λ l. let i = fit_found k (c + n) rs p (rw l at e) in (found-cons (free n) rs (free p.count) c p.cell i.0, i.1))

-- the free cells right before what follows some runs
unfoldable pub tail : ℕ → List Run → ℕ
tail p [] = p
tail p (r ∷ rs) = tail (free_cells r) rs

pub run-found : (a p c : ℕ) (rs : List Run) (r : Run) → run_at a c rs ≡ some r
    → (f : Found rs r c a) × (joined a p c rs ≡ record { cell = a - tail p f.before; count = tail p f.before + (cells r + lead f.behind) })
unfolding run_at joined tail cell_count found-cons
run-found a p c [] r e = absurd (let z : ◌≡◌ {A = ℕ} 0 1 = cc in omega arith)
run-found a p c (q ∷ rs) r e =
    split (eqb c a)
    (λ l.
    let e' : some q ≡ some r = rw l at e in
    let z : q ≡ r = cc in (
      record { before = []; behind = rs; cut = ap (λ (y : Run). y ∷ rs) z; here = add-zero c ∙ eqb-true c a l },
      rw l (ap₂ (λ (y : ℕ) (w : Run). record { cell = y - p; count = p + (cells w + lead rs) }) (eqb-true c a l) z),
    ))
    (λ l. let i = run-found a (free_cells q) (c + cells q) rs r (rw l at e) in (found-cons q rs r c a i.0, rw l i.1))

-- ---- an object with its free neighbours

-- no run; or one that is free
pub data Frees : List Run → Type 0 where
  nothing : Frees []
  gap : {n : ℕ} → Frees (free n ∷ [])

-- runs whose last is not free, and what free run stands behind them
pub record Left (P : List Run) : Type 0 where
  pub rest : List Run
  pub gaps : List Run
  pub are : Frees gaps
  pub cut : P ≡ rest ++ gaps
  pub count : cell_count gaps ≡ tail 0 P
  pub last : (gaps ≡ []) → ends false P ≡ false

left-of : (P : List Run) → Left P
unfolding tail cell_count ends
left-of [] = record { rest = []; gaps = []; are = nothing; cut = refl; count = refl; last = λ e. refl }
left-of (free n ∷ []) = record { rest = []; gaps = free n ∷ []; are = gap; cut = refl; count = add-zero n; last = λ e. absurd (let z : ◌≡◌ {A = ℕ} 0 1 = cc in omega arith) }
left-of (object n t b g ∷ []) = record { rest = object n t b g ∷ []; gaps = []; are = nothing; cut = refl; count = refl; last = λ e. refl }
left-of (r ∷ (q ∷ P)) =
    let i = left-of (q ∷ P) in
    record { rest = r ∷ i.rest; gaps = i.gaps; are = i.are; cut = ap (λ (l : List Run). r ∷ l) i.cut; count = i.count; last = i.last }

pub record Right (Q : List Run) : Type 0 where
  pub gaps : List Run
  pub rest : List Run
  pub are : Frees gaps
  pub cut : Q ≡ gaps ++ rest
  pub count : cell_count gaps ≡ lead Q
  pub first : (gaps ≡ []) → starts Q ≡ false

right_of : (Q : List Run) → Right Q
unfolding cell_count starts
right_of [] = record { gaps = []; rest = []; are = nothing; cut = refl; count = refl; first = λ e. refl }
right_of (free n ∷ Q) = record { gaps = free n ∷ []; rest = Q; are = gap; cut = refl; count = add-zero n; first = λ e. absurd (let z : ◌≡◌ {A = ℕ} 0 1 = cc in omega arith) }
right_of (object n t b g ∷ Q) = record { gaps = []; rest = object n t b g ∷ Q; are = nothing; cut = refl; count = refl; first = λ e. refl }

-- the object o behind P, before Q: its free neighbours, and neither before nor behind them a free run
pub record Around (P : List Run) (o : Run) (Q : List Run) : Type 0 where
  pub left : Left P
  pub right : Right Q
  pub not-free-before : ends false left.rest ≡ false
  pub not-free-behind : starts right.rest ≡ false

after_free : {a : Bool} {m : ℕ} {R : List Run} {cs : List ℕ} → Laid a (free m ∷ R) cs → starts R ≡ false
after_free (more s k l c) = laid-starts l

pub around : (P : List Run) (n t : ℕ) (b : List ℕ) (g : Bool) (Q : List Run) (bs : List ℕ) → Laid false (P ++ (object n t b g ∷ Q)) bs → Around P (object n t b g) Q
unfolding starts ends
around P n t b g Q bs l =
    let i = left-of P in
    let j = right_of Q in
    record {
      left = i;
      right = j;
      not-free-before = before i.rest i.gaps i.are i.cut i.last;
      not-free-behind = behind j.gaps j.rest j.are j.cut j.first (laid-split false P (object n t b g ∷ Q) bs l).laid-back;
    }
  where
    before : (R G : List Run) → Frees G → P ≡ R ++ G → ((G ≡ []) → ends false P ≡ false) → ends false R ≡ false
    before R [] nothing e f = ap (λ (x : List Run). ends false x) (sym (append-nil R) ∙ sym e) ∙ f refl
    before R (free m ∷ []) gap e f =
        let k : Laid false (R ++ (free m ∷ (object n t b g ∷ Q))) bs = rw (append_assoc R (free m ∷ []) (object n t b g ∷ Q)) at (rw e at l) in
        and-false _ _ (laid-starts (laid-split false R (free m ∷ (object n t b g ∷ Q)) bs k).laid-back) refl
    before R (free m ∷ (_ ∷ _)) x e f = elim x [ ]
    before R (object _ _ _ _ ∷ _) x e f = elim x [ ]

    behind : (G R : List Run) → Frees G → Q ≡ G ++ R → ((G ≡ []) → starts Q ≡ false) → {a : Bool} {cs : List ℕ} → Laid a (object n t b g ∷ Q) cs → starts R ≡ false
    behind [] R nothing e f (more s k l c) = ap starts (sym e) ∙ f refl
    behind (free m ∷ []) R gap e f (more s k l c) = after_free (rw e at l)
    behind (free m ∷ (_ ∷ _)) R x e f _ = elim x [ ]
    behind (object _ _ _ _ ∷ _) R x e f _ = elim x [ ]

-- ---- what is found lies within the runs

pub fit-bound : (k : ℕ) (rs : List Run) (p : Place) → fit k 0 rs ≡ some p → (p.cell + p.count ≤ cell_count rs) × (k ≤ p.count)
unfolding cell_count
fit-bound k rs p e =
    let i = fit_found k 0 rs p e in
    (omega (arith, i.0.here, ap cell_count i.0.cut ∙ size-append i.0.before (free p.count ∷ i.0.behind)), i.1)

pub run-bound : (a : ℕ) (rs : List Run) (r : Run) → run_at a 0 rs ≡ some r → a + cells r ≤ cell_count rs
unfolding cell_count
run-bound a rs r e =
    let f = (run-found a 0 0 rs r e).0 in
    omega (arith, f.here, ap cell_count f.cut ∙ size-append f.before (r ∷ f.behind))

tail-le : (p : ℕ) (P : List Run) → tail p P ≤ p + cell_count P
unfolding tail cell_count
tail-le p [] = omega arith
tail-le p (free n ∷ P) = omega (arith, tail-le n P)
tail-le p (object n t b g ∷ P) = omega (arith, tail-le 0 P)

lead-le : (Q : List Run) → lead Q ≤ cell_count Q
unfolding cell_count
lead-le [] = omega arith
lead-le (free n ∷ Q) = omega arith
lead-le (object n t b g ∷ Q) = omega arith

pub joined-bound : (a : ℕ) (rs : List Run) (r : Run) → run_at a 0 rs ≡ some r
    → ((joined a 0 0 rs).cell + (joined a 0 0 rs).count ≤ cell_count rs) × (cells r ≤ (joined a 0 0 rs).count)
unfolding cell_count
joined-bound a rs r e =
    let i = run-found a 0 0 rs r e in
    let P : List Run = i.0.before in
    let Q : List Run = i.0.behind in
    let s : cell_count rs ≡ cell_count P + (cells r + cell_count Q) = ap cell_count i.0.cut ∙ size-append P (r ∷ Q) in
    rw i.1 (omega (arith, i.0.here, s, tail-le 0 P, lead-le Q), omega arith)

pub run-pos : (a : ℕ) (rs : List Run) (r : Run) → Pos rs → run_at a 0 rs ≡ some r → 1 ≤ cells r
run-pos a rs r p e =
    let f = (run-found a 0 0 rs r e).0 in
    (pos-right f.before (r ∷ f.behind) (rw f.cut at p)).0
