-- A pool opened, and its id, way out by way out; and what a caller knows of an opened pool. Assumes nothing.
use Prim.Native.Nat.{ℕ, ◌≤◌, ◌<◌}
use mathlib.Core.Path.{◌≡◌, refl, sym, ap, ◌∙◌}
use mathlib.Core.Bool.{Bool, true, false, not}
use mathlib.Core.Option.{Option, none, some}
use mathlib.Core.List.{List, ◌++◌}
use native.Mathlib.Omega.{arith}
use lib.ListN.{length, take}
use borrow.Author.Tests.{eq-eqb, le-ltb, lt-ltb, ltb-false, ne_eqb}
use Rattle.rules.specs.Shape.{Shape as PoolShape, page_size, pool_size, zones_at}
use Rattle.rules.specs.Test.{Test, first}
use Rattle.rules.specs.Header.{differing, header_id, header_ok, header_shape, id_in, in_range as ranges, letters, open_tests, page_at, same, shape_in, valid_header}
use Rattle.rules.proofs.Bool.{split}
use Rattle.rules.proofs.Chain.{and-stop}
use Rattle.rules.proofs.Shape.{Good as GoodShape}
use Rattle.rules.proofs.Test.{Passed, first-passed, passed_first, passed-left}
use Rattle.rules.proofs.Header.{passed_length, passed-range, range-good, same-eq}
use Rattle.layout.specs.declared.Shape.{Shape}
use Rattle.layout.specs.declared.opened.Pool.{Pool}
use Rattle.layout.specs.Meaning.{Checked, InRange, Shaped, answer, good, opened, opened_by, refused, shape_of}
use Rattle.layout.proofs.Range.{in_range, size-bounds}

-- ---- by the header page h, a pool of n bytes

module _ (h : List ℕ) (n z : ℕ) (sh : PoolShape) (e : sh ≡ header_shape h) (f : z ≡ pool_size sh) where
  pub opened-by-good : n ≡ z → good sh ≡ opened_by h n
  unfolding opened_by answer first
  opened-by-good g = rw (← e, eq-eqb n (pool_size sh) (g ∙ f))

  pub opened-by-refused : (n ≡ z → ⊥) → refused 2 ≡ opened_by h n
  unfolding opened_by answer first
  opened-by-refused g = rw (← e, ne_eqb n (pool_size sh) (λ q. g (q ∙ sym f)))

-- ---- a pool

module _ (p : List ℕ) where
  pub open-short : length p < 512 → refused 2 ≡ opened p
  unfolding opened open_tests first answer
  open-short h = rw (lt-ltb (length p) 512 h)

  -- the copy equals the header: both are valid or neither is
  module _ (a : Bool) (l : 512 ≤ length p) (d : same (page_at p 0) (page_at p 256) ≡ true) (e : a ≡ valid_header p 0) where
    copy-valid : a ≡ valid_header p 256
    unfolding valid_header
    copy-valid = e ∙ ap header_ok (same-eq (page_at p 0) (page_at p 256) d)

    pub open-equal : (t : Checked) → a ≡ true → t ≡ opened_by (page_at p 0) (length p) → t ≡ opened p
    unfolding opened open_tests first answer differing shape_in opened_by
    open-equal t h g = rw (le-ltb (length p) 512 l, ← e, ← copy-valid, h, d) g

    pub open_none : a ≡ false → refused 3 ≡ opened p
    unfolding opened open_tests first answer
    open_none h = rw (le-ltb (length p) 512 l, ← e, ← copy-valid, h)

  -- and the letters of the copy are others
  pub open-letters : (x : Bool) → 512 ≤ length p → same (page_at p 0) (page_at p 256) ≡ true → x ≡ same (take 4 (page_at p 256)) letters → not x ≡ true
      → refused 3 ≡ opened p
  unfolding valid_header header_ok
  open-letters x l d e h =
      let k : false ≡ header_ok (page_at p 256) = and-stop x _ _ h e in
      open_none false l d (k ∙ ap header_ok (sym (same-eq (page_at p 0) (page_at p 256) d))) refl

  -- it does not
  module _ (a b : Bool) (l : 512 ≤ length p) (d : same (page_at p 0) (page_at p 256) ≡ false) (e : a ≡ valid_header p 0) (f : b ≡ valid_header p 256) where
    pub open-differing : a ≡ true → b ≡ true → refused 4 ≡ opened p
    unfolding opened open_tests first answer differing
    open-differing h k = rw (le-ltb (length p) 512 l, ← e, h, ← f, k, d)

    pub open-header : (t : Checked) → a ≡ true → b ≡ false → t ≡ opened_by (page_at p 0) (length p) → t ≡ opened p
    unfolding opened open_tests first answer differing shape_in opened_by
    open-header t h k g = rw (le-ltb (length p) 512 l, ← e, h, ← f, k) g

    pub open-copy : (t : Checked) → a ≡ false → b ≡ true → t ≡ opened_by (page_at p 256) (length p) → t ≡ opened p
    unfolding opened open_tests first answer differing shape_in opened_by
    open-copy t h k g = rw (le-ltb (length p) 512 l, ← e, h, ← f, k) g

    pub open-neither : a ≡ false → b ≡ false → refused 3 ≡ opened p
    unfolding opened open_tests first answer
    open-neither h k = rw (le-ltb (length p) 512 l, ← e, h, ← f, k)

  -- its id: the header's if that is valid, else the copy's; either, where both are one
  module _ (x y : ℕ) (e : x ≡ header_id (page_at p 0)) (f : y ≡ header_id (page_at p 256)) where
    pub id-header : (a : Bool) → a ≡ valid_header p 0 → a ≡ true → x ≡ id_in p
    unfolding id_in
    id-header a d h = rw (← d, h) e

    pub id-copy : (a : Bool) → a ≡ valid_header p 0 → a ≡ false → y ≡ id_in p
    unfolding id_in
    id-copy a d h = rw (← d, h) f

    pub id-equal : x ≡ y → x ≡ id_in p
    id-equal g = split (valid_header p 0) (id-header (valid_header p 0) refl) (λ h. g ∙ id-copy (valid_header p 0) refl h)

-- ---- what a caller knows of an opened pool

pub answer-good : (o : Option ℕ) (sh t : PoolShape) → answer o sh ≡ good t → (o ≡ none) × (sh ≡ t)
unfolding answer
answer-good none sh t e = (refl, cc)
answer-good (some n) sh t e = absurd (let z : ◌≡◌ {A = ℕ} 0 1 = cc in omega arith)

pub answer-refused : (o : Option ℕ) (sh : PoolShape) (n : ℕ) → answer o sh ≡ refused n → o ≡ some n
unfolding answer
answer-refused none sh n e = absurd (let z : ◌≡◌ {A = ℕ} 0 1 = cc in omega arith)
answer-refused (some m) sh n e = cc

module _ (p : List ℕ) where
  pub open-passed : (sh : PoolShape) → opened p ≡ good sh → Passed (open_tests p)
  unfolding opened
  open-passed sh e = first-passed (open_tests p) (answer-good (first (open_tests p)) (shape_in p) sh e).0

  pub open-refused : (n : ℕ) → opened p ≡ refused n → first (open_tests p) ≡ some n
  unfolding opened
  open-refused n e = answer-refused (first (open_tests p)) (shape_in p) n e

  pub open-long : (sh : PoolShape) → opened p ≡ good sh → 512 ≤ length p
  unfolding open_tests
  open-long sh e = ltb-false (length p) 512 (open-passed sh e).0

  pub passed-open : Passed (open_tests p) → opened p ≡ good (shape_in p)
  unfolding opened answer
  passed-open o = rw (passed_first (open_tests p) o)

  -- also where more tests follow
  pub answer-opened : (ts : List Test) {sh : PoolShape} → answer (first (open_tests p ++ ts)) (shape_in p) ≡ good sh → opened p ≡ good sh
  answer-opened ts {sh} e =
      let a = answer-good (first (open_tests p ++ ts)) (shape_in p) sh e in
      passed-open (passed-left (open_tests p) ts (first-passed (open_tests p ++ ts) a.0)) ∙ ap good a.1

  pub refused-open : (n : ℕ) → first (open_tests p) ≡ some n → opened p ≡ refused n
  unfolding opened answer
  refused-open n e = rw e

  page-in : (shape_in p).page ≡ page_size
  unfolding shape_in header_shape
  page-in = refl

  -- the length is the shape's, which is in range and the one in the header
  pub open-good : (sh : PoolShape) → opened p ≡ good sh → (length p ≡ pool_size sh) × InRange sh × (sh ≡ shape_in p)
  unfolding opened
  open-good sh e =
      let o = open-passed sh e in
      let k : sh ≡ shape_in p = sym (answer-good (first (open_tests p)) (shape_in p) sh e).1 in
      (passed_length p o ∙ ap pool_size (sym k), record { ranged = ap ranges k ∙ passed-range p o; paged = ap (λ (x : PoolShape). x.page) k ∙ page-in }, k)

  pub open-shape : (sh : PoolShape) → opened p ≡ good sh → GoodShape sh
  open-shape sh e = let r = (open-good sh e).1 in range-good sh r.paged r.ranged

  pub open-shaped : (sh : PoolShape) → opened p ≡ good sh → Shaped p sh
  open-shaped sh e = let g = open-good sh e in record { range = g.1; size = g.0 }

  -- it has room for the header pages and both logs
  pub shaped-room : (s : Shape) → Shaped p (shape_of s) → zones_at (shape_of s) ≤ length p
  shaped-room s h = let b = size-bounds s in omega (arith, h.size, b)

-- ---- a pool of its shape, as one value

pub pool-shaped : (p : Pool) → Shaped p.bytes.now (shape_of p.shape)
pool-shaped p = record { range = in_range p.shape; size = p.sized }
