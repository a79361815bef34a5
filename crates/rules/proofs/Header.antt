-- `same` is equality. Pools that agree in length and in both header pages open alike, and those that agree before the zones pass the same tests
-- (`front_reads`); a sound pool opens, and its shape is good. The id of a pool that opens is not 0.
use Prim.Native.Nat.{ℕ, ◌+◌, ◌%◌, ◌≤◌, ◌<◌}
use mathlib.Core.Path.{◌≡◌, refl, sym, ap, ap₂, ◌∙◌}
use mathlib.Core.Logic.{◌≢◌}
use mathlib.Core.Bool.{Bool, true, false, not}
use mathlib.Core.List.{List, [], ◌∷◌}
use native.Mathlib.Omega.{arith}
use lib.Dec.{leb, eqb}
use lib.ListN.{length, take, drop, get_or}
use borrow.Author.Tests.{eqb-false, eqb-true, leb-true, le-ltb, eq-eqb, not-true}
use Rattle.rules.specs.Words.{word}
use Rattle.rules.specs.Shape.{Shape, log_a, log_b, pool_size, zones_at}
use Rattle.rules.specs.Header.{differing, header_id, header_in, header_ok, header_shape, id_in, in_range, letters, open_tests, page_at, same, shape_in, valid_header, version, within}
use Rattle.rules.specs.Seals.{read_tests, unsealed}
use Rattle.rules.specs.Sound.{Sound}
use Rattle.rules.proofs.Bool.{and_split, split}
use Rattle.rules.proofs.Test.{Passed, not-not}
use Rattle.rules.proofs.Words.{word-cong}
use Rattle.rules.proofs.Parts.{part_ext}
use Rattle.rules.proofs.Shape.{Good, good-shape, size-eq}

pub same_refl : (xs : List ℕ) → same xs xs ≡ true
unfolding same
same_refl [] = refl
same_refl (x ∷ xs) = rw (eq-eqb x x refl) (same_refl xs)

pub same-eq : (xs ys : List ℕ) → same xs ys ≡ true → xs ≡ ys
unfolding same
same-eq [] [] e = refl
same-eq [] (y ∷ ys) e = absurd (let z : ◌≡◌ {A = ℕ} 0 1 = cc in omega arith)
same-eq (x ∷ xs) [] e = absurd (let z : ◌≡◌ {A = ℕ} 0 1 = cc in omega arith)
same-eq (x ∷ xs) (y ∷ ys) e =
    let i = and_split (eqb x y) (same xs ys) e in
    ap₂ (λ (a : ℕ) (l : List ℕ). a ∷ l) (eqb-true x y i.0) (same-eq xs ys i.1)

-- an answer that is right both ways is `same`
pub same-is : (r : Bool) (xs ys : List ℕ) → (r ≡ true → xs ≡ ys) → (xs ≡ ys → r ≡ true) → r ≡ same xs ys
same-is true xs ys f g = rw (← f refl) (sym (same_refl xs))
same-is false xs ys f g = split (same xs ys) (λ e. rw e (g (same-eq xs ys e))) (λ e. sym e)

-- ---- pools with the same headers

pub record SameHeaders (p q : List ℕ) : Type 0 where
  pub header : page_at p 0 ≡ page_at q 0
  pub copy : page_at p 256 ≡ page_at q 256
  pub length-is : length p ≡ length q

pub same-headers : (p q : List ℕ) → length p ≡ length q → 512 ≤ length p → ((i : ℕ) → i < 512 → get_or p i 0 ≡ get_or q i 0) → SameHeaders p q
unfolding page_at
same-headers p q e l h = record { header = page 0 (omega arith); copy = page 256 (omega arith); length-is = e }
  where
    page : (a : ℕ) → a ≤ 256 → take 256 (drop a p) ≡ take 256 (drop a q)
    page a k = part_ext p q a 256 e (λ i m. h (a + i) (omega arith))

module _ (p q : List ℕ) (h : SameHeaders p q) where
  pub shape_same : shape_in p ≡ shape_in q
  unfolding shape_in valid_header
  shape_same = rw (h.header, h.copy, shape_in, valid_header)

  pub id_same : id_in p ≡ id_in q
  unfolding id_in valid_header
  id_same = rw (h.header, h.copy, id_in, valid_header)

  pub tests_same : open_tests p ≡ open_tests q
  unfolding open_tests differing shape_in valid_header
  tests_same = rw (h.header, h.copy, h.length-is, open_tests, differing, shape_in, valid_header)

-- ---- pools that agree before the zones

module _ (p q : List ℕ) (g : Good (shape_in p)) (l : length p ≡ pool_size (shape_in p)) (e : length q ≡ length p)
    (same : (i : ℕ) → i < zones_at (shape_in p) → get_or q i 0 ≡ get_or p i 0) where
  pub front-headers : SameHeaders q p
  front-headers = let k = g.page-min in let z = size-eq (shape_in p) g in same-headers q p e (omega arith) (λ i h. same i (omega arith))

  front-word : (a : ℕ) → a + 8 ≤ zones_at (shape_in p) → word q a ≡ word p a
  front-word a h = word-cong q p a (λ i k. same (a + i) (omega arith))

  pub front_reads : read_tests q ≡ read_tests p
  unfolding read_tests unsealed
  front_reads =
      let k = g.page-min in
      rw (tests_same q p front-headers, shape_same q p front-headers, front-word (log_a (shape_in p)) (omega arith), front-word (log_b (shape_in p)) (omega arith))

-- ---- a sound pool

-- the limits of 01 on R, C and Z
pub record Ranged (sh : Shape) : Type 0 where
  pub rows-low : 1 ≤ sh.rows
  pub rows-high : sh.rows ≤ 15
  pub cols-low : 1 ≤ sh.cols
  pub cols-high : sh.cols ≤ 64
  pub zones-low : 1 ≤ sh.zones
  pub zones-high : sh.zones ≤ 16

within_both : (lo n hi : ℕ) → within lo n hi ≡ true → (lo ≤ n) × (n ≤ hi)
unfolding within
within_both lo n hi h = let a = and_split (leb lo n) (leb n hi) h in (leb-true lo n a.0, leb-true n hi a.1)

pub range-ranged : (sh : Shape) → in_range sh ≡ true → Ranged sh
unfolding in_range
range-ranged sh h =
    let a = and_split (within 1 sh.rows 15) _ h in
    let b = and_split (within 1 sh.cols 64) _ a.1 in
    let r = within_both 1 sh.rows 15 a.0 in
    let c = within_both 1 sh.cols 64 b.0 in
    let z = within_both 1 sh.zones 16 b.1 in
    record { rows-low = r.0; rows-high = r.1; cols-low = c.0; cols-high = c.1; zones-low = z.0; zones-high = z.1 }

pub range-good : (sh : Shape) → sh.page ≡ 256 → in_range sh ≡ true → Good sh
range-good sh e h =
    let r = range-ranged sh h in
    good-shape sh (omega arith) (omega arith) (ap (λ (x : ℕ). x % 64) e) r.rows-low r.rows-high r.cols-low r.cols-high r.zones-high

-- the shape that a valid header tells is in range
pub header-range : (h : List ℕ) → header_ok h ≡ true → in_range (header_shape h) ≡ true
unfolding header_ok
header-range h ok = (and_split (in_range (header_shape h)) _ (and_split (same (take 4 h) letters) _ ok).1).0

-- where all tests are passed, the header that counts is valid
passed-valid : (p : List ℕ) → Passed (open_tests p) → header_ok (header_in p) ≡ true
unfolding open_tests valid_header
passed-valid p o =
    split (header_ok (page_at p 0)) (λ e. rw (e, e))
    (λ e. rw e (not-not (header_ok (page_at p 256)) (rw e at o.1.0)))

pub passed-range : (p : List ℕ) → Passed (open_tests p) → in_range (shape_in p) ≡ true
unfolding shape_in
passed-range p o = header-range (header_in p) (passed-valid p o)

pub passed_length : (p : List ℕ) → Passed (open_tests p) → length p ≡ pool_size (shape_in p)
unfolding open_tests
passed_length p o = eqb-true (length p) (pool_size (shape_in p)) (not-not (eqb (length p) (pool_size (shape_in p))) o.1.1.1.0)

-- NO POOL THAT OPENS HAS ID 0
header-id : (h : List ℕ) → header_ok h ≡ true → header_id h ≢ 0
unfolding header_ok
header-id h ok =
    let a = (and_split (same (take 4 h) letters) _ ok).1 in
    let b = (and_split (in_range (header_shape h)) _ a).1 in
    let c = (and_split (eqb (get_or h 7 0) version) _ b).1 in
    eqb-false (header_id h) 0 (not-true (eqb (header_id h) 0) (and_split (not (eqb (header_id h) 0)) _ c).0)

pub id-not-0 : (p : List ℕ) → Passed (open_tests p) → id_in p ≢ 0
unfolding id_in
id-not-0 p o = header-id (header_in p) (passed-valid p o)

pub passed-good : (p : List ℕ) → Passed (open_tests p) → Good (shape_in p)
passed-good p o = range-good (shape_in p) (unfold shape_in header_shape in refl) (passed-range p o)

module _ (p : List ℕ) (s : Sound p) where
  shape-first : shape_in p ≡ header_shape (page_at p 0)
  unfolding shape_in
  shape-first = rw s.header

  pub page-is : (shape_in p).page ≡ 256
  unfolding header_shape
  page-is = ap (λ (x : Shape). x.page) shape-first

  pub sound-good : Good (shape_in p)
  unfolding valid_header
  sound-good = range-good (shape_in p) page-is (ap in_range shape-first ∙ header-range (page_at p 0) s.header)

  pub sound-long : 512 ≤ length p
  sound-long = let e = size-eq (shape_in p) sound-good in let k = page-is in let l = s.length-is in omega arith

  pub sound-opens : Passed (open_tests p)
  unfolding open_tests differing
  sound-opens = (
    le-ltb (length p) 512 sound-long,
    (rw s.header, (rw (s.header, s.copy, s.equal, same_refl (page_at p 256)), (rw (eq-eqb (length p) (pool_size (shape_in p)) s.length-is), tt))),
  )
