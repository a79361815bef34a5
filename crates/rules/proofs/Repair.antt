-- Repair restores every byte, over any page size (`restores`).
use mathlib.Core.Path.{◌≡◌, refl, sym, ap, ap₂, ◌∙◌, subst}
use mathlib.Core.Logic.{◌≢◌}
use mathlib.Core.Bool.{Bool, true, false}
use mathlib.Core.List.{List}
use Prim.Native.Nat.{ℕ, zero, suc, ◌+◌, ◌/◌, ◌%◌, ◌^◌, ◌≤◌, ◌<◌}
use native.Mathlib.Nat.{not-suc-le-zero, le_of_suc-le-suc, div-div-eq-div-mul, pow-suc, mul_comm, div-one, zero-add}
use native.Mathlib.Decide.{ℕ_discrete}
use native.Mathlib.Omega.{arith}
use borrow.Author.Tests.{eqb-true, eq-eqb, ne_eqb, leb-true, le-leb}
use lib.Count.{ones, ones_step}
use lib.Dec.{eqb, leb}
use lib.ListN.{length, get_or}
use lib.Seq.{ext_get_or}
use Rattle.rules.specs.Shape.{Shape, byte_at, off, pool_size, row, row_at, zone, zones_at}
use Rattle.rules.specs.Parity.{Parity, skip, xor_to}
use Rattle.rules.specs.Repair.{bit, lost, mask_at, rebuilt, repaired, tab_from}
use Rattle.rules.proofs.Bool.{and_split}
use Rattle.rules.proofs.Xor.{xor_to-cong, xor_to-others}
use Rattle.rules.proofs.Shape.{Good, cell-high, cell-low, off-cell, off-lt, row_below, row_of, row-self, zone-below, zone-cell}

-- ---- a mask with at most one bit

bit-suc : (m r : ℕ) → m / 2 ^ suc r ≡ m / 2 / 2 ^ r
bit-suc m r = ap (λ (x : ℕ). m / x) (pow-suc 2 r ∙ mul_comm (2 ^ r) 2) ∙ sym (div-div-eq-div-mul m 2 (2 ^ r))

pub low_bit : (m : ℕ) → bit m 0 ≡ m % 2
low_bit m = ap (λ (x : ℕ). x % 2) (div-one m)

pub next_bit : (m r : ℕ) → bit m (suc r) ≡ bit (m / 2) r
next_bit m r = ap (λ (x : ℕ). x % 2) (bit-suc m r)

pub bit-ones : (r m : ℕ) → bit m r ≡ 1 → 1 ≤ ones m
bit-ones zero m h = let e = ones_step m in let d = low_bit m in omega arith
bit-ones (suc r) m h = let e = ones_step m in let k = bit-ones r (m / 2) (sym (next_bit m r) ∙ h) in omega arith

bit-low : (r m : ℕ) → ones m ≤ 1 → bit m 0 ≡ 1 → bit m (suc r) ≡ 1 → ⊥
bit-low r m l h k = let e = ones_step m in let d = low_bit m in let u = bit-ones r (m / 2) (sym (next_bit m r) ∙ k) in omega arith

pub bit-unique : (r r' m : ℕ) → ones m ≤ 1 → bit m r ≡ 1 → bit m r' ≡ 1 → r ≡ r'
bit-unique zero zero m l h k = refl
bit-unique zero (suc r') m l h k = absurd (bit-low r' m l h k)
bit-unique (suc r) zero m l h k = absurd (bit-low r m l k h)
bit-unique (suc r) (suc r') m l h k =
    ap suc (bit-unique r r' (m / 2) (let e = ones_step m in omega arith) (sym (next_bit m r) ∙ h) (sym (next_bit m r') ∙ k))

-- ---- the table

pub tab-length : (k n : ℕ) (f : ℕ → ℕ) → length (tab_from k n f) ≡ n
unfolding tab_from
tab-length k zero f = refl
tab-length k (suc n) f = ap suc (tab-length (suc k) n f)

pub tab-at : (k n : ℕ) (f : ℕ → ℕ) (i : ℕ) → i < n → get_or (tab_from k n f) i 0 ≡ f (k + i)
unfolding tab_from
tab-at k zero f i h = absurd (not-suc-le-zero h)
tab-at k (suc n) f zero h = ap f (omega arith)
tab-at k (suc n) f (suc i) h = tab-at (suc k) n f i (le_of_suc-le-suc h) ∙ ap f (omega arith)

pub tab-cong : (n : ℕ) (f g : ℕ → ℕ) → ((i : ℕ) → i < n → f i ≡ g i) → tab_from 0 n f ≡ tab_from 0 n g
tab-cong n f g h =
    ext_get_or 0 (tab_from 0 n f) (tab_from 0 n g) (tab-length 0 n f ∙ sym (tab-length 0 n g))
    (λ i l. let j : i < n = rw (tab-length 0 n f) at l in
    tab-at 0 n f i j ∙ rw (zero-add i) (h i j) ∙ sym (tab-at 0 n g i j ∙ ap g (zero-add i)))

-- ---- repair, byte by byte

module _ (sh : Shape) (p ms : List ℕ) where
  pub repaired-length : length (repaired sh ms p) ≡ length p
  unfolding repaired
  repaired-length = tab-length 0 (length p) (rebuilt sh ms p)

  pub repaired-at : (i : ℕ) → i < length p → get_or (repaired sh ms p) i 0 ≡ rebuilt sh ms p i
  unfolding repaired
  repaired-at i h = tab-at 0 (length p) (rebuilt sh ms p) i h ∙ ap (rebuilt sh ms p) (zero-add i)

-- q is p but for lost pages, at most one a column, whatever they hold: the pool repaired is p, whole
abbrev pub Restores : Shape → Type 0
Restores sh =
    (ms p q : List ℕ) → length p ≡ pool_size sh → length q ≡ pool_size sh → Parity sh p
    → ((k : ℕ) → ones (get_or ms k 0) ≤ 1)
    → ((i : ℕ) → i < pool_size sh → lost sh ms i ≡ false → get_or q i 0 ≡ get_or p i 0)
    → repaired sh ms q ≡ p

module _ (sh : Shape) (g : Good sh) where
  -- a place in another row of the column: the same column, that row
  pub row-mask : (ms : List ℕ) (i r : ℕ) → r ≤ sh.rows → mask_at sh ms (row_at sh i r) ≡ mask_at sh ms i
  unfolding row_at
  row-mask ms i r h = rw (zone-cell sh g (zone sh i) r (off sh i) h (off-lt sh g i), off-cell sh g (zone sh i) r (off sh i) (off-lt sh g i))

  pub row-zone : (i r : ℕ) → row_at sh i r ≡ byte_at sh (zone sh i) r (off sh i)
  unfolding row_at
  row-zone i r = refl

  module _ (ms p q : List ℕ) (one : (k : ℕ) → ones (get_or ms k 0) ≤ 1)
      (same : (i : ℕ) → i < pool_size sh → lost sh ms i ≡ false → get_or q i 0 ≡ get_or p i 0) where
    -- where row k of a column is lost, each other row is not
    other : (i r : ℕ) → zones_at sh ≤ i → i < pool_size sh → bit (mask_at sh ms i) (row sh i) ≡ 1 → r ≤ sh.rows → row sh i ≢ r
        → get_or q (row_at sh i r) 0 ≡ get_or p (row_at sh i r) 0
    other i r low high h l n = same (row_at sh i r) (subst (λ (a : ℕ). a < pool_size sh) (sym (row-zone i r)) (cell-high sh g (zone sh i) r (off sh i) (zone-below sh g i low high) l (off-lt sh g i)))
        (rw (le-leb (zones_at sh) (row_at sh i r) (subst (λ (a : ℕ). zones_at sh ≤ a) (sym (row-zone i r)) (cell-low sh g (zone sh i) r (off sh i))))
        (ne_eqb (bit (mask_at sh ms (row_at sh i r)) (row sh (row_at sh i r))) 1 (λ e. n (bit-unique (row sh i) r (mask_at sh ms i) (one _) h
        (sym (ap₂ bit (row-mask ms i r l) (row_of sh g i r l)) ∙ e)))))

    -- a lost byte is rebuilt from bytes that are not lost
    pub rebuilt-same : (i : ℕ) → i < pool_size sh → lost sh ms i ≡ true → rebuilt sh ms q i ≡ rebuilt sh ms p i
    rebuilt-same i h e =
        rw e (xor_to-cong (suc sh.rows) (skip (row sh i) (λ r. get_or q (row_at sh i r) 0)) (skip (row sh i) (λ r. get_or p (row_at sh i r) 0)) (λ r k. go r k (ℕ_discrete (row sh i) r)))
      where
        a : (leb (zones_at sh) i ≡ true) × (eqb (bit (mask_at sh ms i) (row sh i)) 1 ≡ true)
        a = and_split (leb (zones_at sh) i) _ e

        go : (r : ℕ) → r < suc sh.rows → Dec (row sh i ≡ r) → skip (row sh i) (λ r. get_or q (row_at sh i r) 0) r ≡ skip (row sh i) (λ r. get_or p (row_at sh i r) 0) r
        go r k (yes d) = rw (eq-eqb (row sh i) r d)
        go r k (no d) =
            rw (ne_eqb (row sh i) r d) (other i r (leb-true (zones_at sh) i a.0) h (eqb-true (bit (mask_at sh ms i) (row sh i)) 1 a.1) (le_of_suc-le-suc k) d)

  -- with right parity it is what it was
  parity-rebuilt : (ms p : List ℕ) → Parity sh p → (i : ℕ) → i < pool_size sh → lost sh ms i ≡ true → rebuilt sh ms p i ≡ get_or p i 0
  parity-rebuilt ms p par i h e =
      rw e (xor_to-others (suc sh.rows) (λ r. get_or p (row_at sh i r) 0) (row sh i) (let k = row_below sh g i in omega arith) zero-sum
      ∙ ap (λ (a : ℕ). get_or p a 0) (row-self sh g i low))
    where
      low : zones_at sh ≤ i
      low = leb-true (zones_at sh) i (and_split (leb (zones_at sh) i) _ e).0

      zero-sum : xor_to (suc sh.rows) (λ r. get_or p (row_at sh i r) 0) ≡ 0
      zero-sum =
          xor_to-cong (suc sh.rows) _ _ (λ r k. ap (λ (a : ℕ). get_or p a 0) (row-zone i r)) ∙ par (zone sh i) (off sh i) (zone-below sh g i low h) (off-lt sh g i)

  pub restores : Restores sh
  restores ms p q lp lq par one same =
      ext_get_or 0 (repaired sh ms q) p (repaired-length sh q ms ∙ lq ∙ sym lp)
      (λ i h. let k : i < length q = rw (repaired-length sh q ms) at h in repaired-at sh q ms i k ∙ mended i (subst (λ (n : ℕ). i < n) lq k) (lost sh ms i) refl)
    where
      mended : (i : ℕ) → i < pool_size sh → (b : Bool) → lost sh ms i ≡ b → rebuilt sh ms q i ≡ get_or p i 0
      mended i h false e = rw e (same i h e)
      mended i h true e = rebuilt-same ms p q one same i h e ∙ parity-rebuilt ms p par i h e
