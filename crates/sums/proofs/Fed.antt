-- Laws of the running sums: over parts in a row (`low-append`, `high-append`, `fed-append`), what the check is of them, and over a
-- block, with one remainder of each at its end (`adding-step`, `adding-end`). Assumes nothing.
use Prim.Native.Nat.{ℕ, suc, ◌+◌, ◌*◌, ◌%◌, ◌<◌, ◌≤◌}
use mathlib.Core.Path.{◌≡◌, refl, sym, ap, ap₂, ◌∙◌}
use mathlib.Core.List.{List, [], ◌∷◌, ◌++◌}
use native.Mathlib.Nat.{mul-add, suc-mul, zero-mul}
use native.Mathlib.Numerals.{add-one}
use native.Mathlib.Omega.{arith}
use lib.ListN.{length, drop, get_or}
use lib.Seq.{drop-cons, drop-length}
use Rattle.rules.specs.Check.{check, high, low, modulus, reduced, total, weighted}
use Rattle.rules.proofs.Check.{high_sum, low_sum}
use Rattle.sums.specs.Fed.{Below, Fed, Started}

pub low-append : (a : ℕ) (xs ys : List ℕ) → low a (xs ++ ys) ≡ low (low a xs) ys
unfolding low
low-append a [] ys = refl
low-append a (x ∷ xs) ys = low-append (reduced (a + x)) xs ys

pub high-append : (a h : ℕ) (xs ys : List ℕ) → high a h (xs ++ ys) ≡ high (low a xs) (high a h xs) ys
unfolding low high
high-append a h [] ys = refl
high-append a h (x ∷ xs) ys = high-append (reduced (a + x)) (reduced (h + reduced (a + x))) xs ys

-- sums over two parts in a row are the sums over both
pub fed-append : {a h b g c k : ℕ} {xs ys : List ℕ} → Fed a h xs b g → Fed b g ys c k → Fed a h (xs ++ ys) c k
fed-append {a} {h} {b} {g} {c} {k} {xs} {ys} d e =
    record {
      low-is = e.low-is ∙ ap (λ (x : ℕ). low x ys) d.low-is ∙ sym (low-append a xs ys);
      high_is = e.high_is ∙ ap₂ (λ (x y : ℕ). high x y ys) d.low-is d.high_is ∙ sym (high-append a h xs ys);
      below = e.below;
    }

-- from the start on, the sums make the check
pub fed-check : {a h b g : ℕ} {bs : List ℕ} → Started a h → Fed a h bs b g → g * 65536 + b ≡ check bs
unfolding check
fed-check {bs = bs} s d =
    ap₂ (λ (x y : ℕ). x * 65536 + y) (d.high_is ∙ ap₂ (λ (x y : ℕ). high x y bs) s.low-is s.high_is) (d.low-is ∙ ap (λ (x : ℕ). low x bs) s.low-is)

-- ---- the loop over a block: the sums l and g, with the bytes from i on to go

pub record Adding (a h : ℕ) (bs : List ℕ) (l g i : ℕ) : Type 0 where
  pub le : i ≤ length bs
  pub low-is : l + total (drop i bs) ≡ a + total bs
  pub high_is : g + length (drop i bs) * l + weighted (drop i bs) ≡ h + length bs * a + weighted bs
  pub low-le : l ≤ 65520 + 255 * i
  pub high_le : g ≤ 65520 + 587760 * i

pub adding-start : {a h : ℕ} {bs : List ℕ} → Below a h → Adding a h bs a h 0
adding-start b = record { le = omega arith; low-is = refl; high_is = refl; low-le = omega (arith, b.low-lt); high_le = omega (arith, b.high_lt) }

-- the low sum stays within 65,520 + 255 × 2,048 = 587,760, and the high one adds it
pub adding-step : {a h : ℕ} {bs : List ℕ} {l g b i : ℕ} → Adding a h bs l g i → i < length bs → length bs ≤ 2048 → b ≡ get_or bs i 0 → b < 256
    → Adding a h bs (l + b) (g + (l + b)) (i + 1)
unfolding total weighted
adding-step {bs = bs} {l = l} {i = i} f k m e c =
    let r : List ℕ = drop (suc i) bs in
    record {
      le = omega arith;
      low-is = rw (e, add-one) (omega (arith, rw (drop-cons bs i 0 k) at f.low-is));
      high_is = rw (e, add-one) (omega (arith, rw (drop-cons bs i 0 k) at f.high_is, suc-mul (length r) l, suc-mul (length r) (get_or bs i 0), mul-add (length r) l (get_or bs i 0)));
      low-le = omega (arith, f.low-le);
      high_le = omega (arith, f.low-le, f.high_le);
    }

-- one remainder of each sum at the block's end
pub adding-end : {a h : ℕ} {bs : List ℕ} {l g i : ℕ} → Adding a h bs l g i → Below a h → length bs ≤ i → Fed a h bs (l % modulus) (g % modulus)
unfolding reduced total weighted
adding-end {a} {h} {bs} {l} {g} {i} f s k =
    let e : i ≡ length bs = omega (arith, f.le) in
    let m : l ≡ a + total bs = omega (arith, rw (e, drop-length) at f.low-is) in
    let n : g ≡ h + length bs * a + weighted bs = omega (arith, rw (e, drop-length) at f.high_is, zero-mul l) in
    record {
      low-is = ap reduced m ∙ sym (low_sum a bs s.low-lt);
      high_is = ap reduced n ∙ sym (high_sum a h bs s.high_lt);
      below = record { low-lt = omega arith; high_lt = omega arith };
    }

-- ---- the loop over blocks: the sums b and g, with the bytes of rest to go

pub record Feeding (a h : ℕ) (bs : List ℕ) (b g : ℕ) (rest : List ℕ) : Type 0 where
  pub low-is : low b rest ≡ low a bs
  pub high_is : high b g rest ≡ high a h bs

pub feeding-step : {a h : ℕ} {bs : List ℕ} {b g : ℕ} {rest xs rest' : List ℕ} {c k : ℕ} → Feeding a h bs b g rest → rest ≡ xs ++ rest' → Fed b g xs c k → Feeding a h bs c k rest'
feeding-step {b = b} {g} {xs = xs} {rest'} f e d =
    record {
      low-is = rw (d.low-is) (sym (low-append b xs rest') ∙ rw e at f.low-is);
      high_is = rw (d.low-is, d.high_is) (sym (high-append b g xs rest') ∙ rw e at f.high_is);
    }

pub feeding-end : {a h : ℕ} {bs : List ℕ} {b g : ℕ} {rest : List ℕ} → Feeding a h bs b g rest → length rest ≡ 0 → Below b g → Fed a h bs b g
unfolding low high
feeding-end {rest = []} f e b = record { low-is = f.low-is; high_is = f.high_is; below = b }
feeding-end {rest = x ∷ xs} f e b = absurd (omega arith)
