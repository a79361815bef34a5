-- The check brought up to date, word by word of the staged view. Assumes nothing.
use Prim.Native.Nat.{ℕ, zero, suc, ◌+◌, ◌-◌, ◌/◌, ◌*◌, ◌%◌, ◌≤◌}
use mathlib.Core.Path.{◌≡◌, refl, sym, ap, ◌∙◌}
use mathlib.Core.List.{List, [], ◌∷◌}
use native.Mathlib.Nat.{add-sub_cancel_left, add-zero, min-le_right, sub-zero}
use native.Mathlib.Omega.{arith}
use lib.ListN.{length, take, drop, drop_of_length-le, length-drop}
use lib.Seq.{drop-drop, sets, take-length}
use Rattle.std.specs.Prelude.{min}
use Rattle.std.proofs.lemmas.List.{take_min}
use Rattle.rules.proofs.Parts.{sets-cut}
use Rattle.rules.specs.Words.{digits}
use Rattle.rules.specs.Check.{updated}
use Rattle.sums.specs.Fed.{updated_range}
use Rattle.stage.specs.View.{Reads, part}
use Rattle.rules.proofs.Sets.{drop-take}

-- all of the bytes from k on
pub rest_all : (k : ℕ) (l : List ℕ) → take (length l - k) (drop k l) ≡ drop k l
rest_all k l = rw (← (length-drop k l)) (take-length (drop k l))

-- as many of the bytes vs are laid over l from k on as both go
pub sets-both : {m : ℕ} (l : List ℕ) (k : ℕ) (vs : List ℕ) → m ≡ min (length l - k) (length vs) → sets l k (take m vs) ≡ sets l k vs
sets-both {m} l k vs h = rw (h, take_min) (sets-cut (length l - k) l k vs (omega arith))

-- ---- the shorter of the two lists decides

updated-nil : (c n : ℕ) (us : List ℕ) → updated_range c n us [] ≡ c
unfolding updated_range
updated-nil c n [] = refl
updated-nil c n (u ∷ us) = refl

updated-both : (m c n : ℕ) (us vs : List ℕ) → min (length us) (length vs) ≤ m → updated_range c n (take m us) (take m vs) ≡ updated_range c n us vs
unfolding updated_range
updated-both zero c n [] vs h = refl
updated-both zero c n (u ∷ us) [] h = refl
updated-both zero c n (u ∷ us) (v ∷ vs) h = absurd (omega arith)
updated-both (suc m) c n [] vs h = refl
updated-both (suc m) c n (u ∷ us) [] h = refl
updated-both (suc m) c n (u ∷ us) (v ∷ vs) h = updated-both m (updated c n u v) (n - 1) us vs (omega arith)

updated-new : (c n : ℕ) (us vs : List ℕ) → updated_range c n (take (length vs) us) vs ≡ updated_range c n us vs
updated-new c n us vs =
    ap (updated_range c n (take (length vs) us)) (sym (take-length vs)) ∙ updated-both (length vs) c n us vs (min-le_right (length us) (length vs))

-- as many of the bytes from k on become the first of vs as both go
pub check-both : {r m : ℕ} (c n k : ℕ) (us vs : List ℕ) → m ≡ min (length us - k) (length vs) → r ≡ updated_range c n (take (k + m - k) (drop k us)) (take m vs)
    → r ≡ updated_range c n (drop k us) vs
check-both {m = m} c n k us vs h e =
    e ∙ rw (add-sub_cancel_left k m) (updated-both m c n (drop k us) vs (rw (length-drop k us) (omega arith)))

-- the first k bytes, then the others
updated-split : (k c n : ℕ) (us vs : List ℕ) → updated_range c n us vs ≡ updated_range (updated_range c n (take k us) vs) (n - k) (drop k us) (drop k vs)
unfolding updated_range
updated-split zero c n us vs = rw (sub-zero n)
updated-split (suc k) c n [] vs = refl
updated-split (suc k) c n (u ∷ us) [] = sym (updated-nil c (n - suc k) (drop k us))
updated-split (suc k) c n (u ∷ us) (v ∷ vs) =
    let e : n - 1 - k ≡ n - suc k = omega arith in
    updated-split k (updated c n u v) (n - 1) us vs ∙ rw e

-- ---- the loop over the words of the range: the bytes from i on to go

pub record Checking (chk left : ℕ) (v : List ℕ) (at : ℕ) (xs : List ℕ) (sum i : ℕ) : Type 0 where
  pub rest : updated_range sum (left - i) (drop (at + i) v) (drop i xs) ≡ updated_range chk left (drop at v) xs

pub checking-start : (chk left : ℕ) (v : List ℕ) (at : ℕ) (xs : List ℕ) → Checking chk left v at xs chk 0
checking-start chk left v at xs = record { rest = rw (sub-zero left, add-zero at) }

pub checking-step : {chk left : ℕ} {v : List ℕ} {at : ℕ} {xs : List ℕ} {sum i w sum' : ℕ} → Checking chk left v at xs sum i → Reads v ((at + i) / 8 * 8) w
    → sum' ≡ updated_range sum (left - i) (drop ((at + i) % 8) (digits 8 w)) (take (length xs - i) (drop i xs)) → Checking chk left v at xs sum' (i + (8 - (at + i) % 8))
unfolding part
checking-step {chk} {left} {v} {at} {xs} {sum} {i} {w} {sum'} f r q =
    let s : ℕ = (at + i) % 8 in
    let k : ℕ = 8 - s in
    let e : 8 ≡ s + k = omega arith in
    let p : (at + i) / 8 * 8 + s ≡ at + i = omega arith in
    let d : drop s (digits 8 w) ≡ take k (drop (at + i) v) =
    ap (drop s) (r.bytes ∙ ap (λ (n : ℕ). take n (drop ((at + i) / 8 * 8) v)) e) ∙ drop-take s k (drop ((at + i) / 8 * 8) v)
    ∙ ap (take k) (drop-drop s ((at + i) / 8 * 8) v ∙ ap (λ (n : ℕ). drop n v) p) in
    let a : left - (i + k) ≡ left - i - k = omega arith in
    let b : at + (i + k) ≡ at + i + k = omega arith in
    record {
      rest = rw (a, b, q, rest_all i xs, d, ← (drop-drop k (at + i) v), ← (drop-drop k i xs))
          (sym (updated-split k sum (left - i) (drop (at + i) v) (drop i xs)) ∙ f.rest);
    }

pub checking-end : {chk left : ℕ} {v : List ℕ} {at : ℕ} {xs : List ℕ} {sum i : ℕ} → Checking chk left v at xs sum i → length xs ≤ i
    → sum ≡ updated_range chk left (part (length xs) at v) xs
unfolding part
checking-end {chk} {left} {v} {at} {xs} {sum} {i} f h =
    sym (updated-nil sum (left - i) (drop (at + i) v)) ∙ ap (updated_range sum (left - i) (drop (at + i) v)) (sym (drop_of_length-le xs h)) ∙ f.rest
    ∙ sym (updated-new chk left (drop at v) xs)
