-- Laws of `differences`, the number of places at which two lists differ: over parts, over stores into one of them, and what none means.
-- Assumes nothing.
use Prim.Native.Nat.{ℕ, ◌+◌, ◌≤◌, ◌<◌}
use mathlib.Core.Path.{◌≡◌, refl, sym, ap, ap₂, ◌∙◌}
use mathlib.Core.Bool.{cond}
use mathlib.Core.List.{List, [], ◌∷◌, ◌++◌}
use native.Mathlib.Nat.{zero-add}
use native.Mathlib.Omega.{arith}
use borrow.Author.Tests.{eq-eqb, eqb-true}
use lib.Dec.{eqb}
use lib.ListN.{length, take, drop, get_or, length-append, take-append-drop}
use lib.Seq.{sets, sets-eq, drop-cons, length-take-le, take-add}
use Rattle.rules.specs.Repair.{differences}
use Rattle.rules.proofs.Bool.{split}
use Rattle.rules.proofs.Parts.{part_length}

pub differences-same : (xs : List ℕ) → differences xs xs ≡ 0
unfolding differences
differences-same [] = refl
differences-same (x ∷ xs) = rw (eq-eqb x x refl, differences-same xs)

-- none differs: the lists are the same
pub differences-none : (xs ys : List ℕ) → length xs ≡ length ys → differences xs ys ≡ 0 → xs ≡ ys
unfolding differences
differences-none [] [] l e = refl
differences-none [] (y ∷ ys) l e = absurd (omega arith)
differences-none (x ∷ xs) [] l e = absurd (omega arith)
differences-none (x ∷ xs) (y ∷ ys) l e =
    split (eqb x y) (λ t. ap₂ ◌∷◌ (eqb-true x y t) (differences-none xs ys (omega arith) (let k : 0 + differences xs ys ≡ 0 = rw t at e in omega arith)))
    (λ f. absurd (let k : 1 + differences xs ys ≡ 0 = rw f at e in omega arith))

pub differences-most : (xs ys : List ℕ) → differences xs ys ≤ length xs
unfolding differences
differences-most [] ys = omega arith
differences-most (x ∷ xs) [] = omega arith
differences-most (x ∷ xs) (y ∷ ys) = let h = differences-most xs ys in split (eqb x y) (λ t. rw t (omega arith)) (λ f. rw f (omega arith))

pub differences-append : (us vs xs ys : List ℕ) → length us ≡ length vs → differences (us ++ xs) (vs ++ ys) ≡ differences us vs + differences xs ys
unfolding differences
differences-append [] [] xs ys l = sym (zero-add (differences xs ys))
differences-append [] (v ∷ vs) xs ys l = absurd (omega arith)
differences-append (u ∷ us) [] xs ys l = absurd (omega arith)
differences-append (u ∷ us) (v ∷ vs) xs ys l = let h = differences-append us vs xs ys (omega arith) in omega arith

-- the first i places and m more
pub differences-take : (xs ys : List ℕ) (i m : ℕ) → length xs ≡ length ys → i ≤ length xs
    → differences (take (i + m) xs) (take (i + m) ys) ≡ differences (take i xs) (take i ys) + differences (take m (drop i xs)) (take m (drop i ys))
differences-take xs ys i m e h =
    rw (take-add i m xs, take-add i m ys) (differences-append (take i xs) (take i ys) _ _ (length-take-le i xs h ∙ sym (length-take-le i ys (omega arith))))

-- one place
pub differences-place : (xs ys : List ℕ) (i : ℕ) → length xs ≡ length ys → i < length xs
    → differences (take 1 (drop i xs)) (take 1 (drop i ys)) ≡ cond (eqb (get_or xs i 0) (get_or ys i 0)) 0 1
unfolding differences
differences-place xs ys i e h = rw (drop-cons xs i 0 h, drop-cons ys i 0 (omega arith)) (omega arith)

-- the bytes from a on, n of them: before them, these, and behind them
module _ (p q : List ℕ) (a n : ℕ) (lp : a + n ≤ length p) (lq : length q ≡ length p) where
  parts : (l : List ℕ) → l ≡ (take a l ++ take n (drop a l)) ++ drop (a + n) l
  parts l = sym (ap (λ (x : List ℕ). x ++ drop (a + n) l) (sym (take-add a n l)) ∙ take-append-drop (a + n) l)

  fronts : length (take a p) ≡ length (take a q)
  fronts = length-take-le a p (omega arith) ∙ sym (length-take-le a q (omega arith))

  -- p beside q with other bytes there
  beside : (xs : List ℕ) → length xs ≡ n
      → differences p ((take a q ++ xs) ++ drop (a + n) q)
      ≡ differences (take a p) (take a q) + differences (take n (drop a p)) xs + differences (drop (a + n) p) (drop (a + n) q)
  beside xs e =
      let m : length (take n (drop a p)) ≡ length xs = part_length p a n lp ∙ sym e in
      ap (λ (x : List ℕ). differences x ((take a q ++ xs) ++ drop (a + n) q)) (parts p)
      ∙ differences-append (take a p ++ take n (drop a p)) (take a q ++ xs) (drop (a + n) p) (drop (a + n) q)
      (length-append (take a p) (take n (drop a p)) ∙ ap₂ ◌+◌ fronts m ∙ sym (length-append (take a q) xs))
      ∙ ap (λ (x : ℕ). x + differences (drop (a + n) p) (drop (a + n) q)) (differences-append (take a p) (take a q) (take n (drop a p)) xs fronts)

  -- WHERE p AND q AGREE ON n BYTES, storing n bytes there adds the places at which these differ
  pub differences-sets : take n (drop a p) ≡ take n (drop a q) → (xs : List ℕ) → length xs ≡ n
      → differences p (sets q a xs) ≡ differences p q + differences (take n (drop a p)) xs
  differences-sets s xs e =
      let k : sets q a xs ≡ (take a q ++ xs) ++ drop (a + n) q = sets-eq xs q a (omega arith) ∙ rw e in
      let u = ap (differences p) k ∙ beside xs e in
      let v = ap (differences p) (parts q) ∙ beside (take n (drop a q)) (part_length q a n (omega arith)) in
      let w : differences (take n (drop a p)) (take n (drop a q)) ≡ 0 = ap (differences (take n (drop a p))) (sym s) ∙ differences-same (take n (drop a p)) in
      omega arith

-- so a part of one list replaced
pub differences-stored : (p xs : List ℕ) (a : ℕ) → a + length xs ≤ length p → differences p (sets p a xs) ≡ differences (take (length xs) (drop a p)) xs
differences-stored p xs a h = let e = differences-sets p p a (length xs) h refl refl xs refl in let z = differences-same p in omega arith
