-- Laws of `sets` (stores in a row) that `lib.Seq` lacks.
use Prim.Native.Nat.{ℕ, zero, suc, ◌+◌, ◌≤◌, ◌<◌}
use mathlib.Core.Path.{◌≡◌, refl, sym, ap, ◌∙◌}
use mathlib.Core.List.{List, [], ◌∷◌, ◌++◌, append-nil}
use native.Mathlib.Nat.{add-zero, add-suc, suc-add, zero-add}
use native.Mathlib.Omega.{arith}
use lib.ListN.{length, take, drop, set, length-append, length-drop, length-set, take-append-drop}
use lib.Seq.{sets, sets-eq, length-sets, length-take-le, take-set-le, drop-set-lt, take-take, set_comm, set-set, set-append_left, take_at, take-nil, drop_at}

-- ---- `sets l i vs`: the stores of vs from index i on

module _ {ℓ} {A : Type ℓ} where
  pub sets-cons : (x : A) (l : List A) (i : ℕ) (vs : List A) → sets (x ∷ l) (suc i) vs ≡ x ∷ sets l i vs
  sets-cons x l i [] = refl
  sets-cons x l i (v ∷ vs) = sets-cons x (set l i v) (suc i) vs

  -- stores past a front change what follows it
  pub sets-right : (s t : List A) (i : ℕ) (vs : List A) → sets (s ++ t) (length s + i) vs ≡ s ++ sets t i vs
  sets-right [] t i vs = rw (zero-add i)
  sets-right (x ∷ s) t i vs = rw (suc-add (length s) i, sets-cons x (s ++ t) (length s + i) vs, sets-right s t i vs)

  -- stores inside a front leave what follows it
  pub sets-left : (s t : List A) (i : ℕ) (vs : List A) → i + length vs ≤ length s → sets (s ++ t) i vs ≡ sets s i vs ++ t
  sets-left s t i [] h = refl
  sets-left s t i (v ∷ vs) h =
      rw (set-append_left s t i v (omega arith)) (sets-left (set s i v) t (suc i) vs (rw (length-set s i v) (omega arith)))

  -- stores in the middle of three parts
  pub sets-mid : (a s t : List A) (n i : ℕ) (vs : List A) → length a ≡ n → i + length vs ≤ length s
      → sets (a ++ (s ++ t)) (n + i) vs ≡ a ++ (sets s i vs ++ t)
  sets-mid a s t n i vs e h = rw (← e, sets-right a (s ++ t) i vs, sets-left s t i vs h)

  -- one more store, before or after stores that do not meet it
  set-sets : (l : List A) (i j : ℕ) (a : A) (vs : List A) → i < j → sets (set l i a) j vs ≡ set (sets l j vs) i a
  set-sets l i j a [] h = refl
  set-sets l i j a (v ∷ vs) h =
      rw (set_comm l i j a v (omega arith)) (set-sets (set l j v) i (suc j) a vs (omega arith))

  set-sets' : (l : List A) (i j : ℕ) (a : A) (vs : List A) → j + length vs ≤ i → sets (set l i a) j vs ≡ set (sets l j vs) i a
  set-sets' l i j a [] h = refl
  set-sets' l i j a (v ∷ vs) h =
      rw (set_comm l i j a v (omega arith)) (set-sets' (set l j v) i (suc j) a vs (omega arith))

  -- two groups of stores that do not meet change places
  pub sets-comm : (l : List A) (i j : ℕ) (us vs : List A) → i + length us ≤ j → sets (sets l i us) j vs ≡ sets (sets l j vs) i us
  sets-comm l i j [] vs h = refl
  sets-comm l i j (u ∷ us) vs h =
      sets-comm (set l i u) (suc i) j us vs (omega arith) ∙ ap (λ (m : List A). sets m (suc i) us) (set-sets l i j u vs (omega arith))

  -- the later of two groups of stores at one place counts
  pub sets-sets : (l : List A) (i : ℕ) (us vs : List A) → length us ≡ length vs → sets (sets l i us) i vs ≡ sets l i vs
  sets-sets l i [] [] h = refl
  sets-sets l i [] (v ∷ vs) h = absurd (omega arith)
  sets-sets l i (u ∷ us) [] h = absurd (omega arith)
  sets-sets l i (u ∷ us) (v ∷ vs) h =
      ap (λ (m : List A). sets m (suc i) vs) (sym (set-sets (set l i u) i (suc i) v us (omega arith)) ∙ ap (λ (m : List A). sets m (suc i) us) (set-set l i u v))
      ∙ sets-sets (set l i v) (suc i) us vs (omega arith)

  -- all of a front replaced by as much
  pub sets-front : (s t vs : List A) → length s ≡ length vs → sets (s ++ t) 0 vs ≡ vs ++ t
  sets-front s t vs e =
      sets-eq vs (s ++ t) 0 (rw (zero-add (length vs), length-append s t) (omega arith))
      ∙ rw (zero-add (length vs)) (rw (drop_at s t (length vs) e))

  -- stores one after the other
  -- all of l replaced by as much
  pub sets-all : (l vs : List A) → length l ≡ length vs → sets l 0 vs ≡ vs
  sets-all l vs e = ap (λ (x : List A). sets x 0 vs) (sym (append-nil l)) ∙ sets-front l [] vs e ∙ append-nil vs

  pub sets-append : (l : List A) (i : ℕ) (us vs : List A) → sets l i (us ++ vs) ≡ sets (sets l i us) (i + length us) vs
  sets-append l i [] vs = rw (add-zero i)
  sets-append l i (u ∷ us) vs = sets-append (set l i u) (suc i) us vs ∙ rw (add-suc i (length us), suc-add i (length us))

  pub take-sets : (n : ℕ) (l : List A) (i : ℕ) (vs : List A) → n ≤ i → take n (sets l i vs) ≡ take n l
  take-sets n l i [] h = refl
  take-sets n l i (v ∷ vs) h = take-sets n (set l i v) (suc i) vs (omega arith) ∙ take-set-le n l i v h

  pub drop-sets : (n : ℕ) (l : List A) (i : ℕ) (vs : List A) → i + length vs ≤ n → drop n (sets l i vs) ≡ drop n l
  drop-sets n l i [] h = refl
  drop-sets n l i (v ∷ vs) h = drop-sets n (set l i v) (suc i) vs (omega arith) ∙ drop-set-lt n l i v (omega arith)

  -- a part of a front is a part of the whole
  pub part-take : (a m n : ℕ) (l : List A) → a + m ≤ n → take m (drop a (take n l)) ≡ take m (drop a l)
  part-take zero m n l h = take-take m n l (omega arith)
  part-take (suc a) m zero l h = absurd (omega arith)
  part-take (suc a) m (suc n) [] h = refl
  part-take (suc a) m (suc n) (x ∷ l) h = part-take a m n l (omega arith)

  pub drop-take : (k m : ℕ) (l : List A) → drop k (take (k + m) l) ≡ take m (drop k l)
  drop-take zero m l = rw (zero-add m)
  drop-take (suc k) m [] = rw (suc-add k m) (sym (take-nil m))
  drop-take (suc k) m (x ∷ l) = rw (suc-add k m) (drop-take k m l)

  -- stores inside a part, and outside of it
  pub part-sets-in : (l : List A) (b n o : ℕ) (ys : List A) → b + n ≤ length l → o + length ys ≤ n
      → take n (drop b (sets l (b + o) ys)) ≡ sets (take n (drop b l)) o ys
  part-sets-in l b n o ys h k =
      let p : List A = take n (drop b l) in
      let q : List A = drop n (drop b l) in
      let lp : length p ≡ n = length-take-le n (drop b l) (rw (length-drop b l) (omega arith)) in
      let lb : length (take b l) ≡ b = length-take-le b l (omega arith) in
      let e : l ≡ take b l ++ (p ++ q) = sym (take-append-drop b l) ∙ ap (λ (x : List A). take b l ++ x) (sym (take-append-drop n (drop b l))) in
      let e2 : sets l (b + o) ys ≡ take b l ++ (sets p o ys ++ q) =
      ap (λ (x : List A). sets x (b + o) ys) e ∙ sets-mid (take b l) p q b o ys lb (omega arith) in
      ap (λ (x : List A). take n (drop b x)) e2
      ∙ ap (λ (x : List A). take n x) (drop_at (take b l) (sets p o ys ++ q) b lb)
      ∙ take_at (sets p o ys) q n (length-sets p o ys ∙ lp)

  pub part-sets-before : (l : List A) (b n i : ℕ) (ys : List A) → i + length ys ≤ b → take n (drop b (sets l i ys)) ≡ take n (drop b l)
  part-sets-before l b n i ys h = ap (λ (x : List A). take n x) (drop-sets b l i ys h)

  pub part-sets-behind : (l : List A) (b n i : ℕ) (ys : List A) → b + n ≤ i → take n (drop b (sets l i ys)) ≡ take n (drop b l)
  part-sets-behind l b n i ys h =
      sym (part-take b n (b + n) (sets l i ys) (omega arith))
      ∙ ap (λ (x : List A). take n (drop b x)) (take-sets (b + n) l i ys h)
      ∙ part-take b n (b + n) l (omega arith)
