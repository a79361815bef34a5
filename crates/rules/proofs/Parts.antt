-- Laws of parts and stores: what a part of a store holds. Assumes nothing.
use Prim.Native.Nat.{ℕ, zero, suc, ◌+◌, ◌≤◌, ◌<◌}
use mathlib.Core.Path.{◌≡◌, refl, sym, ap, ◌∙◌}
use mathlib.Core.List.{List, [], ◌∷◌, ◌++◌, append_assoc}
use native.Mathlib.Nat.{add-zero}
use native.Mathlib.Omega.{arith}
use lib.ListN.{length, take, drop, get_or, set, length-drop, length-set, length-take, take-append-drop}
use lib.Seq.{sets, sets-eq, ext_get_or, get_or-drop, get_or-take, length-take-le, take_all, take-append-le, drop-append-le, drop_at, drop-drop, set_out, take-add}
use Rattle.rules.proofs.Sets.{sets-append}

pub part_length : (l : List ℕ) (a n : ℕ) → a + n ≤ length l → length (take n (drop a l)) ≡ n
part_length l a n h = length-take-le n (drop a l) (rw (length-drop a l) (omega arith))

-- parts with the same bytes
pub part_ext : (p q : List ℕ) (a n : ℕ) → length p ≡ length q → ((i : ℕ) → i < n → get_or p (a + i) 0 ≡ get_or q (a + i) 0) → take n (drop a p) ≡ take n (drop a q)
part_ext p q a n e s =
    ext_get_or 0 (take n (drop a p)) (take n (drop a q)) (simp (length-take, length-drop, e))
    (λ i h. let j : i < n = omega (arith, length-take n (drop a p)) in byte p i j ∙ s i j ∙ sym (byte q i j))
  where
    byte : (u : List ℕ) (i : ℕ) → i < n → get_or (take n (drop a u)) i 0 ≡ get_or u (a + i) 0
    byte u i j = get_or-take n (drop a u) i 0 j ∙ get_or-drop a u i 0

-- a part, longer by as much
pub take_more : (p : List ℕ) (a k m : ℕ) → take (k + m) (drop a p) ≡ take k (drop a p) ++ take m (drop (a + k) p)
take_more p a k m = take-add k m (drop a p) ∙ ap (λ (l : List ℕ). take k (drop a p) ++ take m l) (drop-drop k a p)

-- the bytes vs stored from a on, between those before and those behind
stored : (l : List ℕ) (a : ℕ) (vs : List ℕ) → a + length vs ≤ length l → sets l a vs ≡ take a l ++ (vs ++ drop (a + length vs) l)
stored l a vs h = sets-eq vs l a h ∙ append_assoc (take a l) vs (drop (a + length vs) l)

-- a part of what was stored
pub part-stored : (l : List ℕ) (a : ℕ) (vs : List ℕ) (o n : ℕ) → a + length vs ≤ length l → o + n ≤ length vs
    → take n (drop (a + o) (sets l a vs)) ≡ take n (drop o vs)
part-stored l a vs o n h k =
    ap (λ (x : List ℕ). take n (drop (a + o) x)) (stored l a vs h)
    ∙ ap (take n) (sym (drop-drop o a (take a l ++ (vs ++ drop (a + length vs) l))) ∙ ap (drop o) (drop_at (take a l) (vs ++ drop (a + length vs) l) a (length-take-le a l (omega arith)))
    ∙ drop-append-le o vs (drop (a + length vs) l) (omega arith))
    ∙ take-append-le n (drop o vs) (drop (a + length vs) l) (rw (length-drop o vs) (omega arith))

-- a part stored where it lies changes nothing
pub sets-own : (l : List ℕ) (a n : ℕ) → a + n ≤ length l → sets l a (take n (drop a l)) ≡ l
sets-own l a n h =
    let e = part_length l a n h in
    stored l a (take n (drop a l)) (omega arith)
    ∙ ap (λ (k : ℕ). take a l ++ (take n (drop a l) ++ drop (a + k) l)) e
    ∙ ap (λ (x : List ℕ). take a l ++ (take n (drop a l) ++ x)) (sym (drop-drop n a l))
    ∙ ap (λ (x : List ℕ). take a l ++ x) (take-append-drop n (drop a l)) ∙ take-append-drop a l

-- all of what was stored
pub part-all : (l : List ℕ) (a : ℕ) (vs : List ℕ) (n : ℕ) → length vs ≡ n → a + n ≤ length l → take n (drop a (sets l a vs)) ≡ vs
part-all l a vs n e h =
    ap (λ (k : ℕ). take n (drop k (sets l a vs))) (sym (add-zero a)) ∙ part-stored l a vs 0 n (omega arith) (omega arith) ∙ take_all n vs (omega arith)

-- ---- stores past the end of a list are none

sets-out : (l : List ℕ) (i : ℕ) (vs : List ℕ) → length l ≤ i → sets l i vs ≡ l
sets-out l i [] h = refl
sets-out l i (v ∷ vs) h = rw (set_out l i v h) (sets-out l (suc i) vs (omega arith))

pub sets-cut : (k : ℕ) (l : List ℕ) (i : ℕ) (vs : List ℕ) → length l ≤ i + k → sets l i (take k vs) ≡ sets l i vs
sets-cut zero l i vs h = sym (sets-out l i vs (omega arith))
sets-cut (suc k) l i [] h = refl
sets-cut (suc k) l i (v ∷ vs) h = sets-cut k (set l i v) (suc i) vs (rw (length-set l i v) (omega arith))

-- a store in two parts
pub sets-from : (l : List ℕ) (a i : ℕ) (xs : List ℕ) → i ≤ length xs → sets l a xs ≡ sets (sets l a (take i xs)) (a + i) (drop i xs)
sets-from l a i xs h =
    ap (sets l a) (sym (take-append-drop i xs)) ∙ sets-append l a (take i xs) (drop i xs)
    ∙ ap (λ (k : ℕ). sets (sets l a (take i xs)) (a + k) (drop i xs)) (length-take-le i xs h)
