-- The list of the arrangements ascends: so do the extents that may come next, and each is put before a list that ascends. Assumes nothing.
use Prim.Native.Nat.{ℕ, zero, suc, ◌-◌, ◌<◌}
use mathlib.Core.Path.{refl}
use mathlib.Core.Bool.{Bool, true, false}
use mathlib.Core.Logic.{inl, inr, ⊎_elim}
use mathlib.Core.List.Memᴰ
use mathlib.Core.List.{List, [], ◌∷◌, ◌++◌, map, flat_map, Memᴰ}
use Rattle.arrangements.specs.Arrangements.{Ascends, Before, Earlier, Extent, arrangements_to, cells, free, is_free, lengths, next_extents, object}
use Rattle.arrangements.proofs.Members.{member-joined, member-lengths}

-- ---- two lists, one behind the other

ascends-append : {A : Type 0} (R : A → A → Type 0) (xs ys : List A) → Ascends R xs → Ascends R ys
    → ((a b : A) → Memᴰ a xs → Memᴰ b ys → R a b) → Ascends R (xs ++ ys)
ascends-append R [] ys s t h = t
ascends-append R (x ∷ xs) ys s t h = (
  λ b m. ⊎_elim (s.0 b) (h x b (Memᴰ.head refl)) (Memᴰ.append_cases xs m),
  ascends-append R xs ys s.1 t (λ a b m. h a b (Memᴰ.tail m)),
)

-- ---- The extents that may come next.

lengths-ascend : (kind : ℕ → Extent) → ((j k : ℕ) → j < k → Before (kind j) (kind k)) → (k n : ℕ) → Ascends Before (lengths kind k n)
unfolding lengths
lengths-ascend kind h k zero = tt
lengths-ascend kind h k (suc n) =
    (λ e m. let o = member-lengths kind (suc k) n m in rw o.3 (h k o.0 o.1), lengths-ascend kind h (suc k) n)

next-ascend : (after : Bool) (m : ℕ) → Ascends Before (next_extents after m)
unfolding next_extents
next-ascend true m = lengths-ascend object (λ j k l. l) 1 m
next-ascend false m =
    ascends-append Before (lengths free 1 m) (lengths object 1 m) (lengths-ascend free (λ j k l. l) 1 m) (lengths-ascend object (λ j k l. l) 1 m)
    (λ d e p q. rw ((member-lengths free 1 m p).3, (member-lengths object 1 m q).3) tt)

-- ---- The arrangements.

cons-ascend : (e : Extent) (xs : List (List Extent)) → Ascends Earlier xs → Ascends Earlier (map (◌∷◌ e) xs)
cons-ascend e [] s = tt
cons-ascend e (x ∷ xs) s =
    (λ b m. let o = Memᴰ.of_map (◌∷◌ e) xs m in rw (← o.2) (inr (refl, s.0 o.0 o.1)), cons-ascend e xs s.1)

-- Of two with different first extents, these decide; of two with the same, what is behind.
flat-ascend : (g : Extent → List (List Extent)) → ((e : Extent) → Ascends Earlier (g e)) → (es : List Extent) → Ascends Before es
    → Ascends Earlier (flat_map (λ e. map (◌∷◌ e) (g e)) es)
unfolding flat_map
flat-ascend g h [] s = tt
flat-ascend g h (e ∷ es) s =
    ascends-append Earlier (map (◌∷◌ e) (g e)) (flat_map (λ d. map (◌∷◌ d) (g d)) es) (cons-ascend e (g e) (h e)) (flat-ascend g h es s.1)
    (λ a b m n.
    let o = member-joined (λ d. map (◌∷◌ d) (g d)) es n in
    rw (← (Memᴰ.of_map (◌∷◌ e) (g e) m).2, ← (Memᴰ.of_map (◌∷◌ o.0) (g o.0) o.2).2) (inl (s.0 o.0 o.1)))

pub arrangements-ascend : (f : ℕ) (after : Bool) (m : ℕ) → Ascends Earlier (arrangements_to f after m)
unfolding arrangements_to
arrangements-ascend zero after m = tt
arrangements-ascend (suc f) after zero = (λ b m. absurd (Memᴰ.not-nil m), tt)
arrangements-ascend (suc f) after (suc m) =
    flat-ascend (λ e. arrangements_to f (is_free e) (suc m - cells e)) (λ e. arrangements-ascend f (is_free e) (suc m - cells e))
    (next_extents after (suc m)) (next-ascend after (suc m))
