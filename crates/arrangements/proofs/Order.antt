-- The order of the arrangements, and that it fixes their list: two ascending lists of the same members are one list. Assumes nothing.
use Prim.Native.Nat.{ℕ}
use mathlib.Core.Path.{◌≡◌, refl, sym, ap₂}
use mathlib.Core.Logic.{inl, inr, ⊎_elim}
use mathlib.Core.List.Memᴰ
use mathlib.Core.List.{List, [], ◌∷◌, Memᴰ}
use native.Mathlib.Omega.{arith}
use Rattle.arrangements.specs.Arrangements.{Ascends, Before, Earlier, Extent, Lists, free, object}

-- ---- None is earlier than one that is earlier than it, so none than itself.

before-asymmetric : (x y : Extent) → Before x y → Before y x → ⊥
before-asymmetric (free j) (free k) p q = omega arith
before-asymmetric (free j) (object k) p q = q
before-asymmetric (object j) (free k) p q = p
before-asymmetric (object j) (object k) p q = omega arith

pub earlier-asymmetric : (a b : List Extent) → Earlier a b → Earlier b a → ⊥
earlier-asymmetric [] b p q = p
earlier-asymmetric (x ∷ a) [] p q = p
earlier-asymmetric (x ∷ a) (y ∷ b) (inl p) (inl q) = before-asymmetric x y p q
earlier-asymmetric (x ∷ a) (y ∷ b) (inl p) (inr q) = let h : Before x x = rw q.0 at p in before-asymmetric x x h h
earlier-asymmetric (x ∷ a) (y ∷ b) (inr p) (inl q) = let h : Before y y = rw p.0 at q in before-asymmetric y y h h
earlier-asymmetric (x ∷ a) (y ∷ b) (inr p) (inr q) = earlier-asymmetric a b p.1 q.1

-- ---- Two ascending lists of the same members are one list.

-- Each first is in the other list, so that neither is earlier than the other.
first-unique : (x y : List Extent) (xs ys : List (List Extent)) → Ascends Earlier (x ∷ xs) → Ascends Earlier (y ∷ ys) → Memᴰ x (y ∷ ys)
    → Memᴰ y (x ∷ xs) → x ≡ y
first-unique x y xs ys h k p q =
    ⊎_elim (λ e. e) (λ m. ⊎_elim sym (λ n. absurd (earlier-asymmetric x y (h.0 y n) (k.0 x m))) (Memᴰ.cases_cons q)) (Memᴰ.cases_cons p)

-- What is behind the first of one list is behind the first of the other: it is not the first itself.
behind-first : (x y a : List Extent) (xs ys : List (List Extent)) → Ascends Earlier (x ∷ xs) → x ≡ y → Memᴰ a xs
    → Memᴰ a (y ∷ ys) → Memᴰ a ys
behind-first x y a xs ys h e m p =
    ⊎_elim (λ (q : a ≡ y). let l : Earlier y y = rw (q, e) at (h.0 a m) in absurd (earlier-asymmetric y y l l)) (λ n. n) (Memᴰ.cases_cons p)

pub ascends-unique : (xs ys : List (List Extent)) → Ascends Earlier xs → Ascends Earlier ys
    → ((a : List Extent) → Memᴰ a xs → Memᴰ a ys) → ((a : List Extent) → Memᴰ a ys → Memᴰ a xs) → xs ≡ ys
ascends-unique [] [] h k f g = refl
ascends-unique [] (y ∷ ys) h k f g = absurd (Memᴰ.not-nil (g y (Memᴰ.head refl)))
ascends-unique (x ∷ xs) [] h k f g = absurd (Memᴰ.not-nil (f x (Memᴰ.head refl)))
ascends-unique (x ∷ xs) (y ∷ ys) h k f g =
    let e = first-unique x y xs ys h k (f x (Memᴰ.head refl)) (g y (Memᴰ.head refl)) in
    ap₂ ◌∷◌ e
    (ascends-unique xs ys h.1 k.1 (λ a m. behind-first x y a xs ys h e m (f a (Memᴰ.tail m)))
    (λ a m. behind-first y x a ys xs k (sym e) m (g a (Memᴰ.tail m))))

-- ---- The list of the arrangements of n cells.

-- An arrangement of the one list has bytes, and the other list has the arrangement of all such bytes.
within : (n : ℕ) (xs ys : List (List Extent)) → Lists n xs → Lists n ys → (a : List Extent) → Memᴰ a xs → Memᴰ a ys
within n xs ys h k a m = let z = h.only a m in Memᴰ.cast (sym z.arranged) (k.every z.bytes z.size z.whole)

-- Only one list is what `Lists` asks for.
pub lists-unique : (n : ℕ) (xs ys : List (List Extent)) → Lists n xs → Lists n ys → xs ≡ ys
lists-unique n xs ys h k = ascends-unique xs ys h.order k.order (within n xs ys h k) (within n ys xs k h)
