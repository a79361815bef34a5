-- What a list of stores leaves at each word: facts on all words of a pool, `Every`, and on all stores of a list, `All`.
use mathlib.Core.Path.{◌≡◌, refl, sym, ◌∙◌, subst}
use mathlib.Core.Logic.{◌⊎◌, inl, inr}
use mathlib.Core.List.{List, [], ◌∷◌, ◌++◌, Sublistᴰ}
use Prim.Native.Nat.{ℕ, ◌+◌, ◌%◌, ◌^◌, ◌≤◌, ◌<◌}
use native.Mathlib.Decide.{ℕ_discrete}
use lib.ListN.{length}
use Rattle.rules.specs.Words.{Bytes, put, word}
use Rattle.rules.specs.Staging.{Store, lay}
use Rattle.rules.proofs.Words.{bytes-put, length-put, word-put, word-put-other}

-- a fact on places and words
abbrev pub Fact : Type 1
Fact = ℕ → ℕ → Type 0

abbrev pub All : Fact → List Store → Type 0
All Q [] = Unit {0}
All Q (x ∷ xs) = Q x.at x.val × All Q xs

-- the fact holds of each word of a pool of n bytes
abbrev pub Every : ℕ → Fact → List ℕ → Type 0
Every n Q p = (a : ℕ) → a % 8 ≡ 0 → a + 8 ≤ n → Q a (word p a)

-- a store that can be made in a pool of n bytes
pub record Fit (n a w : ℕ) : Type 0 where
  pub even : a % 8 ≡ 0
  pub inside : a + 8 ≤ n
  pub small : w < 2 ^ 64

abbrev pub Covered : ℕ → List Store → Type 0
Covered a [] = ⊥
Covered a (x ∷ xs) = (a ≡ x.at) ⊎ Covered a xs

pub covered? : (a : ℕ) (l : List Store) → Covered a l ⊎ (Covered a l → ⊥)
covered? a [] = inr (λ c. c)
covered? a (x ∷ xs) = go (ℕ_discrete a x.at) (covered? a xs) where
  go : Dec (a ≡ x.at) → Covered a xs ⊎ (Covered a xs → ⊥) → Covered a (x ∷ xs) ⊎ (Covered a (x ∷ xs) → ⊥)
  go (yes e) c = inl (inl e)
  go (no e) (inl c) = inl (inr c)
  go (no e) (inr c) = inr (λ d. elim d [ inl i ↦ e i | inr j ↦ c j ])

-- ---- All

pub all_map : {Q Q' : Fact} → ((a w : ℕ) → Q a w → Q' a w) → (l : List Store) → All Q l → All Q' l
all_map f [] h = tt
all_map f (x ∷ xs) h = (f x.at x.val h.0, all_map f xs h.1)

pub all_both : (Q Q' : Fact) (l : List Store) → All Q l → All Q' l → All (λ a w. Q a w × Q' a w) l
all_both Q Q' [] h k = tt
all_both Q Q' (x ∷ xs) h k = ((h.0, k.0), all_both Q Q' xs h.1 k.1)

pub all_append : (Q : Fact) (l m : List Store) → All Q l → All Q m → All Q (l ++ m)
all_append Q [] m h k = k
all_append Q (x ∷ xs) m h k = (h.0, all_append Q xs m h.1 k)

pub all-sub : (Q : Fact) {kept l : List Store} → Sublistᴰ kept l → All Q l → All Q kept
all-sub Q Sublistᴰ.slnil h = tt
all-sub Q (Sublistᴰ.cons s) h = all-sub Q s h.1
all-sub Q (Sublistᴰ.cons-cons {a = x} e s) h = (subst (λ (y : Store). Q y.at y.val) (sym e) h.0, all-sub Q s h.1)

-- ---- stores

pub length-lay : (p : List ℕ) (l : List Store) → length (lay p l) ≡ length p
length-lay p [] = refl
length-lay p (x ∷ xs) = length-lay (put p x.at x.val) xs ∙ length-put p x.at x.val

else : {A : Type 0} → ⊥ ⊎ A → A
else (inl c) = absurd c
else (inr k) = k

-- each word is covered by a store, or has the fact before; each store has it: then each word has it after
pub lay-fact : {n : ℕ} (Q : Fact) (p : List ℕ) (l : List Store) → length p ≡ n
    → ((a : ℕ) → a % 8 ≡ 0 → a + 8 ≤ n → Covered a l ⊎ Q a (word p a))
    → All (Fit n) l → All Q l → Every n Q (lay p l)
lay-fact Q p [] e h f q = λ a ha hn. else (h a ha hn)
lay-fact {n} Q p (x ∷ xs) e h f q =
    lay-fact Q (put p x.at x.val) xs (length-put p x.at x.val ∙ e) after f.1 q.1
  where
    after : (a : ℕ) → a % 8 ≡ 0 → a + 8 ≤ n → Covered a xs ⊎ Q a (word (put p x.at x.val) a)
    after a ha hn = go (ℕ_discrete a x.at) (h a ha hn) where
      go : Dec (a ≡ x.at) → Covered a (x ∷ xs) ⊎ Q a (word p a) → Covered a xs ⊎ Q a (word (put p x.at x.val) a)
      go (yes i) c = inr (rw (i, word-put p x.at x.val (rw e f.0.inside) f.0.small) q.0)
      go (no i) (inl (inl j)) = absurd (i j)
      go (no i) (inl (inr j)) = inl j
      go (no i) (inr k) = inr (rw (word-put-other p x.at x.val a f.0.even ha i) k)

pub lay-every : {n : ℕ} (Q : Fact) (p : List ℕ) (l : List Store) → length p ≡ n → Every n Q p → All (Fit n) l → All Q l → Every n Q (lay p l)
lay-every Q p l e h f q = lay-fact Q p l e (λ a ha hn. inr (h a ha hn)) f q

-- ---- stores at distinct places

abbrev pub Distinct : List Store → Type 0
Distinct [] = Unit {0}
Distinct (x ∷ xs) = (Covered x.at xs → ⊥) × Distinct xs

-- w is what the list has for place a, if it has any
abbrev pub Right : List Store → Fact
Right l a w = All (λ b v. b ≡ a → w ≡ v) l

pub uncovered-right : (l : List Store) (a w : ℕ) → (Covered a l → ⊥) → Right l a w
uncovered-right [] a w h = tt
uncovered-right (x ∷ xs) a w h = ((λ e. absurd (h (inl (sym e)))), uncovered-right xs a w (λ c. h (inr c)))

pub distinct-right : (l : List Store) → Distinct l → All (Right l) l
distinct-right [] d = tt
distinct-right (x ∷ xs) d = ((λ e. refl, uncovered-right xs x.at x.val d.0), rest xs d.0 (distinct-right xs d.1)) where
  rest : (m : List Store) → (Covered x.at m → ⊥) → All (Right xs) m → All (Right (x ∷ xs)) m
  rest [] c h = tt
  rest (y ∷ m) c h = (((λ e. absurd (c (inl e))), h.0), rest m (λ k. c (inr k)) h.1)

pub lay-right : {n : ℕ} (p : List ℕ) (l : List Store) → length p ≡ n → All (Fit n) l → Distinct l → Every n (Right l) (lay p l)
lay-right p l e f d = lay-fact (Right l) p l e (λ a ha hn. or a (covered? a l)) f (distinct-right l d) where
  or : (a : ℕ) → Covered a l ⊎ (Covered a l → ⊥) → Covered a l ⊎ Right l a (word p a)
  or a (inl c) = inl c
  or a (inr c) = inr (uncovered-right l a (word p a) c)

pub bytes-lay : (p : List ℕ) (l : List Store) → Bytes p → Bytes (lay p l)
bytes-lay p [] h = h
bytes-lay p (x ∷ xs) h = bytes-lay (put p x.at x.val) xs (bytes-put p x.at x.val h)

-- what holds of each word by its place holds of the list
pub right-all : {n : ℕ} (p : List ℕ) (l : List Store) → Every n (Right l) p → All (Fit n) l → All (λ a w. word p a ≡ w) l
right-all {n} p l h f = go l (λ a ha hn. h a ha hn) f where
  go : (m : List Store) → Every n (Right m) p → All (Fit n) m → All (λ a w. word p a ≡ w) m
  go [] h f = tt
  go (x ∷ xs) h f = ((h x.at f.0.even f.0.inside).0 refl, go xs (λ a ha hn. (h a ha hn).1) f.1)

pub all-covered : (l : List Store) → All (λ a w. Covered a l) l
all-covered [] = tt
all-covered (x ∷ xs) = (inl refl, all_map {Q = λ a w. Covered a xs} {Q' = λ a w. Covered a (x ∷ xs)} (λ a w c. inr c) xs (all-covered xs))

pub covered-fact : (P : ℕ → Type 0) (a : ℕ) (l : List Store) → Covered a l → All (λ b w. P b) l → P a
covered-fact P a [] x h = elim x [ ]
covered-fact P a (x ∷ xs) (inl e) h = subst P (sym e) h.0
covered-fact P a (x ∷ xs) (inr c) h = covered-fact P a xs c h.1
