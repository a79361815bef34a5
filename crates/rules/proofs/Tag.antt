-- The objects of a book with a tag: under the changes of a book, and the first one at or above an address. Assumes nothing.
use Prim.Native.Nat.{ℕ, suc, ◌≤◌}
use mathlib.Core.Path.{◌≡◌, refl, sym, ap, ◌∙◌, subst}
use mathlib.Core.Logic.{◌≢◌}
use mathlib.Core.Bool.{Bool, true, false}
use mathlib.Core.Option.{Option, none, some, or_else}
use mathlib.Core.List.{List, [], ◌∷◌, ◌++◌}
use native.Mathlib.Omega.{arith}
use lib.Dec.{eqb, leb, ltb}
use lib.Seq.{sets}
use borrow.Author.Tests.{eq-eqb, eqb-true, le-leb, leb-true, ne_eqb}
use Rattle.rules.specs.Book.{Listed, enter, find, overwrite, strike}
use Rattle.rules.specs.Answer.{Answer, address, done, is_refused, passed, refused, started, stored, taken}
use Rattle.rules.specs.Plan.{Call, allocate, release, write}
use Rattle.rules.specs.NewBook.{new_book, new_books, on_address, on_taken}
use Rattle.rules.specs.Tag.{Spares, SparesCall, first_from, first_tagged, with_tag}
use Rattle.rules.proofs.Bool.{split}
use Rattle.rules.proofs.Ascending.{Ascends}

-- ---- books put together

pub tag-append : (t : ℕ) (xs ys : List Listed) → with_tag t (xs ++ ys) ≡ with_tag t xs ++ with_tag t ys
unfolding with_tag
tag-append t [] ys = refl
tag-append t (x ∷ xs) ys = split (eqb x.tag t) (λ e. rw e (ap (λ (l : List Listed). x ∷ l) (tag-append t xs ys))) (λ e. rw e (tag-append t xs ys))

from-append : (f : ℕ) (xs ys : List Listed) → first_from f (xs ++ ys) ≡ or_else (first_from f xs) (first_from f ys)
unfolding first_from or_else
from-append f [] ys = refl
from-append f (x ∷ xs) ys = split (leb f x.addr) (λ e. rw e) (λ e. rw e (from-append f xs ys))

pub first-append : (t f : ℕ) (xs ys : List Listed) → first_tagged t f (xs ++ ys) ≡ or_else (first_tagged t f xs) (first_tagged t f ys)
unfolding first_tagged
first-append t f xs ys = ap (first_from f) (tag-append t xs ys) ∙ from-append f (with_tag t xs) (with_tag t ys)

-- ---- one object of a book

tag-here : (t : ℕ) (x : Listed) (xs : List Listed) → x.tag ≡ t → with_tag t (x ∷ xs) ≡ x ∷ with_tag t xs
unfolding with_tag
tag-here t x xs e = rw (eq-eqb x.tag t e)

tag-other : (t : ℕ) (x : Listed) (xs : List Listed) → x.tag ≢ t → with_tag t (x ∷ xs) ≡ with_tag t xs
unfolding with_tag
tag-other t x xs e = rw (ne_eqb x.tag t e)

-- an object found by its address, between the objects before and behind it: there it is overwritten or struck out
record Cut (a : ℕ) (bk : List Listed) (e : Listed) : Type 0 where
  before : List Listed
  behind : List Listed
  cut : bk ≡ before ++ (e ∷ behind)
  here : e.addr ≡ a
  laid : (o : ℕ) (ys : List ℕ) → overwrite a o ys bk ≡ before ++ (record { addr = e.addr; tag = e.tag; body = sets e.body o ys } ∷ behind)
  struck : strike a bk ≡ before ++ behind

find-cut : (a : ℕ) (bk : List Listed) (e : Listed) → find a bk ≡ some e → Cut a bk e
unfolding find overwrite strike
find-cut a [] e q = absurd (let z : ◌≡◌ {A = ℕ} 0 1 = cc in omega arith)
find-cut a (x ∷ xs) e q =
    split (eqb x.addr a)
    (λ l.
    let q' : some x ≡ some e = rw l at q in
    let z : x ≡ e = cc in
    subst (λ (y : Listed). Cut a (x ∷ xs) y) z (record { before = []; behind = xs; cut = refl; here = eqb-true x.addr a l; laid = λ o ys. rw l; struck = rw l }))
    (λ l.
    let i = find-cut a xs e (rw l at q) in
    record { before = x ∷ i.before; behind = i.behind; cut = ap (λ (r : List Listed). x ∷ r) i.cut; here = i.here; laid = λ o ys. rw (l, i.laid o ys); struck = rw (l, i.struck) })

-- no object has the address
absent-same : (a : ℕ) (bk : List Listed) → find a bk ≡ none → ((o : ℕ) (ys : List ℕ) → overwrite a o ys bk ≡ bk) × (strike a bk ≡ bk)
unfolding find overwrite strike
absent-same a [] q = (λ o ys. refl, refl)
absent-same a (x ∷ xs) q =
    split (eqb x.addr a)
    (λ l. absurd (let q' : some x ≡ none = rw l at q in let z : ◌≡◌ {A = ℕ} 0 1 = cc in omega arith))
    (λ l. let i = absent-same a xs (rw l at q) in (λ o ys. rw (l, i.0 o ys), rw (l, i.1)))

-- ---- under the changes of a book

pub tag-enter : (t : ℕ) (e : Listed) (bk : List Listed) → with_tag t bk ≡ [] → e.tag ≡ t → with_tag t (enter e bk) ≡ e ∷ []
unfolding enter with_tag
tag-enter t e [] h q = tag-here t e [] q
tag-enter t e (x ∷ xs) h q =
    split (eqb x.tag t)
    (λ l. absurd (let h' : x ∷ with_tag t xs ≡ [] = rw l at h in let z : ◌≡◌ {A = ℕ} 0 1 = cc in omega arith))
    (λ l.
    let k : with_tag t xs ≡ [] = rw l at h in
    split (ltb e.addr x.addr)
    (λ m. rw m (tag-here t e (x ∷ xs) q ∙ rw (l, k)))
    (λ m. rw (m, l) (tag-enter t e xs k q)))

pub tag-enter-other : (t : ℕ) (e : Listed) (bk : List Listed) → e.tag ≢ t → with_tag t (enter e bk) ≡ with_tag t bk
unfolding enter with_tag
tag-enter-other t e [] n = tag-other t e [] n
tag-enter-other t e (x ∷ xs) n =
    split (ltb e.addr x.addr)
    (λ m. rw m (tag-other t e (x ∷ xs) n))
    (λ m. rw (m, tag-enter-other t e xs n))

-- an object in the middle
tag-between : (t : ℕ) (A : List Listed) (x : Listed) (B : List Listed) → x.tag ≡ t → with_tag t (A ++ (x ∷ B)) ≡ with_tag t A ++ (x ∷ with_tag t B)
tag-between t A x B e = tag-append t A (x ∷ B) ∙ ap (λ (l : List Listed). with_tag t A ++ l) (tag-here t x B e)

tag-without : (t : ℕ) (A : List Listed) (x : Listed) (B : List Listed) → x.tag ≢ t → with_tag t (A ++ (x ∷ B)) ≡ with_tag t (A ++ B)
tag-without t A x B e = tag-append t A (x ∷ B) ∙ ap (λ (l : List Listed). with_tag t A ++ l) (tag-other t x B e) ∙ sym (tag-append t A B)

-- the object at an address has another tag, or there is none
module _ (t a : ℕ) (bk : List Listed) (h : (e : Listed) → find a bk ≡ some e → e.tag ≢ t) where
  changed-other : ((o : ℕ) (ys : List ℕ) → with_tag t (overwrite a o ys bk) ≡ with_tag t bk) × (with_tag t (strike a bk) ≡ with_tag t bk)
  changed-other = go (find a bk) refl
    where
      go : (r : Option Listed) → find a bk ≡ r → ((o : ℕ) (ys : List ℕ) → with_tag t (overwrite a o ys bk) ≡ with_tag t bk) × (with_tag t (strike a bk) ≡ with_tag t bk)
      go none q = let i = absent-same a bk q in (λ o ys. ap (with_tag t) (i.0 o ys), ap (with_tag t) i.1)
      go (some e) q =
          let i = find-cut a bk e q in
          let c = ap (with_tag t) i.cut ∙ tag-without t i.before e i.behind (h e q) in
          (λ o ys. ap (with_tag t) (i.laid o ys) ∙ tag-without t i.before _ i.behind (h e q) ∙ sym c, ap (with_tag t) i.struck ∙ sym c)

  pub tag-overwrite-other : (o : ℕ) (ys : List ℕ) → with_tag t (overwrite a o ys bk) ≡ with_tag t bk
  tag-overwrite-other = changed-other.0

  pub tag-strike-other : with_tag t (strike a bk) ≡ with_tag t bk
  tag-strike-other = changed-other.1

-- the object is the only one with the tag
alone : (A : List Listed) (x : Listed) (B : List Listed) (e : Listed) → A ++ (x ∷ B) ≡ e ∷ [] → (A ≡ []) × (x ≡ e) × (B ≡ [])
alone [] x B e q = (refl, cc, cc)
alone (y ∷ []) x B e q = absurd (let z : ◌≡◌ {A = ℕ} 0 1 = cc in omega arith)
alone (y ∷ (w ∷ A)) x B e q = absurd (let z : ◌≡◌ {A = ℕ} 0 1 = cc in omega arith)

cut-alone : (t a : ℕ) (bk : List Listed) (x e : Listed) (i : Cut a bk x) → x.tag ≡ t → with_tag t bk ≡ e ∷ [] → (with_tag t i.before ≡ []) × (x ≡ e) × (with_tag t i.behind ≡ [])
cut-alone t a bk x e i q h = alone (with_tag t i.before) x (with_tag t i.behind) e (sym (ap (with_tag t) i.cut ∙ tag-between t i.before x i.behind q) ∙ h)

pub only-tag : (t : ℕ) (e : Listed) (bk : List Listed) → with_tag t bk ≡ e ∷ [] → e.tag ≡ t
unfolding with_tag
only-tag t e [] h = absurd (let z : ◌≡◌ {A = ℕ} 0 1 = cc in omega arith)
only-tag t e (x ∷ xs) h =
    split (eqb x.tag t)
    (λ l. let h' : x ∷ with_tag t xs ≡ e ∷ [] = rw l at h in let z : x ≡ e = cc in sym (ap (λ (y : Listed). y.tag) z) ∙ eqb-true x.tag t l)
    (λ l. only-tag t e xs (rw l at h))

module _ (t : ℕ) (e : Listed) (bk : List Listed) (h : with_tag t bk ≡ e ∷ []) (q : find e.addr bk ≡ some e) where
  changed-only : ((o : ℕ) (ys : List ℕ) → with_tag t (overwrite e.addr o ys bk) ≡ record { addr = e.addr; tag = e.tag; body = sets e.body o ys } ∷ [])
      × (with_tag t (strike e.addr bk) ≡ [])
  changed-only =
      let i = find-cut e.addr bk e q in
      let k = cut-alone t e.addr bk e e i (only-tag t e bk h) h in (
        λ o ys. ap (with_tag t) (i.laid o ys) ∙ tag-between t i.before _ i.behind (only-tag t e bk h) ∙ rw (k.0, k.2),
        ap (with_tag t) i.struck ∙ tag-append t i.before i.behind ∙ rw (k.0, k.2),
      )

  pub tag-overwrite : (o : ℕ) (ys : List ℕ) → with_tag t (overwrite e.addr o ys bk) ≡ record { addr = e.addr; tag = e.tag; body = sets e.body o ys } ∷ []
  tag-overwrite = changed-only.0

  pub tag-strike : with_tag t (strike e.addr bk) ≡ []
  tag-strike = changed-only.1

-- ---- calls that spare the objects with the tags `mine`

module _ (t : ℕ) (bk : List Listed) where
  spared-address : (a : Answer) (f : ℕ → List Listed → List Listed) → (is_refused a ≡ false → (c : ℕ) → with_tag t (f c bk) ≡ with_tag t bk)
      → with_tag t (on_address a f bk) ≡ with_tag t bk
  unfolding on_address is_refused
  spared-address (address c) f h = h refl c
  spared-address taken f h = refl
  spared-address started f h = refl
  spared-address (stored k) f h = refl
  spared-address (passed k) f h = refl
  spared-address (done k) f h = refl
  spared-address (refused n) f h = refl

  spared-taken : (a : Answer) (f : List Listed → List Listed) → (is_refused a ≡ false → with_tag t (f bk) ≡ with_tag t bk) → with_tag t (on_taken a f bk) ≡ with_tag t bk
  unfolding on_taken is_refused
  spared-taken (address c) f h = refl
  spared-taken taken f h = h refl
  spared-taken started f h = refl
  spared-taken (stored k) f h = refl
  spared-taken (passed k) f h = refl
  spared-taken (done k) f h = refl
  spared-taken (refused n) f h = refl

module _ (mine : ℕ → Bool) where
  spared-tag : (x t : ℕ) → mine x ≡ false → mine t ≡ true → x ≢ t
  spared-tag x t f m e = let z : ◌≡◌ {A = ℕ} 0 1 = cc in omega arith

  spared-call : (k : Call) (a : Answer) (bk : List Listed) → (is_refused a ≡ false → SparesCall mine k bk) → (t : ℕ) → mine t ≡ true → with_tag t (new_book k a bk) ≡ with_tag t bk
  unfolding new_book
  spared-call (allocate x b) a bk h t m =
      spared-address t bk a (λ c. enter (record { addr = c; tag = x; body = b })) (λ r c. tag-enter-other t _ bk (spared-tag x t (h r) m))
  spared-call (write c o ys) a bk h t m = spared-taken t bk a (overwrite c o ys) (λ r. tag-overwrite-other t c bk (λ e q. spared-tag e.tag t (h r e q) m) o ys)
  spared-call (release c) a bk h t m = spared-taken t bk a (strike c) (λ r. tag-strike-other t c bk (λ e q. spared-tag e.tag t (h r e q) m))

  -- CALLS THAT SPARE A TAG LEAVE ITS OBJECTS
  pub spared : (ks : List Call) (ans : List Answer) (bk : List Listed) → Spares mine ks ans bk → (t : ℕ) → mine t ≡ true → with_tag t (new_books ks ans bk) ≡ with_tag t bk
  unfolding new_books
  spared [] ans bk h t m = refl
  spared (k ∷ ks) [] bk h t m = refl
  spared (k ∷ ks) (a ∷ ans) bk h t m = spared ks ans (new_book k a bk) h.1 t m ∙ spared-call k a bk h.0 t m

-- ---- the first one at or above an address

pub first-empty : (t f : ℕ) (bk : List Listed) → with_tag t bk ≡ [] → first_tagged t f bk ≡ none
unfolding first_tagged first_from
first-empty t f bk h = ap (first_from f) h

pub first-single : (t f : ℕ) (e : Listed) (bk : List Listed) → with_tag t bk ≡ e ∷ [] → f ≤ e.addr → first_tagged t f bk ≡ some e.addr
unfolding first_tagged first_from
first-single t f e bk h l = ap (first_from f) h ∙ rw (le-leb f e.addr l)

-- in a book that ascends from c, no address is below c
find-high : (c a : ℕ) (bk : List Listed) (e : Listed) → Ascends c bk → find a bk ≡ some e → c ≤ a
unfolding find
find-high c a [] e s q = absurd (let z : ◌≡◌ {A = ℕ} 0 1 = cc in omega arith)
find-high c a (x ∷ xs) e s q =
    split (eqb x.addr a)
    (λ l. omega (arith, s.0, eqb-true x.addr a l))
    (λ l. omega (arith, s.0, find-high (suc x.addr) a xs e s.1 (rw l at q)))

-- what a first address tells
pub record First (t f a : ℕ) (bk : List Listed) : Type 0 where
  pub entry : Listed
  pub listed : find a bk ≡ some entry
  pub tagged : entry.tag ≡ t
  pub here : entry.addr ≡ a
  pub above : f ≤ a

first-cons : (t f a c : ℕ) (x : Listed) (xs : List Listed) → Ascends c (x ∷ xs) → First t f a xs → First t f a (x ∷ xs)
unfolding find
first-cons t f a c x xs s i =
    record { entry = i.entry; listed = rw (ne_eqb x.addr a (omega (arith, find-high (suc x.addr) a xs i.entry s.1 i.listed))) i.listed; tagged = i.tagged; here = i.here; above = i.above }

pub first_found : (t f a c : ℕ) (bk : List Listed) → first_tagged t f bk ≡ some a → Ascends c bk → First t f a bk
unfolding first_tagged first_from with_tag find
first_found t f a c [] q s = absurd (let z : ◌≡◌ {A = ℕ} 0 1 = cc in omega arith)
first_found t f a c (x ∷ xs) q s =
    split (eqb x.tag t)
    (λ l. split (leb f x.addr)
    (λ m. let q' : some x.addr ≡ some a = rw (l, m) at q in
    let z : x.addr ≡ a = cc in
    record { entry = x; listed = rw (eq-eqb x.addr a z); tagged = eqb-true x.tag t l; here = z; above = rw z at (leb-true f x.addr m) })
    (λ m. first-cons t f a c x xs s (first_found t f a (suc x.addr) xs (rw (l, m) at q) s.1)))
    (λ l. first-cons t f a c x xs s (first_found t f a (suc x.addr) xs (rw l at q) s.1))

-- no object with the tag is before it
pub first-lowest : (t f a c : ℕ) (bk : List Listed) → first_tagged t f bk ≡ some a → Ascends c bk → (b : ℕ) (x : Listed) → find b bk ≡ some x → x.tag ≡ t → f ≤ b → a ≤ b
unfolding first_tagged first_from with_tag find
first-lowest t f a c [] q s b x w e l = absurd (let z : ◌≡◌ {A = ℕ} 0 1 = cc in omega arith)
first-lowest t f a c (y ∷ ys) q s b x w e l =
    split (eqb y.addr b)
    (λ k.
    let w' : some y ≡ some x = rw k at w in
    let z : y ≡ x = cc in
    let d : y.addr ≡ b = eqb-true y.addr b k in
    let q' : some y.addr ≡ some a = rw (eq-eqb y.tag t (ap (λ (v : Listed). v.tag) z ∙ e), le-leb f y.addr (omega arith)) at q in
    let r : y.addr ≡ a = cc in
    omega arith)
    (λ k.
    let w' : find b ys ≡ some x = rw k at w in
    let h = find-high (suc y.addr) b ys x s.1 w' in
    let ih : first_tagged t f ys ≡ some a → a ≤ b = λ r. first-lowest t f a (suc y.addr) ys r s.1 b x w' e l in
    split (eqb y.tag t)
    (λ m. split (leb f y.addr) (λ n. let q' : some y.addr ≡ some a = rw (m, n) at q in let r : y.addr ≡ a = cc in omega arith) (λ n. ih (rw (m, n) at q)))
    (λ m. ih (rw m at q)))

-- where there is none, no object at or above the address has the tag
pub first_absent : (t f : ℕ) (bk : List Listed) → first_tagged t f bk ≡ none → (b : ℕ) (x : Listed) → find b bk ≡ some x → x.tag ≡ t → f ≤ b → ⊥
unfolding first_tagged first_from
first_absent t f bk q b x w e l =
    let i = find-cut b bk x w in
    let k : f ≤ x.addr = omega (arith, i.here) in
    let here : first_tagged t f (x ∷ i.behind) ≡ some x.addr = ap (first_from f) (tag-here t x i.behind e) ∙ rw (le-leb f x.addr k) in
    go (first_tagged t f i.before) (sym (ap (or_else (first_tagged t f i.before)) here) ∙ sym (first-append t f i.before (x ∷ i.behind)) ∙ sym (ap (first_tagged t f) i.cut) ∙ q)
  where
    go : (o : Option ℕ) → or_else o (some x.addr) ≡ none → ⊥
    go none r = unfold or_else in (let z : ◌≡◌ {A = ℕ} 0 1 = cc in omega arith)
    go (some a) r = unfold or_else in (let z : ◌≡◌ {A = ℕ} 0 1 = cc in omega arith)

-- THE ONLY OBJECT WITH A TAG IS FOUND BY ITS ADDRESS
pub tag-listed : (t c : ℕ) (e : Listed) (bk : List Listed) → with_tag t bk ≡ e ∷ [] → Ascends c bk → (find e.addr bk ≡ some e) × (e.tag ≡ t)
tag-listed t c e bk h s =
    let i = first_found t 0 e.addr c bk (first-single t 0 e bk h (omega arith)) s in
    let k = cut-alone t e.addr bk i.entry e (find-cut e.addr bk i.entry i.listed) i.tagged h in
    (i.listed ∙ ap (λ (x : Listed). some x) k.1, only-tag t e bk h)
