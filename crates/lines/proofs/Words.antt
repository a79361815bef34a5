-- Words in either case: their test decides them; they are joined, split, and compared as std compares texts. Assumes nothing.
use Prim.Native.Nat.{ℕ, ◌+◌, ◌<◌}
use mathlib.Core.Path.{◌≡◌, refl, sym, ap, ◌∙◌}
use mathlib.Core.Logic.{◌⊎◌, inl, inr, ⊎_elim}
use mathlib.Core.Bool.{Bool, true, false, ◌&&◌, ◌||◌}
use mathlib.Core.List.{List, [], ◌∷◌, ◌++◌}
use native.Mathlib.Omega.{arith}
use lib.ListN.{length, drop, take, length-take}
use denote.Ref.{Bor}
use Rattle.std.specs.Option.{MatchOption}
use Rattle.std.specs.Bool.{then_some}
use lib.Dec.{eqb}
use borrow.Author.Tests.{eq-eqb, eqb-true}
use Rattle.std.proofs.Common.{not}
use Rattle.std.specs.Prelude.{IsTrue, ◌↔◌, map}
use Rattle.std.specs.Char.{is_ascii_lowercase, to_ascii_lowercase}
use Rattle.std.proofs.lemmas.Bool.Decides.{nat_tests}
use Rattle.rules.specs.Header.{within}
use Rattle.rules.proofs.Bool.{and-join, and_split, split}
use Rattle.lines.specs.Line.{Spells, Stands, Verb, begins, header, rcl, sav, is_letter, spells, stands}

-- ---- One of two tests.

pub or_split : (a b : Bool) → (a || b) ≡ true → (a ≡ true) ⊎ (b ≡ true)
or_split true b e = inl e
or_split false b e = inr e

pub or_assoc : (a b c : Bool) → ((a || b) || c) ≡ (a || (b || c))
or_assoc true b c = refl
or_assoc false b c = refl

-- v is what a `||` of the tests a and b comes to: r, which is a, if r is true, else s, which is b
pub or_then : {v r a : Bool} (b : Bool) → v ≡ r → r ≡ true → r ≡ a → v ≡ (a || b)
or_then b v h e = v ∙ h ∙ rw (← e, h)

pub or_else : {v r s a b : Bool} → v ≡ s → r ≡ false → r ≡ a → s ≡ b → v ≡ (a || b)
or_else v h e f = v ∙ f ∙ rw (← e, h)

pub or_right : (a b : Bool) → b ≡ true → (a || b) ≡ true
or_right true b e = refl
or_right false b e = e

-- ---- The test decides.

stands-true : (c b : ℕ) → stands c b ≡ true → Stands c b
unfolding stands
stands-true c b e =
    ⊎_elim (λ p. inl (eqb-true b c p)) (λ q. let p = and_split (is_letter c) (eqb b (c + 32)) q in inr (p.0, eqb-true b (c + 32) p.1))
    (or_split (eqb b c) (is_letter c && eqb b (c + 32)) e)

pub stands-is : (c b : ℕ) → Stands c b → stands c b ≡ true
unfolding stands
stands-is c b s = ⊎_elim (λ p. rw (eq-eqb b c p)) (λ p. or_right (eqb b c) (is_letter c && eqb b (c + 32)) (and-join (is_letter c) (eqb b (c + 32)) p.0 (eq-eqb b (c + 32) p.1))) s

-- Where c in neither case stands for d, no byte that stands for c does.
pub stands-other : (c d b : ℕ) → stands d c ≡ false → stands d (c + 32) ≡ false → Stands c b → stands d b ≡ false
stands-other c d b p q s = ⊎_elim (λ e. rw e p) (λ e. rw e.1 q) s

pub spells-true : (w l : List ℕ) → spells w l ≡ true → Spells w l
unfolding spells
spells-true [] [] e = tt
spells-true [] (b ∷ bs) e = let z : ◌≡◌ {A = ℕ} 0 1 = cc in omega arith
spells-true (c ∷ cs) [] e = let z : ◌≡◌ {A = ℕ} 0 1 = cc in omega arith
spells-true (c ∷ cs) (b ∷ bs) e = let p = and_split (stands c b) (spells cs bs) e in (stands-true c b p.0, spells-true cs bs p.1)

pub spells-is : (w l : List ℕ) → Spells w l → spells w l ≡ true
unfolding spells
spells-is [] [] s = refl
spells-is [] (b ∷ bs) s = absurd s
spells-is (c ∷ cs) [] s = absurd s
spells-is (c ∷ cs) (b ∷ bs) s = and-join (stands c b) (spells cs bs) (stands-is c b s.0) (spells-is cs bs s.1)

-- ---- Joined, and split.

pub spells-length : (w l : List ℕ) → Spells w l → length l ≡ length w
spells-length [] [] s = refl
spells-length [] (b ∷ bs) s = absurd s
spells-length (c ∷ cs) [] s = absurd s
spells-length (c ∷ cs) (b ∷ bs) s = rw (spells-length cs bs s.1)

pub spells-append : (a b s t : List ℕ) → Spells a s → Spells b t → Spells (a ++ b) (s ++ t)
spells-append [] b [] t p q = q
spells-append [] b (x ∷ s) t p q = absurd p
spells-append (c ∷ a) b [] t p q = absurd p
spells-append (c ∷ a) b (x ∷ s) t p q = (p.0, spells-append a b s t p.1 q)

pub record Parts (a b l : List ℕ) : Type 0 where
  pub front : List ℕ
  pub back : List ℕ
  pub joined : l ≡ front ++ back
  pub first : Spells a front
  pub second : Spells b back

pub spells-parts : (a b l : List ℕ) → Spells (a ++ b) l → Parts a b l
spells-parts [] b l s = record { front = []; back = l; joined = refl; first = tt; second = s }
spells-parts (c ∷ a) b [] s = absurd s
spells-parts (c ∷ a) b (x ∷ l) s =
    let p = spells-parts a b l s.1 in
    record { front = x ∷ p.front; back = p.back; joined = ap (λ (k : List ℕ). x ∷ k) p.joined; first = (s.0, p.first); second = p.second }

-- A character that is no letter stands as it is.
pub spells-mark : (c : ℕ) (l : List ℕ) → is_letter c ≡ false → Spells (c ∷ []) l → l ≡ c ∷ []
spells-mark c [] e s = absurd s
spells-mark c (b ∷ []) e s = ⊎_elim (λ p. rw p) (λ p. cc) s.0
spells-mark c (b ∷ d ∷ l) e s = absurd s.1

-- ---- A word with no small letter, as std compares it with a part of a line: by small letters.

abbrev pub capital : List ℕ → Bool
capital [] = true
capital (c ∷ w) = not (is_ascii_lowercase c) && capital w

-- a byte that is the character in small letters
stands-lower : (c b : ℕ) → not (is_ascii_lowercase c) ≡ true → to_ascii_lowercase b ≡ to_ascii_lowercase c → stands c b ≡ true
unfolding stands within
stands-lower c b n e = grind (arith, nat_tests)

lower-stands : (c b : ℕ) → not (is_ascii_lowercase c) ≡ true → stands c b ≡ true → to_ascii_lowercase b ≡ to_ascii_lowercase c
unfolding stands within
lower-stands c b n e = grind (arith, nat_tests)

spells-lower : (w l : List ℕ) → capital w ≡ true → map to_ascii_lowercase l ≡ map to_ascii_lowercase w → spells w l ≡ true
unfolding spells
spells-lower [] [] n e = refl
spells-lower [] (b ∷ l) n e = cc
spells-lower (c ∷ w) [] n e = cc
spells-lower (c ∷ w) (b ∷ l) n e =
    let p = and_split (not (is_ascii_lowercase c)) (capital w) n in
    and-join (stands c b) (spells w l) (stands-lower c b p.0 cc) (spells-lower w l p.1 cc)

lower-spells : (w l : List ℕ) → capital w ≡ true → spells w l ≡ true → map to_ascii_lowercase l ≡ map to_ascii_lowercase w
unfolding spells
lower-spells [] [] n e = refl
lower-spells [] (b ∷ l) n e = cc
lower-spells (c ∷ w) [] n e = cc
lower-spells (c ∷ w) (b ∷ l) n e =
    let p = and_split (not (is_ascii_lowercase c)) (capital w) n in
    let q = and_split (stands c b) (spells w l) e in
    let x = lower-stands c b p.0 q.0 in
    let y = lower-spells w l p.1 q.1 in
    cc

-- r is what `eq_ignore_ascii_case` answers
pub spells-same : (w l : List ℕ) (r : Bool) → capital w ≡ true → (IsTrue r ↔ (map to_ascii_lowercase l ≡ map to_ascii_lowercase w)) → r ≡ spells w l
spells-same w l true n h = sym (spells-lower w l n (h.0 refl))
spells-same w l false n h = split (spells w l) (λ t. h.1 (lower-spells w l n t) ∙ sym t) sym

-- ---- A line that begins with a word.

pub begins-short : (w l : List ℕ) → length l < length w → begins w l ≡ false
unfolding begins
begins-short w l h = split (begins w l) (λ t. absurd (omega (arith, length-take (length w) l, spells-length w (take (length w) l) (spells-true w (take (length w) l) t)))) (λ f. f)

-- ---- What follows a header, as the code gives it: r is what `eq_ignore_ascii_case` answers of the first four bytes.

pub header-length : (v : Verb) → length (header v) ≡ 4
header-length sav = refl
header-length rcl = refl

header-capital : (v : Verb) → capital (header v) ≡ true
header-capital sav = refl
header-capital rcl = refl

pub begins-same : (v : Verb) (l : List ℕ) (r : Bool) → (IsTrue r ↔ (map to_ascii_lowercase (take 4 l) ≡ map to_ascii_lowercase (header v))) → r ≡ begins (header v) l
unfolding begins
begins-same v l r h = rw (header-length v) (spells-same (header v) (take 4 l) r (header-capital v) h)

pub stripped : (v : Verb) (l : List ℕ) (r : Bool) (rest : Bor (List ℕ)) → r ≡ begins (header v) l → rest.now ≡ drop 4 l
    → MatchOption (then_some r rest) (begins (header v) l ≡ false) (λ x. (begins (header v) l ≡ true) × (x.now ≡ drop 4 l))
stripped v l true rest e d = (sym e, d)
stripped v l false rest e d = sym e
