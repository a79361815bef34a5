-- The book of a sound pool, and of a transaction over it, ascends; so an object entered and struck out again leaves the book. Assumes nothing.
use Prim.Native.Nat.{ℕ, suc, ◌+◌, ◌≤◌}
use mathlib.Core.Path.{◌≡◌, refl, sym, subst}
use mathlib.Core.Bool.{Bool, cond}
use mathlib.Core.List.{List, [], ◌∷◌, ◌++◌, append-nil}
use native.Mathlib.Omega.{arith}
use lib.Dec.{ltb}
use borrow.Author.Tests.{eq-eqb, ne_eqb}
use Rattle.rules.specs.Shape.{Shape}
use Rattle.rules.specs.Runs.{Run, free, object}
use Rattle.rules.specs.Book.{Listed, book, enter, strike}
use Rattle.rules.specs.Staging.{Store, lay}
use Rattle.rules.specs.Header.{shape_in}
use Rattle.rules.specs.Sound.{Sound, book_of}
use Rattle.rules.proofs.Bool.{split}
use Rattle.rules.proofs.Book.{Pos}
use Rattle.rules.proofs.Zones.{Fits, Zones, flat}
use Rattle.rules.proofs.Held.{Held, flat-size, view-fits}
use Rattle.rules.proofs.StagedBook.{held_start}
use Rattle.rules.proofs.Sound.{sound-fits}

-- each address is above the one before it, the first at least c
abbrev pub Ascends : ℕ → List Listed → Type 0
Ascends c [] = Unit {0}
Ascends c (x ∷ xs) = (c ≤ x.addr) × Ascends (suc x.addr) xs

ascends-low : (c d : ℕ) (xs : List Listed) → c ≤ d → Ascends d xs → Ascends c xs
ascends-low c d [] l h = tt
ascends-low c d (x ∷ xs) l h = (let a = h.0 in omega arith, h.1)

pub book-ascends : (P : List Run) (c : ℕ) → Pos P → Ascends c (book c P)
unfolding book
book-ascends [] c p = tt
book-ascends (free n ∷ P) c p = ascends-low c (c + n) (book (c + n) P) (omega arith) (book-ascends P (c + n) p.1)
book-ascends (object n t b g ∷ P) c p = (omega arith, ascends-low (suc c) (c + n) (book (c + n) P) (let a = p.0 in omega arith) (book-ascends P (c + n) p.1))

pub held-ascends : (s : Shape) (pool : List ℕ) (es : List Store) (bk : List Listed) → Fits s pool → Held s pool es bk → Ascends 0 bk
held-ascends s pool es bk f h =
    let z : Zones s (lay pool es) 0 (h.rss ++ []) = subst (Zones s (lay pool es) 0) (sym (append-nil h.rss)) h.zones in
    let i = flat-size s (lay pool es) 0 h.rss [] (view-fits s pool es f) z (omega (arith, h.count)) in
    subst (Ascends 0) h.books (book-ascends (flat h.rss) 0 i.1)

pub sound-ascends : (p : List ℕ) → Sound p → Ascends 0 (book_of p)
unfolding book_of
sound-ascends p s = held-ascends (shape_in p) p [] _ (sound-fits p s) (held_start (shape_in p) p (sound-fits p s) s.zones)

entered-high : (c : ℕ) (e : Listed) (xs : List Listed) → Ascends c (enter e xs) → c ≤ e.addr
unfolding enter
entered-high c e [] h = h.0
entered-high c e (x ∷ xs) h = split (ltb e.addr x.addr)
    (λ q. (subst (λ (b : Bool). Ascends c (cond b (e ∷ x ∷ xs) (x ∷ enter e xs))) q h).0)
    (λ q. let i = subst (λ (b : Bool). Ascends c (cond b (e ∷ x ∷ xs) (x ∷ enter e xs))) q h in let j = entered-high (suc x.addr) e xs i.1 in let k = i.0 in omega arith)

pub strike-entered : (c : ℕ) (e : Listed) (xs : List Listed) → Ascends c (enter e xs) → strike e.addr (enter e xs) ≡ xs
unfolding enter strike
strike-entered c e [] h = rw (eq-eqb e.addr e.addr refl)
strike-entered c e (x ∷ xs) h = split (ltb e.addr x.addr)
    (λ q. rw (q, eq-eqb e.addr e.addr refl))
    (λ q.
    let i = subst (λ (b : Bool). Ascends c (cond b (e ∷ x ∷ xs) (x ∷ enter e xs))) q h in
    let j = entered-high (suc x.addr) e xs i.1 in
    rw (q, ne_eqb x.addr e.addr (omega arith), strike-entered (suc x.addr) e xs i.1))
