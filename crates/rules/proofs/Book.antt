-- The book of runs that are put together.
use Prim.Native.Nat.{ℕ, ◌+◌, ◌≤◌, ◌<◌}
use mathlib.Core.Path.{◌≡◌, refl, sym, ap, ◌∙◌}
use mathlib.Core.Bool.{Bool, true}
use mathlib.Core.List.{List, [], ◌∷◌, ◌++◌}
use native.Mathlib.Nat.{add_assoc, add-zero, zero-add}
use native.Mathlib.Omega.{arith}
use borrow.Author.Tests.{lt-ltb, le-ltb, ne_eqb}
use Rattle.rules.specs.Runs.{Run, cell_count, cells, free, is_good, object}
use Rattle.rules.specs.Book.{Listed, book, enter, find, overwrite, strike}
use Rattle.rules.proofs.Laid.{Laid, ended_here, more, seg-cells}

pub size-append : (P Q : List Run) → cell_count (P ++ Q) ≡ cell_count P + cell_count Q
unfolding cell_count
size-append [] Q = sym (zero-add (cell_count Q))
size-append (r ∷ P) Q = rw (size-append P Q) (sym (add_assoc (cells r) (cell_count P) (cell_count Q)))

pub book-append : (c : ℕ) (P Q : List Run) → book c (P ++ Q) ≡ book c P ++ book (c + cell_count P) Q
unfolding book cell_count
book-append c [] Q = rw (add-zero c)
book-append c (free n ∷ P) Q = book-append (c + n) P Q ∙ rw (add_assoc c n (cell_count P))
book-append c (object n t b g ∷ P) Q =
    ap (λ (l : List Listed). record { addr = c; tag = t; body = b } ∷ l) (book-append (c + n) P Q ∙ rw (add_assoc c n (cell_count P)))

-- ---- each run has a cell; each object is good

abbrev pub Pos : List Run → Type 0
Pos [] = Unit {0}
Pos (r ∷ rs) = (1 ≤ cells r) × Pos rs

pub laid-pos : {a : Bool} {rs : List Run} {bs : List ℕ} → Laid a rs bs → Pos rs
laid-pos ended_here = tt
laid-pos (more g k l e) = ((seg-cells g).0, laid-pos l)

pub pos-append : (P Q : List Run) → Pos P → Pos Q → Pos (P ++ Q)
pos-append [] Q p q = q
pos-append (r ∷ P) Q p q = (p.0, pos-append P Q p.1 q)

pub pos-right : (P Q : List Run) → Pos (P ++ Q) → Pos Q
pos-right [] Q g = g
pos-right (r ∷ P) Q g = pos-right P Q g.1

pub pos-left : (P Q : List Run) → Pos (P ++ Q) → Pos P
pos-left [] Q g = tt
pos-left (r ∷ P) Q g = (g.0, pos-left P Q g.1)

abbrev pub AllGood : List Run → Type 0
AllGood [] = Unit {0}
AllGood (r ∷ rs) = (is_good r ≡ true) × AllGood rs

pub good-append : (P Q : List Run) → AllGood P → AllGood Q → AllGood (P ++ Q)
good-append [] Q p q = q
good-append (r ∷ P) Q p q = (p.0, good-append P Q p.1 q)

pub good_left : (P Q : List Run) → AllGood (P ++ Q) → AllGood P
good_left [] Q g = tt
good_left (r ∷ P) Q g = (g.0, good_left P Q g.1)

pub good_right : (P Q : List Run) → AllGood (P ++ Q) → AllGood Q
good_right [] Q g = g
good_right (r ∷ P) Q g = good_right P Q g.1

-- ---- a change to the book at the address a, behind the runs P, which end at a or before

pub strike-past : (P : List Run) (c a : ℕ) (Z : List Listed) → Pos P → c + cell_count P ≤ a → strike a (book c P ++ Z) ≡ book c P ++ strike a Z
unfolding strike book cell_count
strike-past [] c a Z p h = refl
strike-past (free n ∷ P) c a Z p h = strike-past P (c + n) a Z p.1 (omega arith)
strike-past (object n t b g ∷ P) c a Z p h = rw (ne_eqb c a (omega arith), strike) (rw (strike-past P (c + n) a Z p.1 (omega arith)))

pub lay-past : (P : List Run) (c a o : ℕ) (ys : List ℕ) (Z : List Listed) → Pos P → c + cell_count P ≤ a → overwrite a o ys (book c P ++ Z) ≡ book c P ++ overwrite a o ys Z
unfolding overwrite book cell_count
lay-past [] c a o ys Z p h = refl
lay-past (free n ∷ P) c a o ys Z p h = lay-past P (c + n) a o ys Z p.1 (omega arith)
lay-past (object n t b g ∷ P) c a o ys Z p h = rw (ne_eqb c a (omega arith), overwrite) (rw (lay-past P (c + n) a o ys Z p.1 (omega arith)))

pub find_past : (P : List Run) (c a : ℕ) (Z : List Listed) → Pos P → c + cell_count P ≤ a → find a (book c P ++ Z) ≡ find a Z
unfolding find book cell_count
find_past [] c a Z p h = refl
find_past (free n ∷ P) c a Z p h = find_past P (c + n) a Z p.1 (omega arith)
find_past (object n t b g ∷ P) c a Z p h = rw (ne_eqb c a (omega arith), find) (find_past P (c + n) a Z p.1 (omega arith))

pub enter-past : (P : List Run) (c : ℕ) (e : Listed) (Z : List Listed) → c + cell_count P ≤ e.addr → enter e (book c P ++ Z) ≡ book c P ++ enter e Z
unfolding enter book cell_count
enter-past [] c e Z h = refl
enter-past (free n ∷ P) c e Z h = enter-past P (c + n) e Z (omega arith)
enter-past (object n t b g ∷ P) c e Z h = rw (le-ltb e.addr c (omega arith), enter) (rw (enter-past P (c + n) e Z (omega arith)))

-- before runs that begin above a
pub enter-before : (P : List Run) (c : ℕ) (e : Listed) → e.addr < c → enter e (book c P) ≡ e ∷ book c P
unfolding enter book
enter-before [] c e h = refl
enter-before (free n ∷ P) c e h = enter-before P (c + n) e (omega arith)
enter-before (object n t b g ∷ P) c e h = rw (lt-ltb e.addr c h, enter)
