-- The look-up by tag (A.1): the lowest address, at or above a given one, of an object with that tag; or the refusal. And that a list of
-- calls spares the objects with certain tags. Assumes nothing.
use Rattle.std.specs.Prelude.{ℕ, ◌≡◌, Bool, false, not, cond, List, [], ◌∷◌, ◌++◌, leb, eqb}
use Rattle.std.proofs.Math.Option.{Option, none, some}
use Rattle.rules.specs.Test.{Test, first, when}
use Rattle.rules.specs.Header.{shape_in}
use Rattle.rules.specs.Book.{Listed, find}
use Rattle.rules.specs.Zones.{walk_in}
use Rattle.rules.specs.Scrub.{all_to}
use Rattle.rules.specs.Seals.{read_tests}
use Rattle.rules.specs.Answer.{Answer, is_refused}
use Rattle.rules.specs.Plan.{Call, allocate, release, write}
use Rattle.rules.specs.NewBook.{new_book}
use Rattle.rules.specs.Sound.{book_of}

-- ---- The look-up.

-- The objects of a book with the tag t.
unfoldable pub with_tag : ℕ → List Listed → List Listed
with_tag t [] = []
with_tag t (x ∷ xs) = cond (eqb x.tag t) (x ∷ with_tag t xs) (with_tag t xs)

-- The first address of a book that is at or above `from`.
unfoldable pub first_from : ℕ → List Listed → Option ℕ
first_from from [] = none
first_from from (x ∷ xs) = cond (leb from x.addr) (some x.addr) (first_from from xs)

-- The lowest address at or above `from` of an object with the tag t: a book ascends.
unfoldable pub first_tagged : ℕ → ℕ → List Listed → Option ℕ
first_tagged t from bk = first_from from (with_tag t bk)

-- 23 a zone is broken, whichever.
unfoldable pub whole_test : List ℕ → Test
whole_test p = when (not (all_to (shape_in p).zones (λ z. (walk_in (shape_in p) p z).whole))) 23

-- 2, 3, 4, 2, 21, 23. Damage hides no tag.
unfoldable pub look_up_tests : List ℕ → List Test
look_up_tests p = read_tests p ++ (whole_test p ∷ [])

-- An address; no object with the tag; or a refusal.
pub data LookUp : Type 0 where
  at : ℕ → LookUp
  absent : LookUp
  refused : ℕ → LookUp

unfoldable pub found : Option ℕ → LookUp
found none = absent
found (some a) = at a

unfoldable pub conclude_look_up : Option ℕ → LookUp → LookUp
conclude_look_up none x = x
conclude_look_up (some n) x = refused n

-- It reads committed bytes, and judges all zones before it answers.
unfoldable pub look_up : List ℕ → ℕ → ℕ → LookUp
look_up p t from = conclude_look_up (first (look_up_tests p)) (found (first_tagged t from (book_of p)))

-- ---- Calls that spare the objects with the tags `mine`.

module _ (mine : ℕ → Bool) where
  -- Carried out on this book, the call allocates no such tag, and writes or frees no such object.
  abbrev pub SparesCall : Call → List Listed → Type 0
  SparesCall (allocate t b) bk = mine t ≡ false
  SparesCall (write a o xs) bk = (e : Listed) → find a bk ≡ some e → mine e.tag ≡ false
  SparesCall (release a) bk = (e : Listed) → find a bk ≡ some e → mine e.tag ≡ false

  -- None of the calls that are not refused does, each on the book that the ones before it leave.
  abbrev pub Spares : List Call → List Answer → List Listed → Type 0
  Spares [] ans bk = Unit {0}
  Spares (k ∷ ks) [] bk = Unit {0}
  Spares (k ∷ ks) (a ∷ ans) bk = (is_refused a ≡ false → SparesCall k bk) × Spares ks ans (new_book k a bk)
