-- Recall on a sound pool, by the objects that have the set-up's tag. Assumes nothing.
use Prim.Native.Nat.{ℕ, ◌+◌, ◌≤◌}
use mathlib.Core.Path.{◌≡◌, refl, sym, ap, ◌∙◌}
use mathlib.Core.Option.{Option, none, some}
use mathlib.Core.List.{List, [], ◌∷◌}
use native.Mathlib.Omega.{arith}
use lib.ListN.{length}
use borrow.Author.Tests.{eq-eqb, le-ltb}
use Rattle.rules.specs.Header.{shape_in}
use Rattle.rules.specs.Test.{first}
use Rattle.rules.specs.Book.{Listed, find}
use Rattle.rules.specs.Zones.{body_of, head_at, is_damaged}
use Rattle.rules.specs.Sound.{Sound, book_of}
use Rattle.rules.specs.Look.{conclude_look, part, refused, seen}
use Rattle.rules.specs.Tag.{look_up_tests, with_tag}
use Rattle.rules.proofs.Test.{Passed, first-right, passed_first}
use Rattle.rules.proofs.StagedBook.{held_start}
use Rattle.rules.proofs.Look.{book-object}
use Rattle.rules.proofs.Sound.{look-listed, sound-fits}
use Rattle.rules.proofs.Tag.{first-empty, first-single, tag-listed}
use Rattle.rules.proofs.Ascending.{sound-ascends}
use Rattle.rules.proofs.LookUp.{sound-looks-up}
use Rattle.setups.specs.Setups.{absent_test, body_at, found_tests, last_setup, number_test, recall_tests, recalled, setup_at, setup_size, setup_tag, size_test}
use Rattle.setups.specs.Table.{Recalls}

-- ---- place n of the table stands in a book: no object has its tag; or one has, with the place's bytes

abbrev pub setup : ℕ → ℕ → List ℕ → Listed
setup n a body = record { addr = a; tag = setup_tag n; body = body }

abbrev pub Stands : ℕ → Option (List ℕ) → List Listed → Type 0
Stands n none bk = with_tag (setup_tag n) bk ≡ []
Stands n (some body) bk = (a : ℕ) × (with_tag (setup_tag n) bk ≡ setup n a body ∷ []) × (length body ≡ setup_size)

module _ (q : List ℕ) (s : Sound q) (n : ℕ) where
  pub absent-at : with_tag (setup_tag n) (book_of q) ≡ [] → setup_at q n ≡ none
  unfolding setup_at
  absent-at e = first-empty (setup_tag n) 0 (book_of q) e

  module _ (a : ℕ) (body : List ℕ) (e : with_tag (setup_tag n) (book_of q) ≡ setup n a body ∷ []) where
    pub present-at : setup_at q n ≡ some a
    unfolding setup_at
    present-at = first-single (setup_tag n) 0 (setup n a body) (book_of q) e (omega arith)

    pub present-listed : find a (book_of q) ≡ some (setup n a body)
    present-listed = (tag-listed (setup_tag n) 0 (setup n a body) (book_of q) e (sound-ascends q s)).0

    -- neither 25 nor 33
    pub present-passed : length body ≡ setup_size → Passed (found_tests q (some a))
    unfolding found_tests size_test is_damaged body_of book_of
    present-passed l =
        let i = book-object (shape_in q) q [] (book_of q) (sound-fits q s) (held_start (shape_in q) q (sound-fits q s) s.zones) a (setup n a body) present-listed in
        (rw i.0.found, (rw (i.0.found, i.2, eq-eqb (length body) setup_size l), tt))

  -- 32, 2, 3, 4, 2, 21 and 23 do not apply
  recall-first : n ≤ last_setup → first (recall_tests q n) ≡ first (absent_test (setup_at q n) ∷ found_tests q (setup_at q n))
  unfolding recall_tests number_test first
  recall-first h = rw (le-ltb last_setup n h) (first-right (look_up_tests q) _ (sound-looks-up q s))

  recall-absent : n ≤ last_setup → with_tag (setup_tag n) (book_of q) ≡ [] → recalled q n ≡ refused 31
  unfolding recalled conclude_look absent_test first
  recall-absent h e = rw (recall-first h, absent-at e)

  recall-present : n ≤ last_setup → (body : List ℕ) → Stands n (some body) (book_of q) → Recalls q n (some body)
  unfolding recalled conclude_look absent_test body_at
  recall-present h body (a, e, l) =
      let at = present-at a body e in
      let p : first (recall_tests q n) ≡ none = recall-first h ∙ rw at (passed_first _ (refl, present-passed a body e l)) in
      let x = look-listed q s a (setup n a body) (present-listed a body e) in
      let r : recalled q n ≡ part (head_at (shape_in q) a + 16) setup_size = rw (p, at) in
      (head_at (shape_in q) a + 16, r, ap (seen q) (r ∙ ap (part (head_at (shape_in q) a + 16)) (sym l) ∙ sym x.0) ∙ x.1)

  -- RECALL ANSWERS AS THE PLACE DOES
  pub recall-stands : n ≤ last_setup → (o : Option (List ℕ)) → Stands n o (book_of q) → Recalls q n o
  recall-stands h none e = recall-absent h e
  recall-stands h (some body) e = recall-present h body e
