-- What a save answers on a pool that holds a table of set-ups. Assumes nothing.
use Prim.Native.Nat.{ℕ, ◌≤◌}
use mathlib.Core.Path.{◌≡◌, refl, ap, ◌∙◌}
use mathlib.Core.Bool.{Bool, true, false, not, ◌&&◌}
use mathlib.Core.Option.{Option, none, some, or_else}
use mathlib.Core.List.{List, [], ◌∷◌, ◌++◌}
use native.Mathlib.Omega.{arith}
use lib.ListN.{length}
use lib.Dec.{eqb, ltb}
use borrow.Author.Tests.{eqb-true, ltb-false}
use Rattle.rules.specs.Shape.{body_limit, staging_size}
use Rattle.rules.specs.Test.{Test, first, when}
use Rattle.rules.specs.Header.{open_tests, shape_in}
use Rattle.rules.specs.Runs.{cells_for}
use Rattle.rules.specs.Search.{any_free}
use Rattle.rules.specs.Zones.{runs_from}
use Rattle.rules.specs.Answer.{After, is_refused, taken}
use Rattle.rules.specs.Plan.{allocate, write}
use Rattle.rules.specs.Calls.{begun, call}
use Rattle.rules.specs.Sound.{Sound, book_of}
use Rattle.rules.specs.Seals.{read_tests, seal_test}
use Rattle.rules.specs.Tag.{look_up_tests, whole_test, with_tag}
use Rattle.rules.proofs.Bool.{split}
use Rattle.rules.proofs.Test.{Passed, first-right, not-not, passed_first, passed-join, passed-right}
use Rattle.rules.proofs.Header.{sound-opens}
use Rattle.rules.proofs.Segments.{cells-hold}
use Rattle.rules.proofs.LookUp.{sound-looks-up}
use Rattle.rules.proofs.Taken.{begun-allocates, begun-full, begun-writes, search-full, search-room}
use Rattle.setups.specs.Setups.{conclude_save, found_tests, last_setup, number_test, save_call, save_tests, saved, setup_at, setup_size, setup_tag, size_test, unsaved}
use Rattle.setups.specs.Table.{SaveAnswers, is_empty, place, refusal_in, table_tests}
use Rattle.setups.proofs.Recalled.{Stands, absent-at, present-at, present-listed, present-passed, setup}
use Rattle.setups.proofs.Table.{run_holds, saves-anew, saves-over}

-- a save's refusal: that of its tests, or else the call's
conclude-refusal : (pool staging : List ℕ) (o : Option ℕ) (x : After) → refusal_in (conclude_save pool staging o x).answer ≡ or_else o (refusal_in x.answer)
unfolding conclude_save unsaved or_else refusal_in
conclude-refusal pool staging none x = split (is_refused x.answer) (λ r. rw r) (λ f. rw f)
conclude-refusal pool staging (some m) x = refl

-- a test that two lists have in front
first_else : (b : Bool) (m : ℕ) (ts us : List Test) (y : Option ℕ) → (b ≡ false → or_else (first ts) y ≡ first us) → or_else (first (when b m ∷ ts)) y ≡ first (when b m ∷ us)
unfolding first or_else
first_else true m ts us y h = refl
first_else false m ts us y h = h refl

module _ (q : List ℕ) (s : Sound q) (n : ℕ) (body : List ℕ) (size : length body ≡ setup_size) where
  found_passed : (o : Option (List ℕ)) → Stands n o (book_of q) → Passed (found_tests q (setup_at q n))
  unfolding found_tests
  found_passed none e = rw (absent-at q s n e) tt
  found_passed (some old) (a, e, l) = rw (present-at q s n a old e) (present-passed q s n a old e l)

  abbrev room : Bool
  room = any_free (cells_for setup_size) (runs_from (shape_in q) q 0 (shape_in q).zones)

  module _ (staging : List ℕ) (long : staging_size ≤ length staging) where
    -- the call's refusal: 26 where the place is empty and there is no room
    call-anew : refusal_in (call (begun q staging) (allocate (setup_tag n) body)).answer ≡ first (when (not room) 26 ∷ [])
    unfolding refusal_in first
    call-anew =
        let b1 : 1 ≤ length body = omega arith in
        let b2 : length body ≤ body_limit = omega arith in
        split room
        (λ r.
        let i = search-room (shape_in q) q (cells_for (length body)) 0 (shape_in q).zones (cells-hold (length body)).1 s.zones (rw size r) in
        rw (r, begun-allocates q staging s long (setup_tag n) body b1 b2 i.0 i.1 i.2))
        (λ r. rw (r, begun-full q staging s long (setup_tag n) body b1 b2 (search-full (shape_in q) q (cells_for (length body)) 0 (shape_in q).zones s.zones (rw size r))))

    call-over : (a : ℕ) (old : List ℕ) → with_tag (setup_tag n) (book_of q) ≡ setup n a old ∷ [] → length old ≡ setup_size
        → (call (begun q staging) (write a 0 body)).answer ≡ taken
    call-over a old e l = begun-writes q staging s long a 0 body (setup n a old) (present-listed q s n a old e) (omega arith) (omega arith)

    call-refusal : (o : Option (List ℕ)) → Stands n o (book_of q) → refusal_in (call (begun q staging) (save_call q n body)).answer ≡ first (when (is_empty o && not room) 26 ∷ [])
    unfolding is_empty refusal_in first
    call-refusal none e = rw (saves-anew q staging n body s e) call-anew
    call-refusal (some old) (a, e, l) = rw (saves-over q staging n body s a old e, call-over a old e l)

  -- 2, 3, 4, 2 do not apply; 9; then 21, 23, 25 and 33 do not
  rest-refusal : (staging : List ℕ) (o : Option (List ℕ)) → Stands n o (book_of q)
      → or_else (first (open_tests q ++ (when (ltb (length staging) staging_size) 9 ∷ seal_test q ∷ whole_test q ∷ found_tests q (setup_at q n))))
      (refusal_in (call (begun q staging) (save_call q n body)).answer)
      ≡ first (when (ltb (length staging) staging_size) 9 ∷ when (is_empty o && not room) 26 ∷ [])
  rest-refusal staging o e =
      let y : Option ℕ = refusal_in (call (begun q staging) (save_call q n body)).answer in
      let found : List Test = found_tests q (setup_at q n) in
      ap (λ (x : Option ℕ). or_else x y) (first-right (open_tests q) _ (sound-opens q s))
      ∙ first_else (ltb (length staging) staging_size) 9 (seal_test q ∷ whole_test q ∷ found) (when (is_empty o && not room) 26 ∷ []) y (λ f.
      ap (λ (x : Option ℕ). or_else x y) (passed_first (seal_test q ∷ whole_test q ∷ found) (rw s.seals, passed-join (whole_test q ∷ []) found whole (found_passed o e)))
      ∙ (unfold or_else in (call-refusal staging (ltb-false (length staging) staging_size f) o e)))
    where
      whole : Passed (whole_test q ∷ [])
      whole = unfold look_up_tests in (passed-right (read_tests q) (whole_test q ∷ []) (sound-looks-up q s))

-- WHAT A SAVE ANSWERS
pub save-answers : SaveAnswers
unfolding saved save_tests table_tests number_test size_test
save-answers p q t b r staging n body y =
    let k = run_holds b r in
    conclude-refusal q staging (first (save_tests q staging n body)) (call (begun q staging) (save_call q n body))
    ∙ first_else (ltb last_setup n) 32 _ _ _ (λ h.
    first_else (not (eqb (length body) setup_size)) 33 _ _ _ (λ l.
    rest-refusal q k.sound n body (eqb-true (length body) setup_size (not-not _ l)) staging (place n t) (k.places n (ltb-false last_setup n h))))
