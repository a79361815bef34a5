-- The ten set-ups are a table of ten places: what a save, a refused one and another transaction make of it. Assumes nothing.
use Prim.Native.Nat.{ℕ, ◌+◌, ◌^◌, ◌≤◌, ◌<◌}
use mathlib.Core.Path.{◌≡◌, refl, sym, ap, ◌∙◌, subst}
use mathlib.Core.Logic.{◌≢◌}
use mathlib.Core.Bool.{Bool, true, false, cond}
use mathlib.Core.Option.{Option, none, some}
use mathlib.Core.List.{List, [], ◌∷◌}
use native.Mathlib.Omega.{arith}
use lib.ListN.{length, get_or-replicate, length-set}
use lib.Seq.{get_or-set_same, get_or-set_other}
use lib.Dec.{eqb}
use borrow.Author.Tests.{eqb-true, eqb-false, le-leb, ltb-false}
use Rattle.rules.specs.Words.{Bytes}
use Rattle.rules.specs.Header.{within}
use Rattle.rules.specs.Book.{Listed, enter, find, overwrite}
use Rattle.rules.specs.Answer.{After, Answer, Given, is_refused}
use Rattle.rules.specs.Plan.{Call, allocate, plan, write}
use Rattle.rules.specs.Calls.{AllTyped, Typed, begun, call, calls}
use Rattle.rules.specs.NewBook.{new_book, new_books, on_address, on_taken}
use Rattle.rules.specs.Sound.{Sound, book_of}
use Rattle.rules.specs.Tag.{Spares, with_tag}
use Rattle.rules.specs.Format.{formatted}
use Rattle.rules.proofs.Bool.{and-join, split}
use Rattle.rules.proofs.Test.{Passed, not-not}
use Rattle.rules.proofs.Sets.{sets-all}
use Rattle.rules.proofs.Format.{format-sound}
use Rattle.rules.proofs.Tag.{spared, tag-enter, tag-enter-other, tag-overwrite, tag-overwrite-other}
use Rattle.powercut.specs.WholeRun.{made}
use Rattle.powercut.specs.History.{Ending}
use Rattle.powercut.proofs.History.{ending}
use Rattle.powercut.proofs.Answers.{call-answer}
use Rattle.setups.specs.Setups.{last_setup, number_test, save_call, save_call_at, save_tests, saved, setup_at, setup_size, setup_tag, size_test, unsaved}
use Rattle.setups.specs.Table.{Bare, Table, TableRun, TenPlaces, empty_table, is_setup_tag, other, overwritten, place, refuse, save, start}
use Rattle.setups.proofs.Saved.{save-passed, save-refused}
use Rattle.setups.proofs.Recalled.{Stands, absent-at, present-at, present-listed, recall-stands, setup}

-- the pool is sound, and each place of the table stands in its book
pub record Holds (q : List ℕ) (t : Table) : Type 0 where
  pub sound : Sound q
  pub ten : length t ≡ last_setup + 1
  pub places : (m : ℕ) → m ≤ last_setup → Stands m (place m t) (book_of q)

-- ---- a book in which the objects with the tag are the same

stands_same : (m : ℕ) (o : Option (List ℕ)) (bk bk' : List Listed) → with_tag (setup_tag m) bk' ≡ with_tag (setup_tag m) bk → Stands m o bk → Stands m o bk'
stands_same m none bk bk' e s = e ∙ s
stands_same m (some body) bk bk' e s = (s.0, e ∙ s.1, s.2)

-- ---- one place overwritten

place_same : (n : ℕ) (body : List ℕ) (t : Table) → n < length t → place n (overwritten true n body t) ≡ some body
unfolding place overwritten
place_same n body t h = get_or-set_same t n (some body) none h

place_other : (m n : ℕ) (body : List ℕ) (t : Table) → m ≢ n → place m (overwritten true n body t) ≡ place m t
unfolding place overwritten
place_other m n body t h = get_or-set_other t n m (some body) none h

length-overwritten : (n : ℕ) (body : List ℕ) (t : Table) → length (overwritten true n body t) ≡ length t
unfolding overwritten
length-overwritten n body t = length-set t n (some body)

-- ---- what a call that is not refused makes of a book

book-allocated : (g : Given) (t : ℕ) (b : List ℕ) (bk : List Listed) → is_refused (call g (allocate t b)).answer ≡ false
    → (a : ℕ) × (new_book (allocate t b) (call g (allocate t b)).answer bk ≡ enter (record { addr = a; tag = t; body = b }) bk)
unfolding new_book on_address plan
book-allocated g t b bk f = (_, ap (λ (x : Answer). new_book (allocate t b) x bk) (call-answer g (allocate t b) f))

book-written : (g : Given) (a o : ℕ) (xs : List ℕ) (bk : List Listed) → is_refused (call g (write a o xs)).answer ≡ false
    → new_book (write a o xs) (call g (write a o xs)).answer bk ≡ overwrite a o xs bk
unfolding new_book on_taken plan
book-written g a o xs bk f = ap (λ (x : Answer). new_book (write a o xs) x bk) (call-answer g (write a o xs) f)

-- ---- the one call of a save that is not refused

module _ (q staging : List ℕ) (n : ℕ) (body : List ℕ) where
  -- the number is 0 to 9, and the body has 120 bytes
  save-fits : Passed (save_tests q staging n body) → (n ≤ last_setup) × (length body ≡ setup_size)
  unfolding save_tests number_test size_test
  save-fits p = (ltb-false last_setup n p.0, eqb-true (length body) setup_size (not-not _ p.1.0))

  save-typed : n ≤ last_setup → Bytes body → Typed (save_call q n body)
  unfolding save_call
  save-typed h b = go (setup_at q n)
    where
      go : (o : Option ℕ) → Typed (save_call_at o n body)
      go none = unfold save_call_at in (omega arith, b)
      go (some a) = unfold save_call_at in b

  module _ (s : Sound q) where
    pub saves-anew : with_tag (setup_tag n) (book_of q) ≡ [] → save_call q n body ≡ allocate (setup_tag n) body
    unfolding save_call save_call_at
    saves-anew e = rw (absent-at q s n e)

    pub saves-over : (a : ℕ) (old : List ℕ) → with_tag (setup_tag n) (book_of q) ≡ setup n a old ∷ [] → save_call q n body ≡ write a 0 body
    unfolding save_call save_call_at
    saves-over a old e = rw (present-at q s n a old e)

    -- the book that the call makes of the old one
    abbrev after : List Listed
    after = new_book (save_call q n body) (call (begun q staging) (save_call q n body)).answer (book_of q)

    module _ (size : length body ≡ setup_size) (f : is_refused (call (begun q staging) (save_call q n body)).answer ≡ false) where
      abbrev MadeBy : List Listed → Call → Type 0
      MadeBy bk k = new_book k (call (begun q staging) k).answer (book_of q) ≡ bk

      book-anew : with_tag (setup_tag n) (book_of q) ≡ [] → (a : ℕ) × (after ≡ enter (setup n a body) (book_of q))
      book-anew e =
          subst (λ (k : Call). is_refused (call (begun q staging) k).answer ≡ false → (a : ℕ) × MadeBy (enter (setup n a body) (book_of q)) k) (sym (saves-anew e))
          (book-allocated (begun q staging) (setup_tag n) body (book_of q)) f

      book-over : (a : ℕ) (old : List ℕ) → with_tag (setup_tag n) (book_of q) ≡ setup n a old ∷ [] → after ≡ overwrite a 0 body (book_of q)
      book-over a old e =
          subst (λ (k : Call). is_refused (call (begun q staging) k).answer ≡ false → MadeBy (overwrite a 0 body (book_of q)) k) (sym (saves-over a old e))
          (book-written (begun q staging) a 0 body (book_of q)) f

      -- the set-up's place has the new bytes
      stands-saved : (o : Option (List ℕ)) → Stands n o (book_of q) → Stands n (some body) after
      stands-saved none e =
          let i = book-anew e in
          (i.0, ap (with_tag (setup_tag n)) i.1 ∙ tag-enter (setup_tag n) (setup n i.0 body) (book_of q) e refl, size)
      stands-saved (some old) (a, e, l) = (
        a,
        ap (with_tag (setup_tag n)) (book-over a old e) ∙ tag-overwrite (setup_tag n) (setup n a old) (book_of q) e (present-listed q s n a old e) 0 body
            ∙ ap (λ (b : List ℕ). setup n a b ∷ []) (sets-all old body (l ∙ sym size)),
        size,
      )

      -- and any other place is as it was
      others-saved : (o : Option (List ℕ)) → Stands n o (book_of q) → (m : ℕ) → m ≢ n → with_tag (setup_tag m) after ≡ with_tag (setup_tag m) (book_of q)
      others-saved none e m h =
          let i = book-anew e in
          ap (with_tag (setup_tag m)) i.1 ∙ tag-enter-other (setup_tag m) (setup n i.0 body) (book_of q) (λ p. h (omega arith))
      others-saved (some old) (a, e, l) m h =
          ap (with_tag (setup_tag m)) (book-over a old e)
          ∙ tag-overwrite-other (setup_tag m) a (book_of q) (λ x p r. h (other_tag x p r)) 0 body
        where
          other_tag : (x : Listed) → find a (book_of q) ≡ some x → x.tag ≡ setup_tag m → m ≡ n
          other_tag x p r =
              let z : some x ≡ some (setup n a old) = sym p ∙ present-listed q s n a old e in
              let w : x ≡ setup n a old = cc in
              omega (arith, r, ap (λ (y : Listed). y.tag) w)

-- ---- the steps of a run

start-holds : (p : List ℕ) → Bare p → Holds p empty_table
unfolding place
start-holds p b = record { sound = b.sound; ten = refl; places = λ m h. rw (get_or-replicate {A = Option (List ℕ)} (last_setup + 1) m none none (omega arith)) (b.untagged m h) }

new-one : (q staging : List ℕ) (k : Call) → new_books (k ∷ []) (made q staging (k ∷ [])).answers (book_of q) ≡ new_book k (call (begun q staging) k).answer (book_of q)
unfolding made calls new_books
new-one q staging k = refl

-- the tags 100 to 109
setup-tag : (m : ℕ) → m ≤ last_setup → is_setup_tag (setup_tag m) ≡ true
unfolding within
setup-tag m h = and-join _ _ (le-leb (setup_tag 0) (setup_tag m) (omega arith)) (le-leb (setup_tag m) (setup_tag last_setup) (omega arith))

module _ (q : List ℕ) (t : Table) (k : Holds q t) where
  -- a pool with the same objects of these tags
  same-holds : (r : List ℕ) → Sound r → ((m : ℕ) → m ≤ last_setup → with_tag (setup_tag m) (book_of r) ≡ with_tag (setup_tag m) (book_of q)) → Holds r t
  same-holds r s e = record { sound = s; ten = k.ten; places = λ m h. stands_same m (place m t) (book_of q) (book_of r) (e m h) (k.places m h) }

  module _ (staging : List ℕ) (n : ℕ) (body : List ℕ) (h : n ≤ last_setup) (l : length body ≡ setup_size)
      (g : is_refused (call (begun q staging) (save_call q n body)).answer ≡ false) where
    saved-places : (r : List ℕ) → book_of r ≡ new_book (save_call q n body) (call (begun q staging) (save_call q n body)).answer (book_of q)
        → (m : ℕ) → m ≤ last_setup → Stands m (place m (overwritten true n body t)) (book_of r)
    saved-places r u m i =
        let o = k.places n h in
        split (eqb m n)
        (λ e.
        let w : m ≡ n = eqb-true m n e in
        rw (w, place_same n body t (omega (arith, k.ten)), u) (stands-saved q staging n body k.sound l g (place n t) o))
        (λ e.
        let w : m ≢ n = eqb-false m n e in
        rw (place_other m n body t w)
        (stands_same m (place m t) (book_of q) (book_of r) (ap (with_tag (setup_tag m)) u ∙ others-saved q staging n body k.sound l g (place n t) o m w) (k.places m i)))

    -- an ending of the save's one call
    saved-holds : (kept : Bool) (r : List ℕ) → Sound r → book_of r ≡ cond kept (new_book (save_call q n body) (call (begun q staging) (save_call q n body)).answer (book_of q)) (book_of q)
        → Holds r (overwritten kept n body t)
    unfolding overwritten
    saved-holds false r s u = same-holds r s (λ m i. ap (with_tag (setup_tag m)) u)
    saved-holds true r s u = record { sound = s; ten = length-overwritten n body t ∙ k.ten; places = saved-places r u }

  save-holds : (staging : List ℕ) (n : ℕ) (body : List ℕ) {kept : Bool} {r : List ℕ} → Bytes body → is_refused (saved q staging n body).answer ≡ false
      → Ending q staging (save_call q n body ∷ []) kept r → Holds r (overwritten kept n body t)
  save-holds staging n body {kept} {r} b f e =
      let p = save-passed q staging n body f in
      let i = save-fits q staging n body p.0 in
      let x = ending q staging (save_call q n body ∷ []) k.sound (save-typed q staging n body i.0 b, tt) e in
      saved-holds staging n body i.0 i.1 (sym (ap (λ (y : After). is_refused y.answer) p.1) ∙ f) kept r x.sound
      (x.books ∙ ap (λ (l : List Listed). cond kept l (book_of q)) (new-one q staging (save_call q n body)))

  -- another transaction, which spares the tags if it came into force
  other-holds : (staging : List ℕ) (ks : List Call) {kept : Bool} {r : List ℕ} → AllTyped ks → Ending q staging ks kept r
      → (kept ≡ true → Spares is_setup_tag ks (made q staging ks).answers (book_of q)) → Holds r t
  other-holds staging ks {kept} {r} f e h =
      let x = ending q staging ks k.sound f e in
      same-holds r x.sound (λ m i. ap (with_tag (setup_tag m)) x.books ∙ kept_or_not kept h m i)
    where
      kept_or_not : (c : Bool) → (c ≡ true → Spares is_setup_tag ks (made q staging ks).answers (book_of q)) → (m : ℕ) → m ≤ last_setup
          → with_tag (setup_tag m) (cond c (new_books ks (made q staging ks).answers (book_of q)) (book_of q)) ≡ with_tag (setup_tag m) (book_of q)
      kept_or_not true h m i = spared is_setup_tag ks (made q staging ks).answers (book_of q) (h refl) (setup_tag m) (setup-tag m i)
      kept_or_not false h m i = refl

  refuse-holds : (staging : List ℕ) (n : ℕ) (body : List ℕ) → is_refused (saved q staging n body).answer ≡ true → Holds (saved q staging n body).left.pool t
  unfolding unsaved
  refuse-holds staging n body f = subst (λ (x : After). Holds x.left.pool t) (sym (save-refused q staging n body f)) k

-- a formatted pool is one to start from
pub format-bare : (p : List ℕ) (R C Z id : ℕ) → id < 2 ^ 64 → is_refused (formatted p R C Z id).answer ≡ false → Bare (formatted p R C Z id).pool
unfolding with_tag
format-bare p R C Z id h f = let x = format-sound p R C Z id h f in record { sound = x.0; untagged = λ n i. ap (with_tag (setup_tag n)) x.1 }

-- any run
pub run_holds : {p q : List ℕ} {t : Table} → Bare p → TableRun p t q → Holds q t
run_holds {p} b start = start-holds p b
run_holds b (save staging n body r y f e) = save-holds _ _ (run_holds b r) staging n body y f e
run_holds b (refuse staging n body r f) = refuse-holds _ _ (run_holds b r) staging n body f
run_holds b (other staging ks r f e h) = other-holds _ _ (run_holds b r) staging ks f e h

-- THE TEN SET-UPS ARE A TABLE OF TEN PLACES
pub ten-places : TenPlaces
ten-places p q t b r = let k = run_holds b r in (k.sound, λ n h. recall-stands q k.sound n h (place n t) (k.places n h))
