-- What a save does to a pool: its ways out, and what its answer tells of a sound pool. Assumes nothing.
use Prim.Native.Nat.{ℕ, ◌≤◌}
use mathlib.Core.Path.{◌≡◌, refl, sym, ap, ◌∙◌, subst}
use mathlib.Core.Bool.{Bool, true, false}
use mathlib.Core.List.{List, [], ◌∷◌}
use native.Mathlib.Omega.{arith}
use lib.ListN.{length}
use borrow.Author.Tests.{ltb-false}
use Rattle.rules.specs.Shape.{staging_size}
use Rattle.rules.specs.Header.{open_tests}
use Rattle.rules.specs.Answer.{After, Answer, Given, address, is_refused}
use Rattle.rules.specs.Plan.{Call, allocate, plan}
use Rattle.rules.specs.Calls.{TransactionStart, Typed, begun, call, call_tests, calls, record_tests, transaction_start}
use Rattle.rules.specs.NewBook.{new_book, new_books, on_address}
use Rattle.rules.specs.Sound.{Sound, book_of}
use Rattle.rules.proofs.Bool.{split}
use Rattle.rules.proofs.Test.{first-passed, passed-left, passed-right}
use Rattle.rules.proofs.Transaction.{call-refused}
use Rattle.powercut.specs.WholeRun.{made}
use Rattle.powercut.specs.Claim.{new}
use Rattle.answers.specs.Meaning.{answer_of}
use Rattle.transaction.specs.declared.Reply.{Reply}
use Rattle.transaction.specs.Meaning.{after_of, given_of, start_of}
use Rattle.saving.specs.Meaning.{outcome_of}
use Rattle.saving.specs.Saving.{Outcome, Saves, Told, allocated, committed, is_done, save_on, saved, saved_as}
use Rattle.saving.proofs.Uncut.{Ended, commit-ends}
use Rattle.powercut.proofs.Answers.{accepted-none, call-answer}
use Rattle.powercut.proofs.PowerCut.{power-cut}
use Rattle.powercut.proofs.Refusals.{refused-is}

-- ---- an object allocated

module _ (pool staging : List ℕ) (tag : ℕ) (body : List ℕ) where
  -- r is what the beginning hands back
  module _ (r : Reply) {b : Bool} (e : start_of r ≡ transaction_start pool) (h : b ≡ is_refused (answer_of r.answer)) where
    begun-told : {d : Bool} → b ≡ d → is_refused (transaction_start pool).answer ≡ d
    begun-told q = ap (λ (s : TransactionStart). is_refused s.answer) (sym e) ∙ sym h ∙ q

    pub allocated-unbegun : b ≡ true → after_of r pool staging ≡ allocated pool staging tag body
    unfolding allocated begun
    allocated-unbegun q = rw (begun-told q) (ap (λ (s : TransactionStart). record { answer = s.answer; left = record { pool = pool; staging = staging; txn = s.txn } }) e)

    pub allocated-begun : {x : After} → b ≡ false → x ≡ call (given_of r.transaction pool staging) (allocate tag body) → x ≡ allocated pool staging tag body
    unfolding allocated begun
    allocated-begun q i =
        rw (begun-told q) (i ∙ ap (λ (s : TransactionStart). call (record { pool = pool; staging = staging; txn = s.txn }) (allocate tag body)) e)

  saved-is : saved pool staging tag body ≡ save_on (allocated pool staging tag body)
  unfolding saved allocated save_on
  saved-is = split (is_refused (transaction_start pool).answer) (λ r. rw (r, r)) (λ f. rw f)

-- on a sound pool the beginning is taken
pub sound-begins : (p : List ℕ) → Sound p → is_refused (transaction_start p).answer ≡ false
sound-begins p s = (power-cut p [] [] s tt).begins

-- ---- what an answer tells

accepted-room : (g : Given) (k : Call) → is_refused (call g k).answer ≡ false → staging_size ≤ length g.staging
unfolding call call_tests record_tests
accepted-room g k f =
    let e = accepted-none g _ _ f in
    let p = passed-right (open_tests g.pool) _ (passed-left (record_tests g) _ (first-passed _ e)) in
    omega (arith, ltb-false, p.0)

pub allocate-address : (g : Given) (t : ℕ) (b : List ℕ) → is_refused (call g (allocate t b)).answer ≡ false → (a : ℕ) × ((call g (allocate t b)).answer ≡ address a)
unfolding plan
allocate-address g t b f = (_, call-answer g (allocate t b) f)

told-refused : (old : List ℕ) (tag : ℕ) (body new : List ℕ) (a : Answer) → is_refused a ≡ true → new ≡ old → Told old tag body new a
told-refused old tag body new a r e = subst (Told old tag body new) (sym (refused-is a r).1) e

module _ (pool staging : List ℕ) (tag : ℕ) (body : List ℕ) where
  abbrev x : After
  x = call (begun pool staging) (allocate tag body)

  abbrev y : After
  y = committed x.left

  abbrev ks : List Call
  ks = allocate tag body ∷ []

  made-left : (made pool staging ks).left ≡ x.left
  unfolding made calls
  made-left = refl

  pub made-new : (a : ℕ) → x.answer ≡ address a → new pool staging ks ≡ new_book (allocate tag body) (address a) (book_of pool)
  unfolding made calls new_books
  made-new a e = ap (λ (z : Answer). new_book (allocate tag body) z (book_of pool)) e

  module _ (sound : Sound pool) (typed : Typed (allocate tag body)) where
    told-first : is_refused x.answer ≡ true → Told pool tag body x.left.pool x.answer
    unfolding begun
    told-first r = told-refused pool tag body x.left.pool x.answer r (ap (λ (g : Given). g.pool) (call-refused (begun pool staging) (allocate tag body) r))

    told-done : is_refused x.answer ≡ false → Sound y.left.pool → book_of y.left.pool ≡ new pool staging ks → Told pool tag body y.left.pool x.answer
    unfolding new_book on_address
    told-done f s b =
        let a = allocate-address (begun pool staging) tag body f in
        subst (Told pool tag body y.left.pool) (sym a.1) (s, b ∙ made-new a.0 a.1)

    ended : is_refused x.answer ≡ false → Ended pool staging ks sound (typed, tt) y
    unfolding begun
    ended f = subst (λ (g : Given). Ended pool staging ks sound (typed, tt) (committed g)) made-left (commit-ends pool staging ks sound (typed, tt) (accepted-room (begun pool staging) (allocate tag body) f))

    told-last : is_refused x.answer ≡ false → ((saved_as x.answer y).answer ≡ x.answer) × Told pool tag body (saved_as x.answer y).pool (saved_as x.answer y).answer
    unfolding saved_as is_done
    told-last f = let w = ended f in rw w.0.1 (refl, told-done f w.1 w.2)

    saved-told : ((saved pool staging tag body).answer ≡ x.answer) × Told pool tag body (saved pool staging tag body).pool (saved pool staging tag body).answer
    unfolding saved save_on
    saved-told = rw (sound-begins pool sound) (split (is_refused x.answer) (λ r. rw r (refl, told-first r)) (λ f. rw f (told-last f)))

  -- ---- the ways out

  saves : {o : Outcome} → Typed (allocate tag body) → o ≡ saved pool staging tag body → Saves pool staging tag body o
  saves typed p = record {
    exact = p;
    answers = λ sound. ap (λ (o : Outcome). o.answer) p ∙ (saved-told sound typed).0;
    told = λ sound. subst (λ (o : Outcome). Told pool tag body o.pool o.answer) (sym p) (saved-told sound typed).1;
  }

  -- r is what allocating hands back, with staging memory st; b: whether it is a refusal
  module _ (r : Reply) {st : List ℕ} {b : Bool} (t : Typed (allocate tag body)) (a : after_of r pool st ≡ allocated pool staging tag body) (e : b ≡ is_refused (answer_of r.answer)) where
    saves-on : {o : Outcome} → o ≡ save_on (after_of r pool st) → Saves pool staging tag body o
    saves-on q = saves t (q ∙ ap save_on a ∙ sym (saved-is pool staging tag body))

    pub save-refused : b ≡ true → Saves pool staging tag body (outcome_of r.answer pool st)
    unfolding save_on
    save-refused h = saves-on (rw (sym e ∙ h))

    -- l is what the commit hands back, with the pool p
    module _ {p : List ℕ} {d : Bool} (f : b ≡ false) (l : Reply) (c : after_of l p st ≡ committed (given_of r.transaction pool st)) (i : d ≡ is_done (answer_of l.answer)) where
      pub save-done : d ≡ true → Saves pool staging tag body (outcome_of r.answer p st)
      unfolding save_on saved_as
      save-done h = saves-on (rw (sym e ∙ f, sym c, sym i ∙ h))

      pub save-else : d ≡ false → Saves pool staging tag body (outcome_of l.answer p st)
      unfolding save_on saved_as
      save-else h = saves-on (rw (sym e ∙ f, sym c, sym i ∙ h))
