-- An object allocated and freed again: the ways out, and that the new book is the old one. Assumes nothing.
use Prim.Native.Nat.{ℕ}
use mathlib.Core.Path.{◌≡◌, refl, sym, ap, ap₂, ◌∙◌, subst}
use mathlib.Core.Bool.{true, false}
use mathlib.Core.List.{List, [], ◌∷◌}
use native.Mathlib.Omega.{arith}
use Rattle.rules.specs.Header.{shape_in}
use Rattle.rules.specs.Book.{Listed, enter, strike}
use Rattle.rules.specs.Answer.{After, Answer, Given, address, is_refused, taken}
use Rattle.rules.specs.Plan.{Call, allocate, plan, release}
use Rattle.rules.specs.Calls.{Typed, begun, call, calls, transaction_start}
use Rattle.rules.specs.NewBook.{new_book, new_books, on_address, on_taken}
use Rattle.rules.specs.Sound.{Sound, book_of}
use Rattle.rules.proofs.Bool.{split}
use Rattle.rules.proofs.Sound.{sound-fits}
use Rattle.rules.proofs.Ascending.{Ascends, held-ascends, strike-entered}
use Rattle.powercut.specs.WholeRun.{entries, made}
use Rattle.powercut.specs.Claim.{new}
use Rattle.powercut.proofs.Answers.{call-answer}
use Rattle.powercut.proofs.RunInput.{held}
use Rattle.answers.specs.Meaning.{answer_of}
use Rattle.answers.specs.declared.Answer.{Answer as Code}
use Rattle.answers.specs.declared.Answer.TheVariants.{Address, Barrier, Done, Refused, Started, Stored, Taken}
use Rattle.transaction.specs.declared.Reply.{Reply}
use Rattle.transaction.specs.Meaning.{after_of, given_of}
use Rattle.saving.specs.TakenBack.{TakesBack, address_in, both, free_on, taken_back}
use Rattle.saving.specs.Saving.{allocated}
use Rattle.saving.proofs.Saved.{allocate-address, made-new, sound-begins}

free-taken : (g : Given) (a : ℕ) → is_refused (call g (release a)).answer ≡ false → (call g (release a)).answer ≡ taken
unfolding plan
free-taken g a f = call-answer g (release a) f

address_is : (x : Answer) (a : ℕ) → x ≡ address a → address_in x ≡ a
unfolding address_in
address_is x a e = ap address_in e

-- an answer that means an address is one
address_only : (x : Code) (a : ℕ) → answer_of x ≡ address a → x ≡ Address a
address_only (Address n) a e = cc
address_only Taken a e = absurd (let z : ◌≡◌ {A = ℕ} 0 1 = cc in omega arith)
address_only Started a e = absurd (let z : ◌≡◌ {A = ℕ} 0 1 = cc in omega arith)
address_only (Stored k) a e = absurd (let z : ◌≡◌ {A = ℕ} 0 1 = cc in omega arith)
address_only (Barrier k) a e = absurd (let z : ◌≡◌ {A = ℕ} 0 1 = cc in omega arith)
address_only (Done k) a e = absurd (let z : ◌≡◌ {A = ℕ} 0 1 = cc in omega arith)
address_only (Refused r) a e = absurd (let z : ◌≡◌ {A = ℕ} 0 1 = cc in omega arith)

on-address : (x : After) (a : ℕ) → x.answer ≡ address a → free_on x ≡ call x.left (release a)
unfolding free_on address_in is_refused
on-address x a e = rw e

on-refused : (x : After) → is_refused x.answer ≡ true → free_on x ≡ x
unfolding free_on
on-refused x r = rw r

on-allocated : (x : After) → is_refused x.answer ≡ false → free_on x ≡ call x.left (release (address_in x.answer))
unfolding free_on
on-allocated x f = rw f

module _ (pool staging : List ℕ) (tag : ℕ) (body : List ℕ) where
  abbrev x : After
  x = call (begun pool staging) (allocate tag body)

  abbrev ks : List Call
  ks = allocate tag body ∷ []

  abbrev object-at : ℕ → Listed
  object-at a = record { addr = a; tag = tag; body = body }

  -- the calls' new book
  both-new : (a : ℕ) → x.answer ≡ address a → (call x.left (release a)).answer ≡ taken → new pool staging (both a tag body) ≡ strike a (enter (object-at a) (book_of pool))
  unfolding made calls new_books new_book on_address on_taken
  both-new a e q = ap₂ (λ (y z : Answer). new_book (release a) z (new_book (allocate tag body) y (book_of pool))) e q

  both_left : (a : ℕ) → (made pool staging (both a tag body)).left ≡ (call x.left (release a)).left
  unfolding made calls
  both_left a = refl

  module _ (sound : Sound pool) (typed : Typed (allocate tag body)) where
    -- AN OBJECT ALLOCATED AND FREED AGAIN LEAVES THE BOOK
    pub allocate-free : (a : ℕ) → x.answer ≡ address a → strike a (enter (object-at a) (book_of pool)) ≡ book_of pool
    unfolding new_book on_address
    allocate-free a e =
        let h = held-ascends (shape_in pool) pool (entries pool staging ks) (new pool staging ks) (sound-fits pool sound) (held (record { pool = pool; staging = staging; ks = ks; sound = sound; typed = (typed, tt) })) in
        strike-entered 0 (object-at a) (book_of pool) (subst (Ascends 0) (made-new pool staging tag body a e) h)

    freed-same : (a : ℕ) → x.answer ≡ address a → is_refused (call x.left (release a)).answer ≡ false → new pool staging (both a tag body) ≡ book_of pool
    freed-same a e f = both-new a e (free-taken x.left a f) ∙ allocate-free a e

    back-same : is_refused (free_on x).answer ≡ false
        → (a : ℕ) × ((free_on x).left ≡ (made pool staging (both a tag body)).left) × (new pool staging (both a tag body) ≡ book_of pool)
    back-same f = split (is_refused x.answer)
        (λ r. absurd (let g : is_refused x.answer ≡ false = subst (λ (y : After). is_refused y.answer ≡ false) (on-refused x r) f in let z : ◌≡◌ {A = ℕ} 0 1 = cc in omega arith))
        (λ i.
        let a = allocate-address (begun pool staging) tag body i in
        let p : free_on x ≡ call x.left (release a.0) = on-allocated x i ∙ ap (λ (n : ℕ). call x.left (release n)) (address_is x.answer a.0 a.1) in
        (a.0, ap (λ (y : After). y.left) p ∙ sym (both_left a.0), freed-same a.0 a.1 (subst (λ (y : After). is_refused y.answer ≡ false) p f)))

  -- ---- the ways out

  takes : {w : After} → Typed (allocate tag body) → w ≡ taken_back pool staging tag body → TakesBack pool staging tag body w
  takes {w} typed e = record {
    exact = e;
    same = λ sound f.
        let p : w ≡ free_on x = e ∙ (unfold taken_back in (rw (sound-begins pool sound))) in
        subst (λ (y : After). (a : ℕ) × (y.left ≡ (made pool staging (both a tag body)).left) × (new pool staging (both a tag body) ≡ book_of pool)) (sym p) (back-same sound typed (subst (λ (y : After). is_refused y.answer ≡ false) p f));
  }

  back-is : taken_back pool staging tag body ≡ free_on (allocated pool staging tag body)
  unfolding taken_back allocated free_on
  back-is = split (is_refused (transaction_start pool).answer) (λ r. rw (r, r)) (λ f. rw f)

  -- an allocated object has an address
  allocated-address : (y : After) → y ≡ allocated pool staging tag body → is_refused y.answer ≡ false → (a : ℕ) × (y.answer ≡ address a)
  unfolding allocated
  allocated-address y e f = split (is_refused (transaction_start pool).answer)
      (λ r. absurd (let i = rw r at e in let z : true ≡ false = sym r ∙ sym (ap (λ (w : After). is_refused w.answer) i) ∙ f in cc))
      (λ r.
      let i : y ≡ x = rw r at e in
      let a = allocate-address (begun pool staging) tag body (ap (λ (w : After). is_refused w.answer) (sym i) ∙ f) in
      (a.0, ap (λ (w : After). w.answer) i ∙ a.1))

  -- r is what allocating hands back, with staging memory st
  module _ (r : Reply) {st : List ℕ} (t : Typed (allocate tag body)) (e : after_of r pool st ≡ allocated pool staging tag body) where
    takes-on : {w : After} → w ≡ free_on (after_of r pool st) → TakesBack pool staging tag body w
    takes-on q = takes t (q ∙ ap free_on e ∙ sym back-is)

    pub back-refused : ((a : ℕ) → r.answer ≡ Address a → ⊥) → TakesBack pool staging tag body (after_of r pool st)
    back-refused h = split (is_refused (answer_of r.answer))
        (λ b. takes-on (sym (on-refused (after_of r pool st) b)))
        (λ f. absurd (let a = allocated-address (after_of r pool st) e f in h a.0 (address_only r.answer a.0 a.1)))

    -- free of the address a hands l back, with staging memory st'
    pub back-freed : (a : ℕ) → r.answer ≡ Address a → (l : Reply) {st' : List ℕ} → after_of l pool st' ≡ call (given_of r.transaction pool st) (release a)
        → TakesBack pool staging tag body (after_of l pool st')
    back-freed a h l p = takes-on (p ∙ sym (on-address (after_of r pool st) a (ap answer_of h)))
