-- MANY TRANSACTIONS, ONE AFTER THE OTHER, proved: `history`; and one ending, `ending`. Assumes nothing.
use mathlib.Core.Path.{◌≡◌, refl, sym, ap, ap₂, ◌∙◌}
use mathlib.Core.Logic.{⊎_elim}
use mathlib.Core.Bool.{Bool, true, false, cond}
use mathlib.Core.List.{List, [], ◌++◌}
use Prim.Native.Nat.{ℕ, ◌≤◌}
use native.Mathlib.Omega.{arith}
use lib.ListN.{length}
use Rattle.rules.specs.Shape.{staging_size}
use Rattle.rules.specs.Header.{shape_in}
use Rattle.rules.specs.Staging.{Transaction, closed}
use Rattle.rules.specs.Plan.{Call}
use Rattle.rules.specs.Calls.{AllTyped}
use Rattle.rules.specs.NewBook.{new_books}
use Rattle.rules.specs.Sound.{Sound, book_of}
use Rattle.rules.specs.Repair.{Loss, altered, differences, repair}
use Rattle.rules.proofs.Sound.{repair-restores}
use Rattle.powercut.specs.Power.{State, view}
use Rattle.powercut.specs.Recovery.{Recovery, finished, recovery_start}
use Rattle.powercut.specs.WholeRun.{Holds, Makes, Run, Uncut, cut_off, entries, holding, made, resuming}
use Rattle.powercut.specs.Claim.{EndsIn, Over, old_or_new}
use Rattle.powercut.specs.History.{Deed, Ending, Histories, History, Kept, all_pending, book_after, pending}
use Rattle.powercut.proofs.StepPool.{reached-act}
use Rattle.powercut.proofs.PowerCut.{power-cut, restarted}

-- ---- one ending

-- The pool that an ending leaves: the book is the new one if the calls came into force, else as it was.
pub record Ended {p staging : List ℕ} {ks : List Call} {kept : Bool} {q : List ℕ} (e : Ending p staging ks kept q) : Type 0 where
  pub sound : Sound q
  pub books : book_of q ≡ cond kept (new_books ks (made p staging ks).answers (book_of p)) (book_of p)
  pub behind : pending p staging ks e ≡ []
  pub repairs : (x ms : List ℕ) → Loss q x ms → repair x ms ≡ record { answer = altered (differences x q); pool = q }

book-kept : (p staging : List ℕ) (ks : List Call) (kept : Bool) → old_or_new p staging ks kept ≡ cond kept (new_books ks (made p staging ks).answers (book_of p)) (book_of p)
book-kept p staging ks true = refl
book-kept p staging ks false = refl

pub ending : (p staging : List ℕ) (ks : List Call) → Sound p → AllTyped ks → {kept : Bool} {q : List ℕ} (e : Ending p staging ks kept q) → Ended e
unfolding pending
ending p staging ks s f (Ending.uncut {t} {s = u} r c) =
    let e = (power-cut p staging ks s f).uncut t u r c in
    record { sound = e.sound; books = e.books; behind = e.behind; repairs = e.repairs }
ending p staging ks s f (Ending.recovered {r} {s = u} w c) =
    let e = (power-cut p staging ks s f).recovered r u w c in
    record { sound = e.sound; books = e.books ∙ book-kept p staging ks u.reached; behind = e.behind; repairs = e.repairs }
ending p staging ks s f Ending.dropped = record { sound = s; books = refl; behind = refl; repairs = λ x ms l. repair-restores p x ms s l }

-- ---- transactions in turn

keeps : (p q : List ℕ) (ds : List Deed) → Sound p → (h : History p ds q) → Kept h
unfolding book_after all_pending
keeps p q ds s History.none = record { sound = s; books = refl; behind = refl; repairs = λ x ms l. repair-restores p x ms s l }
keeps p q ds s (History.next {q = m} {staging = staging} {ks} {ds = es} f e h) =
    let a = ending p staging ks s f e in
    let b = keeps m q es a.sound h in
    record { sound = b.sound; books = b.books ∙ ap (book_after es) a.books; behind = ap₂ ◌++◌ a.behind b.behind; repairs = b.repairs }

-- ---- ends that are reached

-- what is held is a commit's transaction
abbrev in_commit : Holds → Bool
in_commit (holding t) = true
in_commit cut_off = false
in_commit (resuming r) = false

module _ (p staging : List ℕ) (ks : List Call) where
  -- an uncut way on from a run is a run
  pub uncut-runs : {n : ℕ} {h h' : Holds} {s s' : State} → Run p staging ks h s → Uncut p staging ks n h s h' s' → Run p staging ks h' s'
  uncut-runs r Uncut.here = r
  uncut-runs r (Uncut.onward m w) = uncut-runs (Run.next r m) w

  -- no call turns a commit into a recovery, or the other way; a seal that has reached memory has done so for good
  makes-keeps : {s s' : State} {h h' : Holds} → Makes p staging ks h s h' s' → (in_commit h' ≡ in_commit h) × (s.reached ≡ true → s'.reached ≡ true)
  makes-keeps (Makes.commit a) = (refl, λ i. i)
  makes-keeps (Makes.step {s = s} a) = (refl, reached-act (shape_in p) (entries p staging ks) _ s)
  makes-keeps (Makes.recover a) = (refl, λ i. i)
  makes-keeps (Makes.again {s = s} a) = (refl, reached-act (shape_in p) (entries p staging ks) _ s)

  uncut-keeps : {n : ℕ} {h h' : Holds} {s s' : State} → Uncut p staging ks n h s h' s' → (in_commit h' ≡ in_commit h) × (s.reached ≡ true → s'.reached ≡ true)
  uncut-keeps Uncut.here = (refl, λ i. i)
  uncut-keeps (Uncut.onward m w) = let a = makes-keeps m in let b = uncut-keeps w in (b.0 ∙ a.0, λ i. b.1 (a.1 i))

  abbrev Closed : Type 0
  Closed = (t : Transaction) × (s : State) × Run p staging ks (holding t) s × (t.phase ≡ closed)

  over_closed : (h : Holds) (s : State) → Run p staging ks h s → in_commit h ≡ true → Over h → Closed
  over_closed (holding t) s r c o = (t, s, r, o)
  over_closed cut_off s r c o = absurd o
  over_closed (resuming x) s r c o = absurd (let z : ◌≡◌ {A = ℕ} 0 1 = cc in omega arith)

  abbrev Finished : Bool → Type 0
  Finished b = (r : Recovery) × (s : State) × Run p staging ks (resuming r) s × (r.phase ≡ finished) × (s.reached ≡ b)

  over-finished : (b : Bool) (h : Holds) (s : State) → Run p staging ks h s → in_commit h ≡ false → Over h → s.reached ≡ b → Finished b
  over-finished b (holding t) s r c o e = absurd (let z : ◌≡◌ {A = ℕ} 0 1 = cc in omega arith)
  over-finished b cut_off s r c o e = absurd o
  over-finished b (resuming x) s r c o e = (x, s, r, o, e)

  module _ (sound : Sound p) (typed : AllTyped ks) where
    commits : staging_size ≤ length staging → Closed
    commits l =
        let w = (power-cut p staging ks sound typed).commits l in
        over_closed w.holds w.state (uncut-runs Run.begin w.way) (uncut-keeps w.way).0 w.over

    -- a recovery that is done at once leaves the state; any other follows a seal that has reached memory
    recovers : (s : State) → Run p staging ks cut_off s → Finished s.reached
    recovers s u =
        let i = restarted (record { pool = p; staging = staging; ks = ks; sound = sound; typed = typed }) s u in
        ⊎_elim (λ e. ((recovery_start (view s)).recovery, s, Run.next u (Makes.recover i.0), e, refl))
        (λ e. ⊎_elim (comes e.1) (comes e.1) ((power-cut p staging ks sound typed).recovers s u)) i.1
      where
        comes : s.reached ≡ true → {m : ℕ} → EndsIn p staging ks m cut_off s → Finished s.reached
        comes e w = let a = uncut-keeps w.way in over-finished s.reached w.holds w.state (uncut-runs u w.way) a.0 w.over (a.1 e ∙ sym e)

-- MANY TRANSACTIONS, ONE AFTER THE OTHER
pub history : Histories
history = record { keeps = keeps; commits = commits; recovers = recovers }
