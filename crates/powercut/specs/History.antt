-- Transactions one after the other: how each one ends, and what becomes of the book. Each begins on the pool that the one before left.
use Rattle.std.specs.Prelude.{◌≡◌, Bool, true, false, cond, List, [], ◌∷◌, ◌++◌, ℕ, ◌≤◌, length}
use Rattle.rules.specs.Shape.{staging_size}
use Rattle.rules.specs.Book.{Listed}
use Rattle.rules.specs.Staging.{Store, Transaction, closed}
use Rattle.rules.specs.Answer.{Answer}
use Rattle.rules.specs.Plan.{Call}
use Rattle.rules.specs.Calls.{AllTyped}
use Rattle.rules.specs.NewBook.{new_books}
use Rattle.rules.specs.Sound.{Sound, book_of}
use Rattle.rules.specs.Repair.{Loss, altered, differences, repair}
use Rattle.powercut.specs.Power.{State, view}
use Rattle.powercut.specs.Recovery.{Recovery, finished}
use Rattle.powercut.specs.WholeRun.{Run, cut_off, holding, made, resuming}

module _ (p staging : List ℕ) (ks : List Call) where
  -- One transaction on the pool p, with these calls, ended and left the pool q; `kept` tells whether its calls came into force. Its commit came
  -- to its end uncut; or it was cut, and a recovery came to its end: kept if a seal of that commit reached memory; or it was dropped, before
  -- its commit made a step.
  pub data Ending : (kept : Bool) → (q : List ℕ) → Type 0 where
    uncut : {t : Transaction} {s : State} → Run p staging ks (holding t) s → t.phase ≡ closed → Ending true (view s)
    recovered : {r : Recovery} {s : State} → Run p staging ks (resuming r) s → r.phase ≡ finished → Ending s.reached (view s)
    dropped : Ending false p

  -- The stores that no barrier and no cut has passed then.
  unfoldable pub pending : {kept : Bool} {q : List ℕ} → Ending kept q → List Store
  pending (uncut {s = s} r e) = s.pend
  pending (recovered {s = s} r e) = s.pend
  pending dropped = []

-- What a transaction was: its calls, their answers, and whether they came into force.
pub record Deed : Type 0 where
  pub calls : List Call
  pub answers : List Answer
  pub kept : Bool

-- The book after some transactions: each in turn, the new book if it was kept, else the book as it was.
unfoldable pub book_after : List Deed → List Listed → List Listed
book_after [] bk = bk
book_after (d ∷ ds) bk = book_after ds (cond d.kept (new_books d.calls d.answers bk) bk)

-- Transactions from the pool p to the pool q, each with lent staging memory of its own and any list of typed calls.
pub data History : List ℕ → List Deed → List ℕ → Type 0 where
  none : {p : List ℕ} → History p [] p
  next : {p q r staging : List ℕ} {ks : List Call} {kept : Bool} {ds : List Deed} → AllTyped ks → Ending p staging ks kept q → History q ds r
      → History p (record { calls = ks; answers = (made p staging ks).answers; kept = kept } ∷ ds) r

-- The stores of all of them that no barrier and no cut has passed.
unfoldable pub all_pending : {p q : List ℕ} {ds : List Deed} → History p ds q → List Store
all_pending none = []
all_pending (next {p} {staging = staging} {ks = ks} f e h) = pending p staging ks e ++ all_pending h

-- The pool that they leave: it is sound, its book is the one that arguments, answers and ends give, every store is behind a barrier or a cut,
-- and repair restores every byte.
pub record Kept {p q : List ℕ} {ds : List Deed} (h : History p ds q) : Type 0 where
  pub sound : Sound q
  pub books : book_of q ≡ book_after ds (book_of p)
  pub behind : all_pending h ≡ []
  pub repairs : (x ms : List ℕ) → Loss q x ms → repair x ms ≡ record { answer = altered (differences x q); pool = q }

-- MANY TRANSACTIONS, ONE AFTER THE OTHER
pub record Histories : Type 0 where
  -- From a sound pool, whatever the transactions and their ends.
  pub keeps : (p q : List ℕ) (ds : List Deed) → Sound p → (h : History p ds q) → Kept h
  -- With 2,032 bytes of staging memory every list of calls has an uncut end.
  pub commits : (p staging : List ℕ) (ks : List Call) → Sound p → AllTyped ks → staging_size ≤ length staging
      → (t : Transaction) × (s : State) × Run p staging ks (holding t) s × (t.phase ≡ closed)
  -- From every cut a recovery comes to an end, and it tells the same as the cut whether a seal had reached memory.
  pub recovers : (p staging : List ℕ) (ks : List Call) → Sound p → AllTyped ks → (s : State) → Run p staging ks cut_off s
      → (r : Recovery) × (s' : State) × Run p staging ks (resuming r) s' × (r.phase ≡ finished) × (s'.reached ≡ s.reached)
