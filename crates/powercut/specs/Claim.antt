-- Requirement 3, one claim about a whole run; and what requirement 2 says of an uncut commit.
use Rattle.std.specs.Prelude.{◌≡◌, ◌≢◌, ◌⊎◌, Bool, true, false, List, [], ℕ, suc, ◌+◌, ◌*◌, ◌≤◌, ◌<◌, length, get_or}
use Rattle.std.proofs.Math.Option.{none, some}
use Rattle.rules.specs.Shape.{Shape, log_a, pool_size, row, staging_size, zones_at}
use Rattle.rules.specs.Header.{shape_in}
use Rattle.rules.specs.Book.{Listed, find}
use Rattle.rules.specs.Staging.{Store, Transaction, closed, commit_length, committing, lay, live}
use Rattle.rules.specs.Plan.{Call}
use Rattle.rules.specs.Calls.{AllTyped, transaction_start}
use Rattle.rules.specs.NewBook.{new_books}
use Rattle.rules.specs.Answer.{Answer, Given}
use Rattle.rules.specs.Seals.{unsealed}
use Rattle.rules.specs.Parity.{Parity}
use Rattle.rules.specs.Sound.{Sound, book_of}
use Rattle.rules.specs.Look.{look, part, seen}
use Rattle.rules.specs.Repair.{Loss, altered, differences, repair}
use Rattle.powercut.specs.Steps.{Step, commit_steps, steps_made}
use Rattle.powercut.specs.Power.{State, act, view}
use Rattle.powercut.specs.Commit.{commit_list, commit_next, commit_start, commit_step}
use Rattle.powercut.specs.Recovery.{Recovery, finished, recovering, recovery_list, recovery_next, recovery_start, recovery_step}
use Rattle.powercut.specs.WholeRun.{Accepted, Holds, Run, Uncut, at_first, cut_off, entries, holding, made, meets, resuming}

-- The data rows of p are those of q.
abbrev pub SameData : Shape → List ℕ → List ℕ → Type 0
SameData sh p q = (i : ℕ) → zones_at sh ≤ i → i < pool_size sh → row sh i < sh.rows → get_or p i 0 ≡ get_or q i 0

-- The staged words laid over the old bytes, or the old bytes.
abbrev pub staged_or_old : Bool → List ℕ → List Store → List ℕ
staged_or_old true p es = lay p es
staged_or_old false p es = p

-- The commit, or the recovery, is over.
abbrev pub Over : Holds → Type 0
Over (holding t) = t.phase ≡ closed
Over cut_off = ⊥
Over (resuming r) = r.phase ≡ finished

module _ (pool staging : List ℕ) (ks : List Call) where
  -- The pool's shape, the n entries that the calls staged, a run, and what a call of the commit is given.
  abbrev pub sh : Shape
  sh = shape_in pool

  abbrev pub es : List Store
  es = entries pool staging ks

  abbrev pub n : ℕ
  n = length es

  abbrev pub Runs : Holds → State → Type 0
  Runs = Run pool staging ks

  abbrev pub given : Transaction → State → Given
  given t s = meets pool staging ks s t

  -- Old is the book of the sound pool at the start; new is worked out from old by the calls' arguments and answers.
  abbrev pub new : List Listed
  new = new_books ks (made pool staging ks).answers (book_of pool)

  abbrev pub old_or_new : Bool → List Listed
  old_or_new true = new
  old_or_new false = book_of pool

  -- An end, all old or all new. Every store has reached memory; the pool is sound; its book is the old or the new one; repair restores every
  -- byte after any loss of at most one page a column. And the bytes: header pages as at the start, data rows the old ones or these with the
  -- staged words, both seals zero; parity is right, so that this is every byte but the logs' entries.
  pub record End (s : State) (is_new : Bool) : Type 0 where
    pub behind : s.pend ≡ []
    pub sound : Sound (view s)
    pub books : book_of (view s) ≡ old_or_new is_new
    pub repairs : (q ms : List ℕ) → Loss (view s) q ms → repair q ms ≡ record { answer = altered (differences q (view s)); pool = view s }
    pub size : length (view s) ≡ length pool
    pub headers : (i : ℕ) → i < log_a sh → get_or (view s) i 0 ≡ get_or pool i 0
    pub data-rows : SameData sh (view s) (staged_or_old is_new pool es)
    pub seals : unsealed sh (view s) ≡ true
    pub parity : Parity sh (view s)

  -- Step k of a list of m is not refused, and the pool that it leaves is the one that the next call meets.
  pub record StepTaken (answer : Answer) (left : List ℕ) (s : State) (x : Step) (k : ℕ) (list : List Step) (m : ℕ) : Type 0 where
    pub accepted : Accepted answer
    pub leaves : left ≡ view (act sh es x s)
    pub inside : k < length list
    pub count : length list ≡ m

  -- From here m calls, uncut, lead to the end of the commit or of the recovery.
  pub record EndsIn (m : ℕ) (h : Holds) (s : State) : Type 0 where
    pub holds : Holds
    pub state : State
    pub way : Uncut pool staging ks m h s holds state
    pub over : Over holds

  pub record Requirement3 : Type 0 where
    -- The transaction is begun.
    pub begins : Accepted (transaction_start pool).answer
    -- An uncut commit leaves the pool sound and all new.
    pub uncut : (t : Transaction) (s : State) → Runs (holding t) s → t.phase ≡ closed → End s true
    -- A recovery that ends leaves it sound, all old if no seal of that commit reached memory, else all new.
    pub recovered : (r : Recovery) (s : State) → Runs (resuming r) s → r.phase ≡ finished → End s s.reached
    -- With less staging memory every call is refused, and so is the start: new is old.
    pub short : length staging < staging_size → new ≡ book_of pool
    -- The commit starts, and meets no refusal until its end, 6n + 9 steps on.
    pub starts : (t : Transaction) (s : State) → Runs (holding t) s → t.phase ≡ live → staging_size ≤ length staging → Accepted (commit_start (given t s)).answer
    pub steps : (t : Transaction) (s : State) (k : ℕ) → Runs (holding t) s → t.phase ≡ committing k
        → StepTaken (commit_step (given t s)).answer (commit_step (given t s)).left.pool s (commit_next (given t s)) k (commit_list (given t s)) (6 * n + 9)
    -- After any cut a recovery starts; it is done at once or has 2n + 5 steps, and it meets no refusal until its end.
    pub restarts : (s : State) → Runs cut_off s
        → Accepted (recovery_start (view s)).answer
        × (((recovery_start (view s)).recovery.phase ≡ finished) ⊎ ((recovery_start (view s)).recovery.phase ≡ recovering 0))
    pub resumes : (r : Recovery) (s : State) (k : ℕ) → Runs (resuming r) s → r.phase ≡ recovering k
        → StepTaken (recovery_step (view s) r).answer (recovery_step (view s) r).pool s (recovery_next (view s) r) k (recovery_list (view s) r) (2 * n + 5)
    -- So a commit that is not cut ends: from the calls' end, its start and 6n + 9 steps, or none if it is empty. And so does a recovery that is
    -- not cut: from every cut state, its start and none or 2n + 5 steps.
    pub commits : staging_size ≤ length staging → EndsIn (suc (commit_length n)) (holding (made pool staging ks).left.txn) (at_first pool staging ks)
    pub recovers : (s : State) → Runs cut_off s → EndsIn (suc 0) cut_off s ⊎ EndsIn (suc (2 * n + 5)) cut_off s

  -- What is staged becomes exactly those pool bytes, and those bytes read back as exactly those objects.
  pub record Committed (s : State) : Type 0 where
    -- every byte: the steps of the list, in order
    pub bytes : view s ≡ steps_made sh (commit_steps sh es) pool
    -- in the data rows: the staged words over the old bytes
    pub data-rows : SameData sh (view s) (lay pool es)
    -- look gives the body of each object of the new book, and refuses any other address
    pub listed : (a : ℕ) (e : Listed) → find a new ≡ some e → seen (view s) (look (view s) a) ≡ e.body
    pub unlisted : (a : ℕ) → find a new ≡ none → (at m : ℕ) → look (view s) a ≢ part at m

-- REQUIREMENT 2 for commit and look
abbrev pub Commits : Type 0
Commits = (pool staging : List ℕ) (ks : List Call) → Sound pool → AllTyped ks
    → (t : Transaction) (s : State) → Run pool staging ks (holding t) s → t.phase ≡ closed → Committed pool staging ks s

-- REQUIREMENT 3
abbrev pub PowerCut : Type 0
PowerCut = (pool staging : List ℕ) (ks : List Call) → Sound pool → AllTyped ks → Requirement3 pool staging ks
