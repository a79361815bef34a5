-- Requirements 1 and 2, one statement each; requirement 3's is `PowerCut` in specs/Claim. Assumes nothing.
use Rattle.std.specs.Prelude.{ℕ, ◌+◌, ◌-◌, ◌*◌, ◌%◌, ◌^◌, ◌<◌, ◌≡◌, true, false, List, [], length, drop, get_or, set}
use Rattle.std.proofs.Math.Option.{some}
use Rattle.rules.specs.Words.{Bytes}
use Rattle.rules.specs.Check.{check, modulus, total, updated, weighted}
use Rattle.rules.specs.Shape.{head_size, page_size}
use Rattle.rules.specs.Header.{page_at, shape_in, valid_header}
use Rattle.rules.specs.Book.{Listed, find}
use Rattle.rules.specs.Zones.{good_from, head_at, pool_book}
use Rattle.rules.specs.Staging.{lay}
use Rattle.rules.specs.Answer.{After, Changed, Given, is_refused}
use Rattle.rules.specs.Plan.{Call, allocate, release, write}
use Rattle.rules.specs.Calls.{AllTyped, call}
use Rattle.rules.specs.Parity.{Parity}
use Rattle.rules.specs.Sound.{Sound, book_of}
use Rattle.rules.specs.Look.{look, part, seen}
use Rattle.rules.specs.Repair.{Loss, altered, differences, refused, repair}
use Rattle.rules.specs.Mend.{mend_header}
use Rattle.rules.specs.Scrub.{counts, scrub}
use Rattle.rules.specs.Format.{formatted}
use Rattle.powercut.specs.Commit.{commit_on, commit_start, commit_step}
use Rattle.powercut.specs.Recovery.{Recovery, RecoveryAfter, recovery_on, recovery_start, recovery_step}
use Rattle.powercut.specs.WholeRun.{entries}
use Rattle.powercut.specs.Claim.{Commits, new}

-- ---- Requirement 1: a refused call changes nothing in the pool, the staging memory or the transaction.

-- A call on a pool, a transaction with its pool and staging memory, or a recovery with its pool: if refused, all is as given.
abbrev pub KeepsPool : List ℕ → Changed → Type 0
KeepsPool p x = is_refused x.answer ≡ true → x.pool ≡ p

abbrev pub KeepsGiven : Given → After → Type 0
KeepsGiven g x = is_refused x.answer ≡ true → x.left ≡ g

abbrev pub KeepsRecovery : List ℕ → Recovery → RecoveryAfter → Type 0
KeepsRecovery p r x = is_refused x.answer ≡ true → (x.pool ≡ p) × (x.recovery ≡ r)

-- REQUIREMENT 1, for all inputs. Look, its companion, scrub, poolscan and the beginning of a transaction are given the pool to read only; the
-- start of a recovery is given no record.
pub record Requirement1 : Type 0 where
  pub formats : (p : List ℕ) (R C Z id : ℕ) → KeepsPool p (formatted p R C Z id)
  pub mends : (p : List ℕ) → KeepsPool p (mend_header p)
  pub repairs : (p masks : List ℕ) (n : ℕ) → (repair p masks).answer ≡ refused n → (repair p masks).pool ≡ p
  pub allocates : (g : Given) (tag : ℕ) (body : List ℕ) → KeepsGiven g (call g (allocate tag body))
  pub writes : (g : Given) (a at : ℕ) (bytes : List ℕ) → KeepsGiven g (call g (write a at bytes))
  pub frees : (g : Given) (a : ℕ) → KeepsGiven g (call g (release a))
  pub starts : (g : Given) → KeepsGiven g (commit_start g)
  pub steps : (g : Given) → KeepsGiven g (commit_step g)
  pub advances : (g : Given) → KeepsGiven g (commit_on g)
  pub restarts : (p : List ℕ) → is_refused (recovery_start p).answer ≡ true → (recovery_start p).pool ≡ p
  pub resumes : (p : List ℕ) (r : Recovery) → KeepsRecovery p r (recovery_step p r)
  pub readvances : (p : List ℕ) (r : Recovery) → KeepsRecovery p r (recovery_on p r)

-- ---- Requirement 2: what is staged becomes exactly those pool bytes, and those bytes read back as exactly those objects.

-- Both headers of q are valid and equal, and behind them q is p.
pub record Mended (p q : List ℕ) : Type 0 where
  pub header : valid_header q 0 ≡ true
  pub copy : valid_header q page_size ≡ true
  pub equal : page_at q 0 ≡ page_at q page_size
  pub rest : drop (2 * page_size) q ≡ drop (2 * page_size) p

-- REQUIREMENT 2. What it asks of calls, records, staging memory and damage is in `Run` and `Sound`.
pub record Requirement2 : Type 0 where
  -- An uncut commit makes exactly the steps of the list, the staged words are in the data rows, and look gives the new book.
  pub commits : Commits
  -- In a sound pool look gives the body of each object of the book, at its place, and refuses any other address.
  pub listed : (p : List ℕ) → Sound p → (a : ℕ) (e : Listed) → find a (book_of p) ≡ some e
      → (look p a ≡ part (head_at (shape_in p) a + head_size) (length e.body)) × (seen p (look p a) ≡ e.body)
  pub unlisted : (p : List ℕ) → Sound p → (a at n : ℕ) → look p a ≡ part at n → (e : Listed) × (find a (book_of p) ≡ some e)
  -- After any list of calls the pool as staged has no broken zone and no damaged object, and its book is the new one.
  pub staged : (pool staging : List ℕ) (ks : List Call) → Sound pool → AllTyped ks
      → (good_from (shape_in pool) (lay pool (entries pool staging ks)) 0 (shape_in pool).zones ≡ true)
      × (pool_book (shape_in pool) (lay pool (entries pool staging ks)) ≡ new pool staging ks)
  -- Repair restores every byte after any loss of at most one page a column, whatever the lost pages hold; so also a cut repair, repeated. It
  -- answers how many bytes it altered.
  pub repairs : (p q masks : List ℕ) → Sound p → Loss p q masks → repair q masks ≡ record { answer = altered (differences q p); pool = p }
  -- A format that is not refused leaves a sound pool with an empty book.
  pub formats : (p : List ℕ) (R C Z id : ℕ) → id < 2 ^ 64 → is_refused (formatted p R C Z id).answer ≡ false
      → Sound (formatted p R C Z id).pool × (book_of (formatted p R C Z id).pool ≡ [])
  -- Header mending that is not refused leaves both headers valid and equal, and the rest as it was.
  pub mends : (p : List ℕ) → is_refused (mend_header p).answer ≡ false → Mended p (mend_header p).pool
  -- The check is two sums modulo 65521; the updated check is the check of the whole new bytes.
  pub checks : (bs : List ℕ) → Bytes bs → check bs ≡ (length bs + weighted bs) % modulus * 65536 + (1 + total bs) % modulus
  pub updates : (bs : List ℕ) (i v : ℕ) → Bytes bs → v < 256 → i < length bs → check (set bs i v) ≡ updated (check bs) (length bs - i) (get_or bs i 0) v
  -- Scrub of a sound pool counts its objects and three zeros; three zeros mean that no zone is broken, no object damaged and all parity right.
  pub scrubs : (p : List ℕ) → Sound p → scrub p ≡ counts (length (book_of p)) 0 0 0
  pub scrubbed : (p : List ℕ) (n : ℕ) → scrub p ≡ counts n 0 0 0 → (good_from (shape_in p) p 0 (shape_in p).zones ≡ true) × Parity (shape_in p) p
