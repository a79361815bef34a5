-- Begin, allocate, write and free (01, "Transactions" and the refusals): the answer, and every byte of pool, staging and record afterwards.
-- Assumes nothing.
use Rattle.std.specs.Prelude.{ℕ, ◌^◌, ◌<◌, not, List, [], ◌∷◌, ◌++◌, length, ltb}
use Rattle.std.proofs.Math.Option.{Option, none, some}
use Rattle.std.proofs.lemmas.List.Edits.{sets}
use Rattle.rules.specs.Words.{Bytes}
use Rattle.rules.specs.Shape.{entry_limit, staging_size}
use Rattle.rules.specs.Test.{Test, first, when}
use Rattle.rules.specs.Header.{id_in, id_test, open_tests, shape_in}
use Rattle.rules.specs.Seals.{read_tests, seal_test}
use Rattle.rules.specs.Staging.{Store, Transaction, entries_at, entry_bytes, fresh, impossible, is_live, lay, live, unusable}
use Rattle.rules.specs.Answer.{After, Answer, Given, conclude, refused, taken}
use Rattle.rules.specs.Plan.{Call, Plan, allocate, plan, release, write}

-- ---- The beginning.

-- What it answers, and the record that it hands back.
pub record TransactionStart : Type 0 where
  pub answer : Answer
  pub txn : Transaction

unfoldable pub conclude_start : Option ℕ → Transaction → TransactionStart
conclude_start none t = record { answer = taken; txn = t }
conclude_start (some n) t = record { answer = refused n; txn = unusable }

-- A transaction begun on a pool: a fresh record with its id; or the first of 2, 3, 4, 2, 21.
unfoldable pub transaction_start : List ℕ → TransactionStart
transaction_start p = conclude_start (first (read_tests p)) (fresh (id_in p))

-- ---- A call.

-- The entries of a transaction.
unfoldable pub entries_in : Given → List Store
entries_in g = entries_at g.staging 0 g.txn.count

-- What every call that takes a transaction meets first: 2, 3, 4, 2; 9 staging under 2,032 bytes; 10 record impossible; 11 record of another
-- pool.
unfoldable pub record_tests : Given → List Test
record_tests g =
    open_tests g.pool ++ (when (ltb (length g.staging) staging_size) 9
    ∷ when (impossible (shape_in g.pool) g.staging g.txn.count g.txn.phase) 10
    ∷ id_test g.txn.id g.pool
    ∷ [])

-- 29 not open; 21 a seal is not zero.
unfoldable pub live_tests : Given → List Test
live_tests g = when (not (is_live g.txn.phase)) 29 ∷ seal_test g.pool ∷ []

-- 27 more than 127 distinct words touched.
unfoldable pub call_tests : Given → Plan → List Test
call_tests g p = record_tests g ++ (live_tests g ++ (p.tests ++ (when (ltb entry_limit (length p.entries)) 27 ∷ [])))

-- The entries stored into staging; bytes beyond them stay.
unfoldable pub staged : Given → List Store → Given
staged g es = record { pool = g.pool; staging = sets g.staging 0 (entry_bytes es); txn = record { id = g.txn.id; count = length es; phase = live } }

-- One call. It sees the words staged by earlier ones.
unfoldable pub call : Given → Call → After
call g k =
    let p : Plan = plan (shape_in g.pool) (lay g.pool (entries_in g)) (entries_in g) k in
    conclude g (first (call_tests g p)) (record { answer = p.answer; left = staged g p.entries })

-- Any list of calls: the answers in order, and what is left.
pub record Calls : Type 0 where
  pub answers : List Answer
  pub left : Given

unfoldable pub calls : Given → List Call → Calls
calls g [] = record { answers = []; left = g }
calls g (k ∷ ks) =
    let a : After = call g k in
    let r : Calls = calls a.left ks in
    record { answers = a.answer ∷ r.answers; left = r.left }

-- A transaction begun, over a pool and lent staging memory.
unfoldable pub begun : List ℕ → List ℕ → Given
begun pool staging = record { pool = pool; staging = staging; txn = (transaction_start pool).txn }

-- What the code's types give of a call's arguments: a tag of 4 bytes, bytes.
abbrev pub Typed : Call → Type 0
Typed (allocate t b) = (t < 2 ^ 32) × Bytes b
Typed (write a o xs) = Bytes xs
Typed (release a) = Unit {0}

abbrev pub AllTyped : List Call → Type 0
AllTyped [] = Unit {0}
AllTyped (k ∷ ks) = Typed k × AllTyped ks
