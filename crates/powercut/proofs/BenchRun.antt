-- A whole run on a small pool, worked out: the books, the run's first states, and what the claim says of its bytes and numbers. Each is
-- computed, and this file is checked first: a slip in the claim meets a number here before any proof. Assumes nothing.
--
--   R 1, C 1, Z 1, 5,120 bytes: log A at 512, row 0 at 4608: 3 free cells, then an object, which is freed
use Prim.Native.Nat.{ℕ}
use mathlib.Core.Path.{◌≡◌, refl}
use mathlib.Core.Logic.{◌⊎◌}
use mathlib.Core.Bool.{true, false}
use mathlib.Core.List.Sublistᴰ
use mathlib.Core.List.{List, [], ◌∷◌, ◌++◌}
use native.Mathlib.Omega.{arith}
use lib.ListN.{length, get_or, replicate}
use Rattle.rules.specs.Words.{all_zero, ascii, digits, field, number, put, word}
use Rattle.rules.specs.Check.{check, high, low, reduced}
use Rattle.rules.specs.Shape.{Shape, pool_size, row, zone_at, zone_cells}
use Rattle.rules.specs.Test.{first}
use Rattle.rules.specs.Header.{differing, header_bytes, header_front, header_id, header_ok, header_shape, id_in, in_range, open_tests, page_at, same, shape_in, valid_header, within}
use Rattle.rules.specs.Runs.{cells_for, check_run, fits, free_head, free_ok, good_in, head_bytes, next_run, object_bytes, object_ok, onward, read_run, run_of, walk, zone_walk}
use Rattle.rules.specs.Book.{book, strike}
use Rattle.rules.specs.Search.{joined, run_at}
use Rattle.rules.specs.Zones.{book_from, is_damaged, is_object, object_tests, pool_book, run_there, walk_in, zone_data}
use Rattle.rules.specs.Sound.{book_of}
use Rattle.rules.specs.Seals.{read_tests, unsealed}
use Rattle.rules.specs.Staging.{Phase, Store, Transaction, commit_length, committing, impossible, is_live, lay, live, past_commit, touch, touch_words}
use Rattle.rules.specs.Answer.{conclude, is_refused, refused}
use Rattle.rules.specs.Plan.{Call, joined_at, plan, release, touch_free, touch_joined}
use Rattle.rules.specs.Calls.{begun, call, call_tests, calls, conclude_start, entries_in, live_tests, record_tests, staged, transaction_start}
use Rattle.rules.specs.NewBook.{new_book, new_books, on_taken}
use Rattle.powercut.specs.Log.{seal_of}
use Rattle.powercut.specs.Steps.{commit_steps, log_stores, redo}
use Rattle.powercut.specs.Power.{State, act, is_seal, keep, view}
use Rattle.powercut.specs.Commit.{commit_list, commit_more, commit_next, commit_on, commit_start, commit_step, commit_tests, is_committing, is_stored, next_phase, place_in, start_answer, start_phase, step_answer, made_answer}
use Rattle.powercut.specs.Recovery.{Recovery, recovering, recovery_list}
use Rattle.powercut.specs.WholeRun.{Accepted, Run, begin, commit, cut, cut_off, entries, holding, made, meets, next, resuming, step}
use Rattle.powercut.specs.Claim.{End, EndsIn, Requirement3, old_or_new}
use Rattle.powercut.specs.Advance.{Moment, RunOn, acts, between, number_in}

-- Each definition that the run goes through, opened at once.
unfoldable pub opened : Unit {0}
unfolding number digits field word put reduced low high check pool_size zone_cells zone_at row first same within in_range header_front header_bytes page_at header_shape header_id header_ok valid_header shape_in id_in differing open_tests cells_for free_ok object_ok all_zero good_in run_of read_run fits check_run next_run onward walk zone_walk head_bytes free_head object_bytes book strike joined run_at zone_data walk_in book_from pool_book book_of is_object is_damaged run_there object_tests unsealed read_tests touch touch_words commit_length past_commit is_live impossible conclude is_refused touch_free joined_at touch_joined plan entries_in conclude_start transaction_start record_tests live_tests call_tests staged call calls begun on_taken new_book new_books seal_of commit_steps redo act keep is_seal commit_list commit_next commit_start commit_step commit_tests is_committing next_phase place_in start_answer start_phase step_answer made_answer made entries is_stored commit_more commit_on between number_in acts
opened = tt

abbrev pub sh : Shape
sh = record { page = 256; rows = 1; cols = 1; zones = 1 }

abbrev row0 : List ℕ
row0 = free_head 3 ++ (replicate 176 0 ++ object_bytes 5 (ascii "a"))

-- With one data row the parity row repeats it.
abbrev pub pool : List ℕ
pool = header_bytes sh 1 ++ (header_bytes sh 1 ++ (replicate 4096 0 ++ (row0 ++ row0)))

abbrev pub staging : List ℕ
staging = replicate 2032 0

-- The object freed.
abbrev pub ks : List Call
ks = release 3 ∷ []

-- Old lists the object, new does not.
pub books : (old_or_new pool staging ks false ≡ record { addr = 3; tag = 5; body = ascii "a" } ∷ []) × (old_or_new pool staging ks true ≡ [])
unfolding opened
books = (refl, refl)

abbrev state : List Store → State
state p = record { base = pool; pend = p; reached = false }

abbrev pub txn : Phase → Transaction
txn ph = record { id = 1; count = 2; phase = ph }

-- The run begins with no store pending and no seal; its start makes no store.
pub run-begins : Run pool staging ks (holding (txn live)) (state [])
unfolding opened
run-begins = begin

pub run-starts : Run pool staging ks (holding (txn (committing 0))) (state [])
unfolding opened
run-starts = next begin (commit refl)

-- The first step: the target of the first entry, into log A.
abbrev stored : Store
stored = record { at = 528; val = 4608 }

pub run-steps : Run pool staging ks (holding (txn (committing 1))) (state (stored ∷ []))
unfolding opened
run-steps = next run-starts (step refl)

-- A cut that loses the store leaves the pool as it was.
pub run-cut : Run pool staging ks cut_off (state [])
unfolding opened
run-cut = cut {kept = []} run-steps (Sublistᴰ.cons Sublistᴰ.slnil)

-- By calls up to the next barrier: the first one makes 9 steps, all entries in both logs, and a barrier.
abbrev passed : State
passed = record { base = lay pool (log_stores sh 0 (entries pool staging ks)); pend = []; reached = false }

pub run_on : RunOn pool staging ks (holding (txn (committing 9))) passed
unfolding opened
run_on = RunOn.on (RunOn.next RunOn.begin (commit refl)) refl

-- The power can be cut inside it, as after its first step, and after its last.
pub moments : Moment pool staging ks (holding (txn (committing 0))) (state []) (state (stored ∷ [])) × Moment pool staging ks (holding (txn (committing 0))) (state []) passed
unfolding opened
moments = (Moment.commits {t = txn (committing 0)} {s = state []} {j = 1} refl (omega arith), Moment.commits {t = txn (committing 0)} {s = state []} {j = 9} refl (omega arith))

pub run-cut-inside : RunOn pool staging ks cut_off (state [])
unfolding opened
run-cut-inside = RunOn.cut_inside {kept = []} (RunOn.next RunOn.begin (commit refl)) moments.0 (Sublistᴰ.cons Sublistᴰ.slnil)

-- A refused step is none of the run.
pub refused-not-accepted : (n : ℕ) → Accepted (refused n) → true ≡ false
unfolding is_refused
refused-not-accepted n e = e

-- ---- What the claim says of this run: two entries, 21 steps of the commit, 9 of a recovery; the joined run has 4 cells.

pub commit-length : Requirement3 pool staging ks → (t : Transaction) (s : State) (k : ℕ) → Run pool staging ks (holding t) s → t.phase ≡ committing k
    → length (commit_list (meets pool staging ks s t)) ≡ 21
unfolding opened
commit-length r t s k run e = (r.steps t s k run e).count

pub recovery-length : Requirement3 pool staging ks → (r : Recovery) (s : State) (k : ℕ) → Run pool staging ks (resuming r) s → r.phase ≡ recovering k
    → length (recovery_list (view s) r) ≡ 9
unfolding opened
recovery-length c r s k run e = (c.resumes r s k run e).count

-- So the start and 21 steps end the commit; from a cut state the start, or the start and 9 steps, end a recovery.
pub commit-calls : Requirement3 pool staging ks → EndsIn pool staging ks 22 (holding (txn live)) (state [])
unfolding opened
commit-calls r = r.commits (omega arith)

pub recovery-calls : Requirement3 pool staging ks → (s : State) → Run pool staging ks cut_off s → EndsIn pool staging ks 1 cut_off s ⊎ EndsIn pool staging ks 10 cut_off s
unfolding opened
recovery-calls r s run = r.recovers s run

-- All new has the joined run of 4 cells, all old the free run of 3.
pub joined-cells : (s : State) → End pool staging ks s true → get_or (view s) 4610 0 ≡ 4
unfolding opened
joined-cells s c = c.data-rows 4610 (omega arith) (omega arith) (omega arith)

pub old-cells : (s : State) → End pool staging ks s false → get_or (view s) 4610 0 ≡ 3
unfolding opened
old-cells s c = c.data-rows 4610 (omega arith) (omega arith) (omega arith)
