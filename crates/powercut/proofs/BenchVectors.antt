-- Worked examples of the steps, the logs, the power model and the refusals of commit and recovery: each states what a definition gives on a
-- small pool, and is proved by computing it. The seals were worked out apart from the definitions (Adler-32). Assumes nothing.
--
--   page 16, R 2, C 1, Z 1, 336 bytes: log A at 32, log B at 160, row 0 at 288, row 1 at 304, the parity row at 320
use Prim.Native.Nat.{ℕ}
use mathlib.Core.Path.{◌≡◌, refl}
use mathlib.Core.Bool.{Bool, true, false}
use mathlib.Core.List.{List, [], ◌∷◌, ◌++◌}
use lib.ListN.{length, replicate, take}
use Rattle.rules.specs.Words.{digits, field, number, put, word}
use Rattle.rules.specs.Check.{check, high, low, reduced}
use Rattle.rules.specs.Shape.{Shape, byte_at, off, pool_size, row, row_at, zone, zone_cells}
use Rattle.rules.specs.Parity.{parity_word, xor_to}
use Rattle.rules.specs.Test.{first}
use Rattle.rules.specs.Header.{differing, header_bytes, header_front, header_id, header_ok, header_shape, id_in, in_range, open_tests, page_at, same, shape_in, valid_header, within}
use Rattle.rules.specs.Runs.{free_head, head_bytes}
use Rattle.rules.specs.Format.{fresh_pool, fresh_zone, fresh_zones}
use Rattle.rules.specs.Seals.{unsealed}
use Rattle.rules.specs.Staging.{Phase, Store, closed, commit_length, committing, entry_bytes, impossible, is_live, lay, live, past_commit}
use Rattle.rules.specs.Answer.{Given, conclude, done, passed, refused, started, stored}
use Rattle.rules.specs.Calls.{entries_in, live_tests, record_tests}
use Rattle.powercut.specs.Log.{check_in, count_in, from_a, from_b, log_entries, mark_in, seal_of, valid}
use Rattle.powercut.specs.Steps.{Step, barrier, clear, commit_steps, log_stores, neither, nothing, parity, recovery_steps, redo, remedy, replay, step_pool, steps_made, store}
use Rattle.powercut.specs.Power.{State, act, is_seal, keep, view}
use Rattle.powercut.specs.Commit.{commit_list, commit_more, commit_next, commit_on, commit_start, commit_step, commit_tests, is_committing, is_stored, made_answer, next_phase, place_in, start_answer, start_phase, step_answer}
use Rattle.powercut.specs.Recovery.{Recovery, conclude_recovery, count_above, done_steps, finished, impossible_recovery, is_recovering, log_lost, next_progress, recovering, recovery_list, recovery_more, recovery_next, recovery_on, recovery_start, recovery_step, recovery_tests, start_recovery}
use Rattle.powercut.specs.Advance.{between, commit_barrier, commit_made, recovery_barrier, recovery_made, redo_barrier}

abbrev tiny : Shape
tiny = record { page = 16; rows = 2; cols = 1; zones = 1 }

abbrev at : ℕ → ℕ → Store
at a w = record { at = a; val = w }

-- An entry for the first word of row 0, and one for the second of row 1.
abbrev entry : Store
entry = at 288 0x0102030405060708

abbrev one : List Store
one = entry ∷ []

abbrev two : List Store
two = entry ∷ at 312 0xFF ∷ []

-- Their seals.
abbrev seal1 : ℕ
seal1 = 0xA51C000102EB0046

abbrev seal2 : ℕ
seal2 = 0xA51C000212D2017E

-- ---- The seal: check (4 bytes), count (2), mark (2).

pub seals-computed : (seal_of one ≡ seal1) × (seal_of two ≡ seal2)
unfolding seal_of check low high reduced digits
seals-computed = (refl, refl)

pub seal-read : (mark_in seal2 ≡ 0xA51C) × (count_in seal2 ≡ 2) × (check_in seal2 ≡ 0x12D2017E)
unfolding mark_in count_in check_in
seal-read = (refl, refl, refl)

-- ---- The steps.

-- Parts 3 to 5 of one entry: 7 steps.
pub redo-one : redo tiny one
    ≡ store entry ∷ barrier ∷ parity entry ∷ barrier ∷ store (at 32 0) ∷ store (at 160 0) ∷ barrier ∷ []
unfolding redo
redo-one = refl

-- A commit of one entry: 15 steps.
pub commit-one : commit_steps tiny one
    ≡ store (at 48 288) ∷ store (at 56 0x0102030405060708) ∷ store (at 176 288) ∷ store (at 184 0x0102030405060708) ∷ barrier
    ∷ store (at 32 seal1) ∷ store (at 160 seal1) ∷ barrier
    ∷ store entry ∷ barrier ∷ parity entry ∷ barrier ∷ store (at 32 0) ∷ store (at 160 0) ∷ barrier ∷ []
unfolding commit_steps redo seal_of check low high reduced digits
commit-one = refl

-- The second entry stands 16 bytes on in either log.
pub log-two : log_stores tiny 0 two
    ≡ at 48 288 ∷ at 56 0x0102030405060708 ∷ at 176 288 ∷ at 184 0x0102030405060708
    ∷ at 64 312 ∷ at 72 0xFF ∷ at 192 312 ∷ at 200 0xFF ∷ []
log-two = refl

-- 6n + 9 steps for two entries, none for none.
pub commit-lengths : (length (commit_steps tiny two) ≡ 21) × (commit_steps tiny [] ≡ [])
unfolding commit_steps redo
commit-lengths = (refl, refl)

-- ---- The pool's bytes after a step.

-- All zero but for a word of row 1, in the column of the entry.
abbrev pool : List ℕ
pool = lay (replicate 336 0) (at 304 0xFF00FF00FF00FF00 ∷ [])

-- A store changes one word, a barrier none.
pub store-made : (word (step_pool tiny (store entry) pool) 288 ≡ 0x0102030405060708) × (step_pool tiny barrier pool ≡ pool)
unfolding digits put word field number
store-made = (refl, refl)

-- The parity word is the exclusive or of both rows, in the parity row; made again, it is the same.
pub parity-made : (word (step_pool tiny (parity entry) (lay pool one)) 320 ≡ 0xFE02FC04FA06F808)
    × (step_pool tiny (parity entry) (step_pool tiny (parity entry) (lay pool one)) ≡ step_pool tiny (parity entry) (lay pool one))
unfolding digits put word field number parity_word xor_to byte_at row off zone row_at
parity-made = (refl, refl)

-- A whole commit: the entry's word, its parity word, both seals zero again, the logs' entries left.
pub commit-made : steps_made tiny (commit_steps tiny one) pool
    ≡ lay pool (log_stores tiny 0 one ++ (entry ∷ at 320 0xFE02FC04FA06F808 ∷ []))
unfolding commit_steps redo seal_of check low high reduced steps_made digits put word field number parity_word xor_to byte_at row off zone row_at
commit-made = refl

-- ---- Power.

abbrev state : List ℕ → List Store → Bool → State
state b p r = record { base = b; pend = p; reached = r }

-- A store is pending; a parity word too, worked out from the pool that the pending stores leave.
pub store-pending : act tiny one (store entry) (state pool (at 8 5 ∷ []) false) ≡ state pool (at 8 5 ∷ entry ∷ []) false
unfolding act
store-pending = refl

pub parity-pending : act tiny one (parity entry) (state pool one false) ≡ state pool (entry ∷ at 320 0xFE02FC04FA06F808 ∷ []) false
unfolding act digits put word field number parity_word xor_to byte_at row off zone row_at
parity-pending = refl

-- A barrier passes all that is pending, the later store over the earlier one.
abbrev bytes : List ℕ
bytes = replicate 24 9

pub barrier-passes : act tiny one barrier (state bytes (at 0 1 ∷ at 8 2 ∷ at 0 3 ∷ []) false)
    ≡ state (3 ∷ 0 ∷ 0 ∷ 0 ∷ 0 ∷ 0 ∷ 0 ∷ 0 ∷ 2 ∷ 0 ∷ 0 ∷ 0 ∷ 0 ∷ 0 ∷ 0 ∷ 0 ∷ replicate 8 9) [] false
unfolding act keep is_seal digits put seal_of check low high reduced
barrier-passes = refl

-- A cut keeps some of it.
pub cut_keeps : keep tiny one (state bytes (at 0 1 ∷ at 8 2 ∷ at 0 3 ∷ []) false) (at 8 2 ∷ [])
    ≡ state (replicate 8 9 ++ (2 ∷ 0 ∷ 0 ∷ 0 ∷ 0 ∷ 0 ∷ 0 ∷ 0 ∷ replicate 8 9)) [] false
unfolding keep is_seal digits put seal_of check low high reduced
cut_keeps = refl

-- A seal has reached memory once a barrier passes it or a cut keeps it; not when it is made, not by a cut that loses it, not by another word
-- in its place, nor by its word in another place.
pub seal-reached :
    ((act tiny one (store (at 32 seal1)) (state bytes [] false)).reached ≡ false)
    × ((act tiny one barrier (state bytes (at 32 seal1 ∷ []) false)).reached ≡ true)
    × ((keep tiny one (state bytes (at 32 seal1 ∷ at 160 seal1 ∷ []) false) (at 160 seal1 ∷ [])).reached ≡ true)
    × ((keep tiny one (state bytes (at 32 seal1 ∷ []) false) []).reached ≡ false)
    × ((keep tiny one (state bytes (at 32 0 ∷ []) false) (at 32 0 ∷ [])).reached ≡ false)
    × ((keep tiny one (state bytes (at 48 seal1 ∷ []) false) (at 48 seal1 ∷ [])).reached ≡ false)
    × ((keep tiny one (state bytes [] true) []).reached ≡ true)
unfolding act keep is_seal seal_of check low high reduced digits
seal-reached = (refl, refl, refl, refl, refl, refl, refl)

-- ---- Valid logs.

-- Both logs hold the entries, log A with seal a and log B with seal b.
abbrev logged : List Store → ℕ → ℕ → List ℕ
logged es a b = lay pool (log_stores tiny 0 es ++ (at 32 a ∷ at 160 b ∷ []))

-- As parts 1 and 2 leave them; not with another mark, no count, or another check.
pub valid-seals : (valid tiny (logged two seal2 seal2) 32 ≡ true) × (valid tiny (logged two seal2 seal2) 160 ≡ true)
    × (valid tiny (logged two 0xA51D000212D2017E 0) 32 ≡ false) × (valid tiny (logged two 0xA51C000000000001 0) 32 ≡ false)
    × (valid tiny (logged two 0xA51C000212D2017F 0) 32 ≡ false)
unfolding valid log_entries mark_in count_in check_in check low high reduced digits field word put number pool_size row
valid-seals = (refl, refl, refl, refl, refl)

-- Under right seals, not with a target in the parity row, one that is no multiple of 8, or one twice.
pub valid-targets : (valid tiny (logged (at 320 5 ∷ []) 0xA51C000104470047 0) 32 ≡ false)
    × (valid tiny (logged (at 289 5 ∷ []) 0xA51C000102570028 0) 32 ≡ false)
    × (valid tiny (logged (entry ∷ entry ∷ []) 0xA51C00020A26008B 0) 32 ≡ false)
unfolding valid log_entries mark_in count_in check_in check low high reduced digits field word put number pool_size row
valid-targets = (refl, refl, refl)

-- ---- What a recovery does.

-- A if valid (here with one entry of B's two), else B if valid, whatever A's seal is.
pub remedy-replay : (remedy tiny (logged two seal1 seal2) ≡ replay from_a 1)
    × (remedy tiny (logged two 0x1234 seal2) ≡ replay from_b 2) × (remedy tiny (logged two 0 seal2) ≡ replay from_b 2)
unfolding remedy valid log_entries mark_in count_in check_in check low high reduced digits field word put number pool_size row
remedy-replay = (refl, refl, refl)

-- Neither valid: nothing if both seals are zero, clear if one is, else neither.
pub remedy-other : (remedy tiny (logged two 0 0) ≡ nothing) × (remedy tiny (logged two 0x1234 0) ≡ clear)
    × (remedy tiny (logged two 0 0x1234) ≡ clear) × (remedy tiny (logged two 0x1234 0x1234) ≡ neither)
unfolding remedy valid log_entries mark_in count_in check_in check low high reduced digits field word put number pool_size row
remedy-other = (refl, refl, refl, refl)

-- A replay has the steps of the entries in its own log.
abbrev differing_logs : List ℕ
differing_logs = lay pool (at 48 288 ∷ at 56 7 ∷ at 176 304 ∷ at 184 8 ∷ [])

pub replay-steps : (recovery_steps tiny differing_logs (replay from_a 1) ≡ redo tiny (at 288 7 ∷ []))
    × (recovery_steps tiny differing_logs (replay from_b 1) ≡ redo tiny (at 304 8 ∷ []))
unfolding recovery_steps digits field word put number
replay-steps = (refl, refl)

-- 2n + 5 steps, 3 or none.
pub recovery-lengths : (length (recovery_steps tiny pool (replay from_a 1)) ≡ 7) × (length (recovery_steps tiny pool (replay from_b 2)) ≡ 9)
    × (recovery_steps tiny pool clear ≡ store (at 32 0) ∷ store (at 160 0) ∷ barrier ∷ [])
    × (recovery_steps tiny pool nothing ≡ []) × (recovery_steps tiny pool neither ≡ [])
unfolding recovery_steps redo
recovery-lengths = (refl, refl, refl, refl, refl)

-- ---- A power cut.

abbrev acts : List Step → State → State
acts [] s = s
acts (x ∷ xs) s = acts xs (act tiny one x s)

-- Six steps of the commit of one entry: seal A is the one store behind no barrier.
abbrev six_steps : State
six_steps = acts (take 6 (commit_steps tiny one)) (state pool [] false)

-- A cut that loses it leaves nothing to do; one that keeps it leaves log A to replay, and the replay ends where the uncut commit does.
pub cut-lost : ((keep tiny one six_steps []).reached ≡ false) × (remedy tiny (view (keep tiny one six_steps [])) ≡ nothing)
unfolding act keep is_seal commit_steps redo remedy valid log_entries mark_in count_in check_in seal_of check low high reduced digits field word put number pool_size row
cut-lost = (refl, refl)

pub cut-kept : (six_steps.pend ≡ at 32 seal1 ∷ []) × ((keep tiny one six_steps six_steps.pend).reached ≡ true)
    × (remedy tiny (view (keep tiny one six_steps six_steps.pend)) ≡ replay from_a 1)
unfolding act keep is_seal commit_steps redo remedy valid log_entries mark_in count_in check_in seal_of check low high reduced digits field word put number pool_size row
cut-kept = (refl, refl, refl)

pub replay-ends : view (acts (recovery_steps tiny six_steps.base (replay from_a 1)) (keep tiny one six_steps six_steps.pend))
    ≡ steps_made tiny (commit_steps tiny one) pool
unfolding act keep is_seal commit_steps redo recovery_steps steps_made seal_of check low high reduced digits field word put number parity_word xor_to byte_at row off zone row_at
replay-ends = refl

-- ---- Answers and records, by step number.

-- The step made counts from 1; done is said with the last one only.
pub step-answers : (step_answer 0 15 (store entry) ≡ stored 1) × (step_answer 10 15 (parity entry) ≡ stored 11)
    × (step_answer 4 15 barrier ≡ passed 5) × (step_answer 13 15 (store entry) ≡ stored 14) × (step_answer 14 15 barrier ≡ done 15)
unfolding step_answer made_answer
step-answers = (refl, refl, refl, refl, refl)

pub step-phases : (next_phase 0 15 ≡ committing 1) × (next_phase 13 15 ≡ committing 14) × (next_phase 14 15 ≡ closed)
    × (next_progress 0 7 ≡ recovering 1) × (next_progress 5 7 ≡ recovering 6) × (next_progress 6 7 ≡ finished)
unfolding next_phase next_progress
step-phases = (refl, refl, refl, refl, refl, refl)

-- A commit without steps is done at its start.
pub starts : (start_phase 0 ≡ closed) × (start_answer 0 ≡ done 0) × (start_phase 1 ≡ committing 0) × (start_answer 1 ≡ started)
unfolding start_phase start_answer
starts = (refl, refl, refl, refl)

-- So is a recovery without steps; another one holds what it does, no step made. Neither log valid and no seal zero is refusal 22.
pub recovery-begins : (start_recovery pool (replay from_b 1) ≡ record { answer = started; pool = pool; recovery = record { id = id_in pool; work = replay from_b 1; phase = recovering 0 } })
    × (start_recovery pool clear ≡ record { answer = started; pool = pool; recovery = record { id = id_in pool; work = clear; phase = recovering 0 } })
    × (start_recovery pool nothing ≡ record { answer = done 0; pool = pool; recovery = record { id = id_in pool; work = nothing; phase = finished } })
    × (start_recovery pool neither ≡ record { answer = refused 22; pool = pool; recovery = record { id = 0; work = neither; phase = finished } })
unfolding start_recovery
recovery-begins = (refl, refl, refl, refl)

-- ---- Refusal 10 of a recovery record.

abbrev replayed : ℕ → ℕ → Recovery
replayed n k = record { id = 1; work = replay from_a n; phase = recovering k }

-- A count above 127, and a place past the list of 7.
pub record-impossible : (impossible_recovery tiny pool (replay from_a 128) finished ≡ true)
    × (impossible_recovery tiny pool (replay from_a 127) finished ≡ false)
    × (impossible_recovery tiny pool (replay from_a 1) (recovering 6) ≡ false) × (impossible_recovery tiny pool (replay from_a 1) (recovering 7) ≡ true)
    × (impossible_recovery tiny pool clear (recovering 2) ≡ false)
    × (impossible_recovery tiny pool clear (recovering 3) ≡ true)
unfolding impossible_recovery count_above is_recovering done_steps recovery_steps redo log_lost digits field word put number
record-impossible = (refl, refl, refl, refl, refl, refl)

-- Its log is judged in parts 3 and 4 with their barriers (places 0 to 3), with its count, and not in part 5.
pub log-judged : (impossible_recovery tiny (logged one seal1 seal1) (replay from_a 1) (recovering 0) ≡ false)
    × (impossible_recovery tiny (logged one 0 seal1) (replay from_a 1) (recovering 0) ≡ true)
    × (impossible_recovery tiny (logged one 0 seal1) (replay from_a 1) (recovering 3) ≡ true)
    × (impossible_recovery tiny (logged one 0 seal1) (replay from_a 1) (recovering 4) ≡ false)
    × (impossible_recovery tiny (logged one 0 seal1) (replay from_b 1) (recovering 3) ≡ false)
    × (impossible_recovery tiny (logged two seal2 seal2) (replay from_a 1) (recovering 0) ≡ true)
unfolding impossible_recovery count_above is_recovering done_steps recovery_steps redo log_lost valid log_entries mark_in count_in check_in check low high reduced digits field word put number pool_size row
log-judged = (refl, refl, refl, refl, refl, refl)

-- ---- The calls, on a formatted pool of R 1, C 1, Z 1: log A at 512, log B at 2560, row 0 at 4608, the parity row at 4864.

abbrev fresh-pool : List ℕ
fresh-pool = fresh_pool (record { page = 256; rows = 1; cols = 1; zones = 1 }) 1

abbrev sealed : ℕ → ℕ → List ℕ
sealed a b = lay fresh-pool (at 528 4616 ∷ at 536 7 ∷ at 2576 4616 ∷ at 2584 7 ∷ at 512 a ∷ at 2560 b ∷ [])

abbrev seal : ℕ
seal = 0xA51C000101D60022

-- One staged entry.
abbrev given : List ℕ → ℕ → Phase → Given
given p n f = record { pool = p; staging = entry_bytes (at 4616 7 ∷ []) ++ replicate 2016 0; txn = record { id = 1; count = n; phase = f } }

pub commit-starts : ((commit_start (given fresh-pool 1 live)).answer ≡ started) × ((commit_start (given fresh-pool 1 closed)).answer ≡ refused 29)
    × ((commit_start (given (sealed seal 0) 1 live)).answer ≡ refused 21)
unfolding commit_start conclude start_answer record_tests live_tests is_live unsealed impossible past_commit commit_length first number digits field word put check low high reduced pool_size row zone_cells same within in_range header_front header_bytes page_at header_shape header_id header_ok valid_header shape_in id_in differing open_tests head_bytes free_head fresh_zone fresh_zones fresh_pool
commit-starts = (refl, refl, refl)

-- 10 past the list, 29 not committing, 21 at the first step only.
pub commit-steps : ((commit_step (given fresh-pool 1 (committing 0))).answer ≡ stored 1)
    × ((commit_step (given fresh-pool 1 (committing 15))).answer ≡ refused 10) × ((commit_step (given fresh-pool 1 live)).answer ≡ refused 29)
    × ((commit_step (given (sealed seal 0) 1 (committing 0))).answer ≡ refused 21)
    × ((commit_step (given (sealed seal 0) 1 (committing 1))).answer ≡ stored 2)
unfolding commit_step commit_tests commit_list commit_next is_committing place_in step_answer made_answer commit_steps redo entries_in conclude record_tests unsealed impossible past_commit commit_length first number digits field word put check low high reduced pool_size row zone_cells same within in_range header_front header_bytes page_at header_shape header_id header_ok valid_header shape_in id_in differing open_tests head_bytes free_head fresh_zone fresh_zones fresh_pool
commit-steps = (refl, refl, refl, refl, refl)

-- With the pool's id. 22 where neither log is valid and no seal is zero.
pub recovery-starts : ((recovery_start (sealed 0 seal)).answer ≡ started) × ((recovery_start (sealed 0 seal)).recovery.id ≡ 1)
    × ((recovery_start (sealed 5 5)).answer ≡ refused 22) × ((recovery_start (sealed 5 5)).recovery.id ≡ 0)
unfolding recovery_start conclude_recovery start_recovery remedy valid log_entries mark_in count_in check_in first number digits field word put check low high reduced pool_size row zone_cells same within in_range header_front header_bytes page_at header_shape header_id header_ok valid_header shape_in id_in differing open_tests head_bytes free_head fresh_zone fresh_zones fresh_pool
recovery-starts = (refl, refl, refl, refl)

-- 10 its log lost, with the record as given; 11 of another pool; 29 not recovering.
pub recovery-steps : ((recovery_step (sealed seal 0) (replayed 1 0)).answer ≡ stored 1) × ((recovery_step fresh-pool (replayed 1 0)).answer ≡ refused 10)
    × ((recovery_step fresh-pool (replayed 1 0)).recovery ≡ replayed 1 0)
    × ((recovery_step fresh-pool (record { id = 2; work = nothing; phase = finished })).answer ≡ refused 11)
    × ((recovery_step fresh-pool (record { id = 1; work = nothing; phase = finished })).answer ≡ refused 29)
unfolding recovery_step conclude_recovery recovery_tests recovery_list recovery_next next_progress is_recovering done_steps count_above impossible_recovery log_lost recovery_steps redo step_answer made_answer valid log_entries mark_in count_in check_in first number digits field word put check low high reduced pool_size row zone_cells same within in_range header_front header_bytes page_at header_shape header_id header_ok valid_header shape_in id_in differing open_tests head_bytes free_head fresh_zone fresh_zones fresh_pool
recovery-steps = (refl, refl, refl, refl, refl)

-- ---- Up to the next barrier.

-- Of 10 entries the parts of a commit end with steps 41, 44, 55, 66 and 69, those of a replay with 11, 22 and 25; clearing has one part.
pub barriers : (commit_barrier 10 0 ≡ 40) × (commit_barrier 10 40 ≡ 40) × (commit_barrier 10 41 ≡ 43) × (commit_barrier 10 44 ≡ 54) × (commit_barrier 10 55 ≡ 65) × (commit_barrier 10 66 ≡ 68)
    × (redo_barrier 10 0 ≡ 10) × (redo_barrier 10 11 ≡ 21) × (redo_barrier 10 22 ≡ 24) × (recovery_barrier (replay from_b 10) 24 ≡ 24) × (recovery_barrier clear 0 ≡ 2)
unfolding commit_barrier redo_barrier recovery_barrier
barriers = (refl, refl, refl, refl, refl, refl, refl, refl, refl, refl, refl)

-- Steps 6 to 8 of the commit of one entry: part 2.
pub steps-between : (between 5 8 (commit_steps tiny one) ≡ store (at 32 seal1) ∷ store (at 160 seal1) ∷ barrier ∷ []) × (between 8 8 (commit_steps tiny one) ≡ [])
unfolding between commit_steps redo seal_of check low high reduced digits
steps-between = (refl, refl)

-- Five calls make the 15 steps of a commit of one entry, the last of them clears both seals; and one that is refused.
pub commit-calls : ((commit_on (given fresh-pool 1 (committing 0))).answer ≡ passed 5) × ((commit_on (given (sealed 0 0) 1 (committing 5))).answer ≡ passed 8)
    × ((commit_on (given (sealed seal seal) 1 (committing 8))).answer ≡ passed 10) × ((commit_on (given (sealed seal seal) 1 (committing 10))).answer ≡ passed 12)
    × (commit_on (given (sealed seal 0) 1 (committing 0)) ≡ record { answer = refused 21; left = given (sealed seal 0) 1 (committing 0) })
    × (commit_on (given (sealed seal seal) 1 (committing 12)) ≡ record { answer = done 15; left = given (sealed 0 0) 1 closed })
    × (commit_made (given (sealed seal seal) 1 (committing 12)) 12 14 ≡ record { answer = done 15; left = given (sealed 0 0) 1 closed })
unfolding commit_made between steps_made commit_on commit_more is_stored commit_step next_phase commit_tests commit_list commit_next is_committing place_in step_answer made_answer commit_steps redo entries_in conclude record_tests unsealed impossible past_commit commit_length first number digits field word put check low high reduced parity_word xor_to byte_at off zone row_at pool_size row zone_cells same within in_range header_front header_bytes page_at header_shape header_id header_ok valid_header shape_in id_in differing open_tests head_bytes free_head fresh_zone fresh_zones fresh_pool
commit-calls = (refl, refl, refl, refl, refl, refl, refl)

-- Three calls make the 7 steps of a replay of one entry, one the 3 of clearing; and one that is refused.
pub recovery-calls : ((recovery_on (sealed seal 0) (replayed 1 0)).answer ≡ passed 2) × ((recovery_on (sealed seal 0) (replayed 1 2)).answer ≡ passed 4)
    × (recovery_on (sealed seal seal) (replayed 1 4) ≡ record { answer = done 7; pool = sealed 0 0; recovery = record { id = 1; work = replay from_a 1; phase = finished } })
    × (recovery_made (sealed seal seal) (replayed 1 4) 4 6 ≡ record { answer = done 7; pool = sealed 0 0; recovery = record { id = 1; work = replay from_a 1; phase = finished } })
    × ((recovery_on (sealed 0 seal) (record { id = 1; work = clear; phase = recovering 0 })).answer ≡ done 3) × ((recovery_on fresh-pool (replayed 1 0)).answer ≡ refused 10)
unfolding recovery_made between steps_made recovery_on recovery_more is_stored recovery_step conclude_recovery recovery_tests recovery_list recovery_next next_progress is_recovering done_steps count_above impossible_recovery log_lost recovery_steps redo step_answer made_answer valid log_entries mark_in count_in check_in first number digits field word put check low high reduced parity_word xor_to byte_at off zone row_at pool_size row zone_cells same within in_range header_front header_bytes page_at header_shape header_id header_ok valid_header shape_in id_in differing open_tests head_bytes free_head fresh_zone fresh_zones fresh_pool
recovery-calls = (refl, refl, refl, refl, refl, refl)
