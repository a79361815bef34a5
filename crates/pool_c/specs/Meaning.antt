-- What the numbers of include/pool.h mean in 01's terms. Each record goes in by its numbers, and each outcome goes out as numbers, with the
-- bytes that the call leaves. Assumes nothing.
use Rattle.std.specs.Prelude.{ℕ, zero, suc, ◌+◌, ◌-◌, ◌*◌, ◌/◌, ◌%◌, ◌^◌, ◌<◌, List, ◌++◌, length, replicate}
use Rattle.rules.specs.Staging as Staging
use Rattle.rules.specs.Staging.{Phase, closed, committing, live}
use Rattle.rules.specs.Answer.{After, Answer, Changed, Given}
use Rattle.rules.specs.Calls.{TransactionStart}
use Rattle.rules.specs.Look as Looking
use Rattle.rules.specs.Repair as Repairing
use Rattle.rules.specs.Scrub as Scrubbing
use Rattle.rules.specs.Tag as Tagging
use Rattle.powercut.specs.Log.{Log, from_a, from_b}
use Rattle.powercut.specs.Steps.{Remedy, clear, neither, nothing, replay}
use Rattle.powercut.specs.Recovery as Recovering
use Rattle.powercut.specs.Recovery.{Progress, RecoveryAfter, finished, recovering}
use Rattle.answers.specs.Meaning.{kind_of, value_of}
use Rattle.errors.specs.Errors.{Queue, judged, queue_limit}
use Rattle.commands.specs.Obey as Obeying
use Rattle.pool_c.specs.declared.pools.Repaired.{Repaired}
use Rattle.pool_c.specs.declared.pools.Part.{Part}
use Rattle.pool_c.specs.declared.pools.Counts.{Counts}
use Rattle.pool_c.specs.declared.transactions.Transaction.{Transaction}
use Rattle.pool_c.specs.declared.transactions.Reply.{Reply}
use Rattle.pool_c.specs.declared.recoveries.Recovery.{Recovery}
use Rattle.pool_c.specs.declared.recoveries.RecoveryReply.{RecoveryReply}
use Rattle.pool_c.specs.declared.tagged.Found.{Found}
use Rattle.pool_c.specs.declared.command.Errors.{Errors}
use Rattle.pool_c.specs.declared.command.Obeyed.{Obeyed}

-- A number of 8 bytes.
abbrev pub Fits64 : ℕ → Type 0
Fits64 n = n < 2 ^ 64

-- ---- The calls on the pool alone.

-- 0 where it is carried out, else the refusal's number; and the pool's bytes.
abbrev pub changed_out : Changed → ℕ × List ℕ
changed_out x = (value_of x.answer, x.pool)

-- What repair altered, or its refusal; and the pool's bytes.
abbrev pub repair_out : Repairing.Repair → Repaired
repair_out (Repairing.altered n) = record { refusal = 0; altered = n }
repair_out (Repairing.refused n) = record { refusal = n; altered = 0 }

abbrev pub repaired_out : Repairing.Repaired → Repaired × List ℕ
repaired_out x = (repair_out x.answer, x.pool)

abbrev pub part_out : Looking.Look → Part
part_out (Looking.part at n) = record { refusal = 0; offset = at; length = n }
part_out (Looking.refused n) = record { refusal = n; offset = 0; length = 0 }

abbrev pub counts_out : Scrubbing.Scrub → Counts
counts_out (Scrubbing.counts o d b c) = record { refusal = 0; objects = o; damaged = d; broken = b; columns = c }
counts_out (Scrubbing.refused n) = record { refusal = n; objects = 0; damaged = 0; broken = 0; columns = 0 }

-- ---- A transaction. The phase: 0 open, 1 closed, k + 2 after k steps of the commit.

abbrev pub phase_in : ℕ → Phase
phase_in zero = live
phase_in (suc zero) = closed
phase_in (suc (suc k)) = committing k

abbrev pub phase_out : Phase → ℕ
phase_out live = 0
phase_out closed = 1
phase_out (committing k) = k + 2

abbrev pub transaction_in : Transaction → Staging.Transaction
transaction_in t = record { id = t.id; count = t.count; phase = phase_in t.phase }

abbrev pub transaction_out : Staging.Transaction → Transaction
transaction_out t = record { id = t.id; count = t.count; phase = phase_out t.phase }

-- What a call is given: the transaction, and the bytes of pool and staging.
abbrev pub given_in : Transaction → List ℕ → List ℕ → Given
given_in t pool staging = record { pool = pool; staging = staging; txn = transaction_in t }

-- What it hands back: the reply, and the bytes of pool and staging.
abbrev pub reply_out : Answer → Staging.Transaction → Reply
reply_out a t = record { kind = kind_of a; value = value_of a; transaction = transaction_out t }

-- What beginning hands back.
abbrev pub start_out : TransactionStart → Reply
start_out x = reply_out x.answer x.txn

abbrev pub after_out : After → Reply × List ℕ × List ℕ
after_out x = (reply_out x.answer x.left.txn, x.left.pool, x.left.staging)

-- ---- A recovery. What is to be done: 0 nothing, 1 clear both seals, 2 neither log is valid, 2n + 3 replay log A with n entries, 2n + 4 log B;
-- and the phase: 0 finished, k + 1 after k steps.

abbrev pub log_in : ℕ → Log
log_in zero = from_a
log_in (suc n) = from_b

abbrev pub work_in : ℕ → Remedy
work_in zero = nothing
work_in (suc zero) = clear
work_in (suc (suc zero)) = neither
work_in (suc (suc (suc m))) = replay (log_in (m % 2)) (m / 2)

abbrev pub work_out : Remedy → ℕ
work_out nothing = 0
work_out clear = 1
work_out neither = 2
work_out (replay from_a n) = 2 * n + 3
work_out (replay from_b n) = 2 * n + 4

abbrev pub progress_in : ℕ → Progress
progress_in zero = finished
progress_in (suc k) = recovering k

abbrev pub progress_out : Progress → ℕ
progress_out finished = 0
progress_out (recovering k) = k + 1

abbrev pub recovery_in : Recovery → Recovering.Recovery
recovery_in r = record { id = r.id; work = work_in r.work; phase = progress_in r.phase }

abbrev pub recovery_out : Recovering.Recovery → Recovery
recovery_out r = record { id = r.id; work = work_out r.work; phase = progress_out r.phase }

-- What a call hands back: the reply, and the pool's bytes.
abbrev pub recovery_reply_out : Answer → Recovering.Recovery → RecoveryReply
recovery_reply_out a r = record { kind = kind_of a; value = value_of a; recovery = recovery_out r }

abbrev pub recovery_after_out : RecoveryAfter → RecoveryReply × List ℕ
recovery_after_out x = (recovery_reply_out x.answer x.recovery, x.pool)

-- ---- The look-up by tag.

-- The address found, and 1; zeros where there is none; or the refusal, and zeros.
abbrev pub found_out : Tagging.LookUp → Found
found_out (Tagging.at a) = record { refusal = 0; found = 1; address = a }
found_out Tagging.absent = record { refusal = 0; found = 0; address = 0 }
found_out (Tagging.refused n) = record { refusal = n; found = 0; address = 0 }

-- ---- The command lines.

-- The errors that wait: how many, and in ten places; those not used are zero in what goes out.
abbrev pub errors_in : Errors → Queue
errors_in e = judged e.count e.errors

abbrev pub errors_out : Queue → Errors
errors_out q = record { count = length q; errors = q ++ replicate (queue_limit - length q) 0 }

-- What was done: its kind, value, length and transaction, beside the errors that wait.
abbrev pub done_out : Errors → Obeying.Done → Obeyed
done_out e Obeying.nothing = record { kind = 0; value = 0; length = 0; errors = e; transaction = transaction_out Staging.unusable }
done_out e (Obeying.saving t) = record { kind = 1; value = 0; length = 0; errors = e; transaction = transaction_out t }
done_out e (Obeying.recalled at n) = record { kind = 2; value = at; length = n; errors = e; transaction = transaction_out Staging.unusable }
done_out e (Obeying.printed n) = record { kind = 3; value = 0; length = n; errors = e; transaction = transaction_out Staging.unusable }

-- The transaction that is handed back, if any, goes out in 8-byte numbers.
abbrev pub DoneFits : Obeying.Done → Type 0
DoneFits Obeying.nothing = Unit {0}
DoneFits (Obeying.saving t) = Fits64 (phase_out t.phase)
DoneFits (Obeying.recalled at n) = Unit {0}
DoneFits (Obeying.printed n) = Unit {0}

-- What a line hands back: the record, and the bytes of staging and of the buffer.
abbrev pub obeyed_out : Obeying.Obeyed → Obeyed × List ℕ × List ℕ
obeyed_out x = (done_out (errors_out x.queue) x.done, x.staging, x.out)
