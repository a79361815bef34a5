-- What the code's transaction, and what a call hands back, mean in 01's terms. Assumes nothing.
use Rattle.std.specs.Prelude.{ℕ, List, Result, Ok, Err}
use Rattle.rules.specs.Staging as Paper
use Rattle.rules.specs.Answer.{After, Given}
use Rattle.rules.specs.Calls.{TransactionStart}
use Rattle.refusals.specs.declared.Refusal.{Refusal}
use Rattle.answers.specs.declared.Staged.{Staged}
use Rattle.answers.specs.Meaning.{answer_of}
use Rattle.answers.specs.declared.Answer.TheVariants.{Refused}
use Rattle.record.specs.declared.Record.{Record}
use Rattle.record.specs.Meaning.{given, record_of}
use Rattle.commit.specs.declared.Stepped.{Stepped}
use Rattle.transaction.specs.declared.Transaction.{Transaction}
use Rattle.transaction.specs.declared.Reply.{Reply}

abbrev pub transaction_of : Transaction → Paper.Transaction
transaction_of t = record_of t.txn

-- What a call is given, and what it leaves.
abbrev pub given_of : Transaction → List ℕ → List ℕ → Given
given_of t pool staging = given pool staging t.txn

abbrev pub after_of : Reply → List ℕ → List ℕ → After
after_of r pool staging = record { answer = answer_of r.answer; left = given_of r.transaction pool staging }

-- What beginning answers, and the transaction handed back.
abbrev pub start_of : Reply → TransactionStart
start_of r = record { answer = answer_of r.answer; txn = transaction_of r.transaction }

-- A refused call hands back the transaction as it was.
abbrev pub refused_back : Record → Refusal → Reply
refused_back t x = record { answer = Refused x; transaction = record { txn = t } }

-- A call that stages words hands back the transaction with the same id and in the same phase, with the number of entries then.
abbrev pub staged_back : Record → Result Staged Refusal → Reply
staged_back t (Ok s) = record { answer = s.answer; transaction = record { txn = record { id = t.id; count = s.count; phase = t.phase } } }
staged_back t (Err x) = refused_back t x

-- A commit's start or step hands back the record that it comes to.
abbrev pub stepped_back : Record → Result Stepped Refusal → Reply
stepped_back t (Ok s) = record { answer = s.answer; transaction = record { txn = s.txn } }
stepped_back t (Err x) = refused_back t x
