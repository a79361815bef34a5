-- What the code's record of a transaction means in 01's terms. Assumes nothing.
use Rattle.std.specs.Prelude.{ℕ, List}
use Rattle.rules.specs.Staging as Paper
use Rattle.rules.specs.Answer.{Given}
use Rattle.record.specs.declared.Phase.{Phase}
use Rattle.record.specs.declared.Phase.TheVariants.{Closed, Committing, Open}
use Rattle.record.specs.declared.Record.{Record}

abbrev pub phase_of : Phase → Paper.Phase
phase_of Open = Paper.live
phase_of (Committing k) = Paper.committing k
phase_of Closed = Paper.closed

abbrev pub record_of : Record → Paper.Transaction
record_of t = record { id = t.id; count = t.count; phase = phase_of t.phase }

-- The record in another phase.
abbrev pub in_phase : Record → Phase → Record
in_phase t phase = record { id = t.id; count = t.count; phase = phase }

-- What a call on a transaction is given.
abbrev pub given : List ℕ → List ℕ → Record → Given
given pool staging t = record { pool = pool; staging = staging; txn = record_of t }
