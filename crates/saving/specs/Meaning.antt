-- What a save's answer and the memory that it leaves mean in 01's terms. Assumes nothing.
use Rattle.std.specs.Prelude.{ℕ, List}
use Rattle.answers.specs.declared.Answer.{Answer}
use Rattle.answers.specs.Meaning.{answer_of}
use Rattle.saving.specs.Saving.{Outcome}

abbrev pub outcome_of : Answer → List ℕ → List ℕ → Outcome
outcome_of r pool staging = record { answer = answer_of r; pool = pool; staging = staging }
