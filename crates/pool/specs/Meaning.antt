-- What the code's answers mean in 01's terms: this paper's number and values for each case. Assumes nothing.
use Rattle.std.specs.Prelude.{ℕ, List, Result, Ok, Err, Option, Some, None, ⊤}
use Rattle.rules.specs.Answer.{Answer, Changed, refused, taken}
use Rattle.rules.specs.Look as Looking
use Rattle.rules.specs.Repair as Repairing
use Rattle.rules.specs.Scrub as Scrubbing
use Rattle.rules.specs.Tag as Tagging
use Rattle.refusals.specs.declared.Refusal.{Refusal}
use Rattle.refusals.specs.Number.{number_of}
use Rattle.scrub.specs.declared.Counts.{Counts}

-- Format and header mending: carried out, or refused with 01's number.
abbrev pub answer_of : Result ⊤ Refusal → Answer
answer_of (Ok x) = taken
answer_of (Err r) = refused (number_of r)

-- Its answer, and the pool that it leaves.
abbrev pub changed : Result ⊤ Refusal → List ℕ → Changed
changed r pool = record { answer = answer_of r; pool = pool }

-- What repair altered, or its refusal; and the pool that it leaves.
abbrev pub repair_of : Result ℕ Refusal → Repairing.Repair
repair_of (Ok n) = Repairing.altered n
repair_of (Err r) = Repairing.refused (number_of r)

abbrev pub repaired_of : Result ℕ Refusal → List ℕ → Repairing.Repaired
repaired_of r pool = record { answer = repair_of r; pool = pool }

-- The refusal of look; 0 if it is not refused.
unfoldable pub refusal_of : Looking.Look → ℕ
refusal_of (Looking.part at n) = 0
refusal_of (Looking.refused n) = n

-- The address of the object with a tag, that there is none, or the refusal.
abbrev pub look_up_of : Result (Option ℕ) Refusal → Tagging.LookUp
look_up_of (Ok (Some a)) = Tagging.at a
look_up_of (Ok None) = Tagging.absent
look_up_of (Err r) = Tagging.refused (number_of r)

-- Scrub's four counts, or its refusal.
abbrev pub scrub_of : Result Counts Refusal → Scrubbing.Scrub
scrub_of (Ok c) = Scrubbing.counts c.objects c.damaged c.broken c.columns
scrub_of (Err r) = Scrubbing.refused (number_of r)
