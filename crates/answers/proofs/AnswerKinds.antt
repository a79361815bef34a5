-- An answer that is no refusal. Assumes nothing.
use mathlib.Core.Path.{◌≡◌, refl}
use mathlib.Core.Bool.{false}
use Rattle.refusals.specs.declared.Refusal.{Refusal}
use Rattle.rules.specs.Answer.{is_refused}
use Rattle.answers.specs.declared.Answer.{Answer}
use Rattle.answers.specs.declared.Answer.TheVariants.{Address, Barrier, Done, Refused, Started, Stored, Taken}
use Rattle.answers.specs.Meaning.{answer_of}

pub refused_only : (a : Answer) → ((r : Refusal) → a ≡ Refused r → ⊥) → false ≡ is_refused (answer_of a)
unfolding is_refused
refused_only (Address a) h = refl
refused_only Taken h = refl
refused_only Started h = refl
refused_only (Stored k) h = refl
refused_only (Barrier k) h = refl
refused_only (Done k) h = refl
refused_only (Refused r) h = absurd (h r refl)
