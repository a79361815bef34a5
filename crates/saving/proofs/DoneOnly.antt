-- What an answer tells. Assumes nothing.
use Prim.Native.Nat.{ℕ}
use mathlib.Core.Path.{◌≡◌, refl}
use mathlib.Core.Bool.{false}
use Rattle.answers.specs.declared.Answer.{Answer}
use Rattle.answers.specs.declared.Answer.TheVariants.{Address, Barrier, Done, Refused, Started, Stored, Taken}
use Rattle.answers.specs.Meaning.{answer_of}
use Rattle.saving.specs.Saving.{is_done}

-- it is not done
pub done_only : (a : Answer) → ((k : ℕ) → a ≡ Done k → ⊥) → false ≡ is_done (answer_of a)
unfolding is_done
done_only (Address a) h = refl
done_only Taken h = refl
done_only Started h = refl
done_only (Stored k) h = refl
done_only (Barrier k) h = refl
done_only (Done k) h = absurd (h k refl)
done_only (Refused r) h = refl
