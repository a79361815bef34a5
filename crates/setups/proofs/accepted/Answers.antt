-- `setups::accepted` meets its contract. Assumes nothing.
use mathlib.Core.Path.{refl, sym}
use Rattle.answers.proofs.AnswerKinds.{refused_only}
use Rattle.setups.proofs.accepted.Goals as goal

pub returns-in_default : goal.returns-in_default
returns-in_default c = (refl, sym (refused_only _ c.in_default.not-Refused))
