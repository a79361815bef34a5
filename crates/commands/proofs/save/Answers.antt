-- `commands::save` meets its contract. Assumes nothing.
use Rattle.std.proofs.Common.{arith}
use mathlib.Core.Path.{◌≡◌, refl, sym}
use mathlib.Core.Bool.{true}
use Rattle.std.proofs.lemmas.Grind.{common_steps}
use Rattle.rules.specs.Answer.{is_refused}
use Rattle.answers.specs.Meaning.{answer_of}
use Rattle.answers.proofs.AnswerKinds.{refused_only}
use Rattle.commands.specs.Meaning.{left_by}
use Rattle.commands.proofs.Handing.{save-error-leaves, save-staged-leaves}
use Rattle.commands.proofs.save.Goals as goal

pub returns-in-Refused : goal.returns-in-Refused
unfolding is_refused
returns-in-Refused c =
    let t : is_refused (answer_of c.save-reply.result.answer) ≡ true = rw c.in-Refused.is refl in
    λ queue out. save-error-leaves queue _ _ _ _ c.save-reply.ensures out t (grind (arith, common_steps))

pub returns : goal.returns
unfolding left_by
returns c = λ queue out. save-staged-leaves queue _ _ _ _ c.save-reply.ensures out (sym (refused_only _ c.in_default.not-Refused))
