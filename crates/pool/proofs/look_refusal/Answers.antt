-- `pool::look_refusal` meets its contract. Assumes nothing.
use mathlib.Core.Path.{ap, ◌∙◌}
use Rattle.pool.specs.Meaning.{refusal_of}
use Rattle.pool.proofs.Looking.{look_told}
use Rattle.pool.proofs.look_refusal.Goals as goal

pub returns : goal.returns
returns c = c.number_or_0.ensures ∙ look_told c.look_for.result ∙ ap refusal_of c.look_for.ensures.0
