-- `commands::obey` meets its contract. Assumes nothing.
use Rattle.std.proofs.Common.{arith}
use Rattle.std.proofs.lemmas.Grind.{common_steps}
use Rattle.commands.proofs.Handing.{failed-hands}
use Rattle.commands.proofs.obey.Goals as goal

pub returns-in-Err : goal.returns-in-Err
returns-in-Err c = rw c.enter_error.ensures (failed-hands _ _ _ c.in-Err.ensures (grind (arith, common_steps)))
