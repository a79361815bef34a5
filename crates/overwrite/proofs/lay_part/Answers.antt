-- `overwrite::lay_part` meets its contract. Assumes nothing.
use mathlib.Core.Path.{◌∙◌}
use Rattle.overwrite.proofs.Updated.{sets-both}
use Rattle.overwrite.proofs.lay_part.Goals as goal

pub returns : goal.returns
returns c = let a = c.args in c.store.ensures ∙ sets-both a.old.now a.skip a.new.now c.min-n.ensures
