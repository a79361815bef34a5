-- `pages::copy` meets its contract. Assumes nothing.
use mathlib.Core.Path.{◌∙◌}
use Rattle.pages.proofs.Storing.{copied-sets}
use Rattle.pages.proofs.copy.Goals as goal

pub returns : goal.returns
returns c = let a = c.args in c.copy_within.ensures.after ∙ copied-sets a.s.now a.from a.to a.n c.requires
