-- `repair::any_two` meets its contract. Assumes nothing.
use Rattle.std.proofs.Common.{rules, tests}
use Rattle.std.proofs.lemmas.Iterator.{YieldsList-from_slice}
use Rattle.std.proofs.lemmas.Iterator.Search.{any_from_yields_List}
use mathlib.Core.Path.{◌∙◌}
use lib.Count.{ones}
use lib.Dec.{ltb}
use Rattle.repair.proofs.Masks.{two-any}
use Rattle.repair.proofs.any_two.Goals as goal

pub returns : goal.returns
returns c =
    any_from_yields_List (λ m. ltb 1 (ones m)) _ _ _ c.any.ensures.ran (YieldsList-from_slice c.args.lost.now cc) (λ x b q k. search (rules, tests))
    ∙ two-any c.args.lost.now
