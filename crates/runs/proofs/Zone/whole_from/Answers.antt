-- `runs::Zone::whole_from` meets its contract. Assumes nothing.
use Rattle.std.proofs.Common.{rules, tests}
use mathlib.Core.Path.{refl}
use Rattle.runs.proofs.Going.{going_from, whole-all}
use Rattle.runs.proofs.Zone.whole_from.Goals as goal

pub returns : goal.returns
returns c =
    whole-all _ _ (λ o b j k. search (rules, tests)) _ _ _ (going_from c.args.from c.args.behind c.runs_from.ensures refl c.requires refl) c.all.ensures.ran
