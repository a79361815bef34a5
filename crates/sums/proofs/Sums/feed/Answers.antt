-- `Sums::feed` meets its contract. Assumes nothing.
use mathlib.Core.Path.{◌∙◌}
use Rattle.sums.proofs.Fed.{feeding-step, feeding-end}
use Rattle.sums.proofs.Sums.feed.Goals as goal

pub loop-block-preserved : goal.loop-block-preserved
loop-block-preserved c =
    let s = c.in-Some.ensures.steps in
    (s.0 ∙ c.loop-block.invariant.0, feeding-step c.loop-block.invariant.1 s.1.0 c.add-sums.ensures)

pub returns : goal.returns
returns c = feeding-end c.loop-block.invariant.1 c.in-None.ensures.steps.1.0 c.loop-block.sums.below
