-- `Sums::add` meets its contract. Assumes nothing.
use Rattle.sums.proofs.Fed.{adding-start, adding-step, adding-end}
use borrow.Author.Rules.{rules}
use Rattle.sums.proofs.Sums.add.Goals as goal

pub loop-b-init : goal.loop-b-init
loop-b-init c = adding-start c.args.self.below

pub loop-b-preserved : goal.loop-b-preserved
loop-b-preserved c =
    adding-step c.loop-b.invariant c.loop-b-test.true c.requires c.from-low.ensures (search rules)

pub returns : goal.returns
returns c = adding-end c.loop-b.invariant c.args.self.below c.loop-b-test.false
