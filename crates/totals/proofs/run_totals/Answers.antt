-- `totals::run_totals` meets its contract. Assumes nothing.
use Rattle.totals.proofs.Totalling.{added-free, added-object}
use borrow.Author.Rules.{rules}
use Rattle.totals.proofs.run_totals.Goals as goal

pub returns-then-run : goal.returns-then-run
returns-then-run c = added-free _ _ _ c.if-run.true

pub returns : goal.returns
returns c = search (rules, added-object)
