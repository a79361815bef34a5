-- `scan::put_counts` meets its contract. Assumes nothing.
use Rattle.scan.proofs.Scanning.{columns-low, counts-put}
use borrow.Author.Rules.{rules}
use Rattle.scan.proofs.put_counts.Goals as goal

pub put_between-requires : goal.put_between-requires
put_between-requires c = (search rules, search (rules, columns-low))

pub returns : goal.returns
returns c =
    counts-put _ _ c.wrong_columns-wrong.ensures c.pool_totals.ensures c.put_between.ensures c.put_total.ensures
