-- `scan::put_pool` meets its contract. Assumes nothing.
use Rattle.layout.proofs.Range.{bounds}
use Rattle.scan.proofs.Scanning.{pool-put, zones-low}
use native.Mathlib.Omega.{arith}
use borrow.Author.Rules.{rules}
use Rattle.scan.proofs.put_pool.Goals as goal

pub put_pair-requires : goal.put_pair-requires
put_pair-requires c = let g = bounds c.args.pool.now.shape in (omega arith, omega arith, omega arith)

pub put_between-requires : goal.put_between-requires
put_between-requires c = (search rules, search (rules, zones-low))

pub returns : goal.returns
returns c = search (rules, pool-put)
