-- `pool::fill` meets its contract. Assumes nothing.
use Rattle.layout.specs.Meaning.{shape_of}
use Rattle.layout.proofs.Range.{shape-good}
use Rattle.pool.proofs.Formatting.{header-fits}
use Rattle.pool.proofs.Fresh.{fresh-stored}
use native.Mathlib.Omega.{arith}
use borrow.Author.Rules.{rules}
use Rattle.pool.proofs.fill.Goals as goal

pub put_header-requires : goal.put_header-requires
put_header-requires c =
    header-fits c.args.s _ _ (search rules) (omega arith)

pub put_header-requires-2 : goal.put_header-requires-2
put_header-requires-2 c =
    header-fits c.args.s _ _ (search rules) (omega arith)

pub returns : goal.returns
returns c = fresh-stored (shape_of c.args.s) (shape-good c.args.s) c.args.id c.args.pool.now _ _ _ _ c.args.s.paged c.requires c.zero.ensures c.put_header.ensures c.put_header-2.ensures c.fill_zones.ensures
