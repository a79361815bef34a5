-- `parity::column_right` meets its contract. Assumes nothing.
use native.Mathlib.Omega.{arith}
use Rattle.layout.specs.Meaning.{shape_of}
use Rattle.layout.proofs.Range.{bounds, page-most, shape-good}
use Rattle.parity.proofs.Places.{column_fits, column-judged}
use Rattle.parity.proofs.column_right.Goals as goal

pub overflow_add-s : goal.overflow_add-s
overflow_add-s c = omega (arith, bounds c.args.pool.now.shape)

pub page_right-requires : goal.page_right-requires
page_right-requires c =
    let f = column_fits (shape_of c.args.pool.now.shape) (shape-good c.args.pool.now.shape) c.args.z c.args.c c.requires.0 c.requires.1
    c.args.pool.now.bytes.now _ _ c.column_at-at.ensures c.row_size.ensures c.args.pool.now.sized in (omega arith, page-most c.args.pool.now.shape)

pub returns : goal.returns
returns c =
    column-judged (shape_of c.args.pool.now.shape) (shape-good c.args.pool.now.shape) c.args.z c.args.c c.requires.0 c.requires.1
    c.args.pool.now.bytes.now _ _ _ c.column_at-at.ensures c.row_size.ensures c.page_right.ensures
