-- `repair::rebuild_column` meets its contract. Assumes nothing.
use Prim.Native.Nat.{suc}
use native.Mathlib.Omega.{arith}
use Rattle.layout.specs.Meaning.{shape_of}
use Rattle.layout.proofs.Range.{bounds, page-most, shape-good}
use Rattle.parity.proofs.Places.{column_fits}
use Rattle.repair.proofs.Masks.{lost-row}
use Rattle.repair.proofs.Repaired.{column-range, column-rebuilt}
use Rattle.repair.proofs.rebuild_column.Goals as goal

pub nonzero_div-k : goal.nonzero_div-k
nonzero_div-k c = omega (arith, bounds c.args.s)

pub nonzero_rem-k : goal.nonzero_rem-k
nonzero_rem-k c = omega (arith, bounds c.args.s)

pub column_at-at-requires : goal.column_at-at-requires
column_at-at-requires c =
    let k = column-range c.args.k c.args.s.zones c.args.s.cols (bounds c.args.s).cols-low c.requires.1 in (k.0, k.1)

pub overflow_cast-row : goal.overflow_cast-row
overflow_cast-row c =
    let b = bounds c.args.s in
    let r = lost-row (suc c.args.s.rows) c.args.mask (omega arith) c.requires.2 c.requires.3 in omega arith

pub overflow_add-s : goal.overflow_add-s
overflow_add-s c = omega (arith, bounds c.args.s)

pub rebuild_page-requires : goal.rebuild_page-requires
rebuild_page-requires c =
    let b = bounds c.args.s in
    let k = column-range c.args.k c.args.s.zones c.args.s.cols b.cols-low c.requires.1 in
    let r = lost-row (suc c.args.s.rows) c.args.mask (omega arith) c.requires.2 c.requires.3 in
    let f = column_fits (shape_of c.args.s) (shape-good c.args.s) _ _ k.0 k.1 c.args.pool.now _ _ c.column_at-at.ensures c.row_size.ensures c.requires.0 in
    (omega arith, omega arith, page-most c.args.s)

pub returns : goal.returns
returns c =
    let r = c.rebuild_page.ensures in
    (column-rebuilt (shape_of c.args.s) c.args.pool.now _ c.args.k _ _ _ c.column_at-at.ensures c.row_size.ensures r.0, r.1)
