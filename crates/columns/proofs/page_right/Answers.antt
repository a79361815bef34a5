-- `columns::page_right` meets its contract. Assumes nothing.
use Prim.Native.Nat.{◌+◌, ◌*◌}
use mathlib.Core.Path.{sym}
use lib.ListN.{length}
use Rattle.rules.specs.Shape.{page_size}
use Rattle.columns.specs.Column.{other_byte}
use Rattle.columns.proofs.Pages.{front-count, front-filled, front_fits, front_length, front-zeros, rows-judged, same-room}
use Rattle.columns.proofs.page_right.Goals as goal

pub slice_bounds-xor_pages-end : goal.slice_bounds-xor_pages-end
slice_bounds-xor_pages-end c = sym (front_length c.args.page page_size c.requires.1)

pub xor_pages-requires : goal.xor_pages-requires
xor_pages-requires c = (front-zeros c.args.page page_size c.requires.1, same-room (c.args.at + c.args.rows * c.args.stride) c.args.page _ (length c.args.pool.now + c.args.stride) (front_length c.args.page page_size c.requires.1) c.requires.0)

pub slice_bounds-sum-end-2 : goal.slice_bounds-sum-end-2
slice_bounds-sum-end-2 c =
    let x = c.xor_pages in front_fits c.args.page page_size c.requires.1 x.new.sum x.auto.sum

pub slice_bounds-all_zero-end : goal.slice_bounds-all_zero-end
slice_bounds-all_zero-end c =
    let x = c.xor_pages in sym (front-count c.args.page page_size c.requires.1 x.new.sum x.auto.sum)

pub returns : goal.returns
returns c =
    let x = c.xor_pages in
    rows-judged c.args.pool.now c.args.at c.args.stride c.args.rows c.args.page
    (front-filled c.args.page page_size c.requires.1 x.new.sum x.auto.sum (other_byte c.args.pool.now c.args.at c.args.stride c.args.rows c.args.rows) x.ensures)
    c.all_zero.ensures
