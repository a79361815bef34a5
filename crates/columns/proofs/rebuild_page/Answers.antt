-- `columns::rebuild_page` meets its contract. Assumes nothing.
use Prim.Native.Nat.{ℕ, ◌+◌, ◌*◌, ◌≤◌, ◌<◌}
use mathlib.Core.Path.{sym, ◌∙◌, ap}
use native.Mathlib.Omega.{arith}
use lib.ListN.{length}
use lib.Seq.{sets}
use Rattle.rules.specs.Shape.{page_size}
use Rattle.columns.specs.Column.{other_byte}
use Rattle.columns.proofs.Rows.{row_room}
use Rattle.columns.proofs.Pages.{front-count, front-filled, front_fits, front_length, front-zeros, same-room}
use Rattle.columns.proofs.rebuild_page.Goals as goal

-- the lost page lies in the pool
room : (at stride rows k m l : ℕ) → at + rows * stride + m ≤ l + stride → k < rows → at + k * stride + m ≤ l
room at stride rows k m l f h = omega (arith, row_room k rows stride h)

pub slice_bounds-xor_pages-end : goal.slice_bounds-xor_pages-end
slice_bounds-xor_pages-end c = sym (front_length c.args.page page_size c.requires.2)

pub xor_pages-requires : goal.xor_pages-requires
xor_pages-requires c = (front-zeros c.args.page page_size c.requires.2, same-room (c.args.at + c.args.rows * c.args.stride) c.args.page _ (length c.args.pool.now + c.args.stride) (front_length c.args.page page_size c.requires.2) c.requires.0)

pub overflow_mul-lost : goal.overflow_mul-lost
overflow_mul-lost c = omega (arith, room c.args.at c.args.stride c.args.rows c.args.lost c.args.page (length c.args.pool.now) c.requires.0 c.requires.1)

pub overflow_add-at : goal.overflow_add-at
overflow_add-at c = omega (arith, room c.args.at c.args.stride c.args.rows c.args.lost c.args.page (length c.args.pool.now) c.requires.0 c.requires.1)

pub slice_bounds-sum-end-2 : goal.slice_bounds-sum-end-2
slice_bounds-sum-end-2 c =
    let x = c.xor_pages in front_fits c.args.page page_size c.requires.2 x.new.sum x.auto.sum

pub slice_bounds-replace-end : goal.slice_bounds-replace-end
slice_bounds-replace-end c =
    let x = c.xor_pages in sym (front-count c.args.page page_size c.requires.2 x.new.sum x.auto.sum)

pub replace-requires : goal.replace-requires
replace-requires c =
    let x = c.xor_pages in same-room (c.args.at + c.args.lost * c.args.stride) c.args.page _ _ (front-count c.args.page page_size c.requires.2 x.new.sum x.auto.sum) (room c.args.at c.args.stride c.args.rows c.args.lost c.args.page (length c.args.pool.now) c.requires.0 c.requires.1)

pub returns : goal.returns
returns c =
    let x = c.xor_pages in
    let r = c.replace.ensures in
    let n = front-count c.args.page page_size c.requires.2 x.new.sum x.auto.sum in (
      r.0 ∙ ap (sets c.args.pool.now (c.args.at + c.args.lost * c.args.stride))
          (front-filled c.args.page page_size c.requires.2 x.new.sum x.auto.sum (other_byte c.args.pool.now c.args.at c.args.stride c.args.rows c.args.lost) x.ensures),
      r.1,
      omega (arith, n, r.2),
    )
