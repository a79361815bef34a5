-- `allocate::place` meets its contract. Assumes nothing.
use Rattle.allocate.proofs.Placed.{cells-some, fresh-body, fresh-rest, placed, room-body, room-head, room-rest, touched-object}
use native.Mathlib.Omega.{arith}
use Rattle.allocate.proofs.place.Goals as goal

pub touch_head-n-requires : goal.touch_head-n-requires
touch_head-n-requires c = (room-head c.requires.0 c.requires.4 c.cells_for-cells.ensures.0, omega arith, c.requires.0.head)

pub overflow_sub-cells : goal.overflow_sub-cells
overflow_sub-cells c = omega (arith, cells-some _ c.cells_for-cells.ensures.0)

pub touch_body-n-requires : goal.touch_body-n-requires
touch_body-n-requires c =
    let u = c.requires.0 in
    let e = c.cells_for-cells.ensures.0 in
    let t = c.touch_head-n.ensures in
    (room-body u c.requires.4 e t, omega arith, omega arith, fresh-body u c.requires.4 e t)

pub touch_rest-requires : goal.touch_rest-requires
touch_rest-requires c =
    let a = c.args in
    let u = c.requires.0 in
    let e = c.cells_for-cells.ensures.0 in
    let w = touched-object a.tag _ _ c.object_head-h.ensures e c.touch_head-n.ensures c.touch_body-n.ensures in
    (room-rest a.tag a.body.now u c.requires.4 e w, c.requires.3, omega arith, fresh-rest a.tag a.body.now u c.requires.4 e w)

pub returns : goal.returns
returns c =
    let a = c.args in
    let e = c.cells_for-cells.ensures.0 in
    let w = touched-object a.tag _ _ c.object_head-h.ensures e c.touch_head-n.ensures c.touch_body-n.ensures in
    placed a.tag a.body.now c.requires.0 c.requires.4 e w c.touch_rest.ensures
