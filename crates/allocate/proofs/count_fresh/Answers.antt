-- `allocate::count_fresh` meets its contract. Assumes nothing.
use Rattle.std.proofs.Common.{refl}
use Rattle.allocate.proofs.Placed.{cells-some, counted, counted-fits}
use native.Mathlib.Omega.{arith}
use Rattle.allocate.proofs.count_fresh.Goals as goal

pub overflow_sub-words : goal.overflow_sub-words
overflow_sub-words c = omega (arith, cells-some c.args.m c.cells_for-cells.ensures.0)

pub returns-then-view-head-gt-ENTRIES : goal.returns-then-view-head-gt-ENTRIES
returns-then-view-head-gt-ENTRIES c =
    let v = c.args.view.now in
    (refl, rw (counted v.staging.now v.count c.args.at c.args.left c.args.m c.cells_for-cells.ensures.0 c.free_words-spare.ensures.0 c.fresh_words-head.ensures.0 c.fresh_words-body.ensures.0 c.fresh_words-rest.ensures.0) at c.if-view-head-gt-ENTRIES.true)

pub returns : goal.returns
returns c =
    let v = c.args.view.now in
    counted-fits v.staging.now v.count c.args.at c.args.left c.args.m c.cells_for-cells.ensures.0 c.free_words-spare.ensures.0 c.fresh_words-head.ensures.0 c.fresh_words-body.ensures.0 c.fresh_words-rest.ensures.0 c.if-view-head-gt-ENTRIES.false
