-- `write::count_fresh` meets its contract. Assumes nothing.
use Rattle.std.proofs.Common.{refl}
use Rattle.stage.proofs.Views.{length-by}
use Rattle.write.proofs.Words.{counted, counted-fits}
use native.Mathlib.Omega.{arith}
use Rattle.write.proofs.count_fresh.Goals as goal

pub overflow_add-from-2 : goal.overflow_add-from-2
overflow_add-from-2 c = omega (arith, length-by c.args.view.now)

pub overflow_add-c : goal.overflow_add-c
overflow_add-c c = omega (arith, length-by c.args.view.now)

pub fresh_words-check-requires : goal.fresh_words-check-requires
fresh_words-check-requires c = omega (arith, length-by c.args.view.now)

pub overflow_mul-from : goal.overflow_mul-from
overflow_mul-from c = omega (arith, length-by c.args.view.now)

pub fresh_words-range-requires : goal.fresh_words-range-requires
fresh_words-range-requires c = omega (arith, length-by c.args.view.now)

pub returns-then-view-check-gt-ENTRIES : goal.returns-then-view-check-gt-ENTRIES
returns-then-view-check-gt-ENTRIES c =
    let v = c.args.view.now in
    (refl, rw (counted v.staging.now v.count c.args.c.now c.fresh_words-check.ensures.0 c.fresh_words-range.ensures.0) at c.if-view-check-gt-ENTRIES.true)

pub returns : goal.returns
returns c =
    let v = c.args.view.now in
    counted-fits v.staging.now v.count c.args.c.now c.fresh_words-check.ensures.0 c.fresh_words-range.ensures.0 c.if-view-check-gt-ENTRIES.false
