-- `columns::count_differences` meets its contract. Assumes nothing.
use mathlib.Core.Path.{◌≡◌, ◌∙◌}
use mathlib.Core.Logic.{inl, inr}
use native.Mathlib.Omega.{arith}
use lib.ListN.{length}
use Rattle.columns.proofs.Counting.{counting-block, counting-end, counting-few}
use Rattle.columns.proofs.count_differences.Goals as goal

pub loop-x-preserved : goal.loop-x-preserved
loop-x-preserved c =
    let i = c.loop-x.invariant in
    let n = c.in-Some.ensures.steps in
    let e = i.2.same in
    let l : length c.in-Some.x.now ≡ length c.in-Some.y.now = omega (arith, i.0, i.1, n.0.1.1, n.1.1.1) in
    (n.0.0 ∙ i.0, n.1.0 ∙ i.1, rw (c.from-total.ensures, c.count_block.ensures) (counting-block i.2 _ _ _ _ n.0.1.0 n.1.1.0 l))

pub overflow_add-total : goal.overflow_add-total
overflow_add-total c = omega (arith, counting-few (loop-x-preserved c).2)

pub returns : goal.returns
returns c =
    let i = c.loop-x.invariant in
    let e = i.2.same in
    elim c.in-None.ensures.steps [ inl a ↦ counting-end i.2 a.1.1.0 | inr b ↦ counting-end i.2 (e ∙ b.1.1.0) ]
