-- `columns::count_block` meets its contract. Assumes nothing.
use Rattle.std.proofs.lemmas.Iterator.{empty_from_Zip}
use Rattle.std.proofs.lemmas.Slice.Zip.{Zip-more}
use mathlib.Core.Path.{ap}
use native.Mathlib.Omega.{arith}
use lib.ListN.{length}
use Rattle.columns.proofs.Counting.{counting-differs, counting-end, counting-few, counting-same}
use Rattle.columns.proofs.count_block.Goals as goal

pub loop-x-preserved-then-x-y : goal.loop-x-preserved-then-x-y
loop-x-preserved-then-x-y c =
    let z = Zip-more _ c.next.new.self _ _ c.in-Some.is c.next.ensures.steps in
    counting-differs c.loop-x.invariant z.0 z.1 c.if-x-y.true

pub overflow_add-n : goal.overflow_add-n
overflow_add-n c = omega (arith, counting-few (loop-x-preserved-then-x-y c))

pub loop-x-preserved : goal.loop-x-preserved
loop-x-preserved c =
    let z = Zip-more _ c.next.new.self _ _ c.in-Some.is c.next.ensures.steps in
    counting-same c.loop-x.invariant z.0 z.1 c.if-x-y.false

pub returns : goal.returns
returns c =
    counting-end c.loop-x.invariant (ap length (empty_from_Zip _ c.next.new.self _ c.in-None.is c.next.ensures.steps c.loop-x.invariant.same).0)
