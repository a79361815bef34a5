-- `columns::count_block` meets its contract. Assumes nothing.
use Rattle.std.specs.Iterator.Adapters.{zip_first, zip_second}
use Rattle.std.specs.Slice.Iter.{iter_rest}
use Rattle.columns.proofs.Counting.{Counting}
use Rattle.columns.proofs.count_block.Given as goal

abbrev pub invariant-loop-x : goal.invariant-loop-x
invariant-loop-x l = Counting l.before l.after (iter_rest (zip_first l.x-iterator)) (iter_rest (zip_second l.x-iterator)) l.n
