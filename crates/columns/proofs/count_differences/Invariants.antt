-- `columns::count_differences` meets its contract. Assumes nothing.
use mathlib.Core.Path.{◌≡◌}
use Rattle.std.specs.Iterator.Adapters.{zip_first, zip_second}
use Rattle.std.specs.Slice.Iter.{chunks_rest, chunks_size}
use Rattle.columns.proofs.Counting.{Counting}
use Rattle.columns.proofs.count_differences.Given as goal

abbrev pub invariant-loop-x : goal.invariant-loop-x
invariant-loop-x l =
    (chunks_size (zip_first l.x-iterator) ≡ 128) × (chunks_size (zip_second l.x-iterator) ≡ 128)
    × Counting l.before l.after (chunks_rest (zip_first l.x-iterator)) (chunks_rest (zip_second l.x-iterator)) l.total
