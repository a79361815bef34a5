-- `sums::updated_range` meets its contract. Assumes nothing.
use Rattle.std.proofs.Common.{◌≡◌, ◌≤◌, length}
use Rattle.std.specs.Iterator.Adapters.{zip_first, zip_second}
use Rattle.std.specs.Slice.Iter.{iter_rest}
use Rattle.sums.specs.Fed.{updated_range}
use Rattle.sums.proofs.updated_range.Given as goal

abbrev pub invariant-loop-u : goal.invariant-loop-u
invariant-loop-u l =
    let us = iter_rest (zip_first l.u-iterator) in
    let vs = iter_rest (zip_second l.u-iterator) in
    (length us ≤ l.left) × (length vs ≡ length us) × (updated_range l.sum l.left us vs ≡ updated_range l.check l.n l.old l.new)
