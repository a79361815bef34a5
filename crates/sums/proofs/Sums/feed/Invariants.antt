-- `Sums::feed` meets its contract. Assumes nothing.
use Rattle.std.specs.Slice.Iter.{chunks_rest, chunks_size}
use Rattle.std.proofs.Common.{◌≡◌}
use Rattle.sums.specs.declared.TheConstants.{BLOCK}
use Rattle.sums.proofs.Fed.{Feeding}
use Rattle.sums.proofs.Sums.feed.Given as goal

abbrev pub invariant-loop-block : goal.invariant-loop-block
invariant-loop-block l = (chunks_size l.block-iterator ≡ BLOCK) × Feeding l.initial.sums.low l.initial.sums.high l.part l.sums.low l.sums.high (chunks_rest l.block-iterator)
