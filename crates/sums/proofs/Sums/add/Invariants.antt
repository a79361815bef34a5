-- `Sums::add` meets its contract. Assumes nothing.
use Rattle.sums.proofs.Fed.{Adding}
use Rattle.sums.proofs.Sums.add.Given as goal

abbrev pub invariant-loop-b : goal.invariant-loop-b
invariant-loop-b l = Adding l.initial.low l.initial.high l.block l.low l.high l.b-index
