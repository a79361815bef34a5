-- `arrangements::put_kind` and `arrangements::put_rest` call each other with fewer cells left: the measure is twice those, and one more for
-- `put_rest`. The loop over the cells of the next run prints the lines of each.
use Prim.Native.Nat.{◌+◌, ◌*◌}
use Rattle.arrangements.proofs.Printing.{Printing}
use Rattle.arrangements.proofs.+put_kind_put_rest.Given as goal

abbrev pub decreases-put_kind : goal.decreases-put_kind
decreases-put_kind l = 2 * l.left

abbrev pub decreases-put_rest : goal.decreases-put_rest
decreases-put_rest l = 2 * l.left + 1

abbrev pub invariant-put_kind-loop-cells : goal.invariant-put_kind-loop-cells
invariant-put_kind-loop-cells l = Printing l.initial.line l.left l.free l.initial.out l.line l.out l.cells
