-- `stage::fill_index` meets its contract. Assumes nothing.
use Rattle.std.proofs.Common.{◌≤◌, ◌-◌, ◌*◌}
use Rattle.std.specs.Iterator.Adapters.{enumerate_count, enumerate_source}
use Rattle.stage.specs.Index.{Chained}
use Rattle.stage.proofs.Pieces.{Left}
use Rattle.stage.proofs.fill_index.Given as goal

abbrev pub invariant-loop-i : goal.invariant-loop-i
invariant-loop-i l =
    record {
      le : enumerate_count l.i-iterator ≤ l.count;
      left : Left l.staging (16 * enumerate_count l.i-iterator) (l.count - enumerate_count l.i-iterator) (enumerate_source l.i-iterator);
      chained : Chained l.index l.staging (enumerate_count l.i-iterator);
    }
