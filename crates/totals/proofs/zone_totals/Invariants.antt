-- `totals::zone_totals` meets its contract. Assumes nothing.
use Rattle.totals.proofs.Totalling.{Totalling}
use Rattle.totals.proofs.zone_totals.Given as goal

abbrev pub invariant-loop-met : goal.invariant-loop-met
invariant-loop-met l = Totalling l.zone l.met-iterator l.totals.objects l.totals.bytes l.totals.free
