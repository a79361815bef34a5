-- `runs::Zone::locate` meets its contract. Assumes nothing.
use Rattle.stage.specs.Seen.{seen_by}
use Rattle.runs.specs.Rest.{walk_of}
use Rattle.runs.proofs.Going.{Going}
use Rattle.runs.proofs.Spotted.{Locating}
use Rattle.runs.proofs.Zone.locate.Given as goal

abbrev pub invariant-loop-met : goal.invariant-loop-met
invariant-loop-met l =
    Going (λ c w. w.whole) (walk_of (seen_by l.self.view) l.self.from l.self.cells).whole l.self l.met-iterator
    × Locating (seen_by l.self.view) l.self.from l.self.cells l.a l.prior l.met-iterator.cell l.met-iterator.after l.spot
