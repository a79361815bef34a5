-- `zones::Zones::search` meets its contract. Assumes nothing.
use Rattle.std.proofs.Common.{◌≡◌, Err}
use Rattle.refusals.specs.declared.Refusal.TheVariants.{NoRoom}
use Rattle.layout.specs.Meaning.{shape_of}
use Rattle.stage.specs.Seen.{seen_by}
use Rattle.runs.specs.Taken.{walk_by}
use Rattle.runs.proofs.Going.{Going}
use Rattle.zones.proofs.Searching.{Outside, fits_from}
use Rattle.zones.proofs.Zones.search.Given as goal

abbrev pub invariant-search : goal.invariant-search
invariant-search l = Outside (shape_of l.self.shape) (seen_by l.self.view) l.k l.z × (l.fit ≡ Err NoRoom)

abbrev pub invariant-loop-met : goal.invariant-loop-met
invariant-loop-met l = Going (fits_from l.k) (fits_from l.k 0 (walk_by l.zone)) l.zone l.met-iterator × (l.fit ≡ Err NoRoom)
