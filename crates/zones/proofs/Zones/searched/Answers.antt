-- `zones::Zones::searched` meets its contract. Assumes nothing.
use mathlib.Core.Path.{sym, ap, subst, ◌∙◌}
use Rattle.stage.specs.Seen.{seen_by}
use Rattle.runs.specs.Rest.{Zoned, walk_of}
use Rattle.runs.proofs.Rest.{walk-within}
use Rattle.stage.specs.declared.View.{View}
use Rattle.zones.proofs.Shaped.{walk-in}
use Rattle.zones.proofs.Zones.searched.Goals as goal

pub returns : goal.returns
returns c =
    let e = c.zone-zone.ensures in
    walk-within c.within.ensures (subst (λ (v : View). Zoned v.pool.now c.zone-zone.result.from c.zone-zone.result.cells) e.view_is c.zone-zone.result.zoned) ∙ sym (ap (λ (v : View). walk_of (seen_by v) c.zone-zone.result.from c.zone-zone.result.cells) e.view_is) ∙ sym (walk-in e)
