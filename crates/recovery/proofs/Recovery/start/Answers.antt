-- `recovery::Recovery::start` meets its contract. Assumes nothing.
use mathlib.Core.Path.{sym, ap, ◌∙◌}
use Rattle.rules.specs.Header.{id_in}
use Rattle.powercut.specs.Steps.{remedy}
use Rattle.layout.specs.Meaning.{shape_of}
use Rattle.recovery.proofs.Starting.{headers-room, start-begun, start-refused}
use Rattle.recovery.proofs.Recovery.start.Goals as goal

pub id-requires : goal.id-requires
id-requires c = headers-room c.in-Ok.pool

pub returns-in-Err : goal.returns-in-Err
returns-in-Err c = start-refused _ _ _ (sym c.in-Err.ensures.shape) c.refused.ensures

pub returns-in-Ok : goal.returns-in-Ok
returns-in-Ok c =
    let o = c.in-Ok in
    start-begun _ o.pool.shape _ c.find.result _ (sym o.ensures.shape) (c.id.ensures ∙ ap id_in o.ensures.bytes) (c.find.ensures ∙ ap (remedy (shape_of o.pool.shape)) o.ensures.bytes) c.begin.ensures
