-- `overwrite::part_check` meets its contract. Assumes nothing.
use Rattle.overwrite.proofs.Updated.{check-both}
use Rattle.overwrite.proofs.part_check.Goals as goal

pub returns : goal.returns
returns c =
    let a = c.args in
    check-both a.check a.left a.skip a.old.now a.new.now c.min-n.ensures c.updated_range.ensures
