-- `columns::replace` meets its contract. Assumes nothing.
use mathlib.Core.Path.{refl}
use lib.ListN.{length}
use Rattle.columns.proofs.Counting.{slice-length, replaced}
use Rattle.columns.proofs.replace.Goals as goal

pub count_differences-altered-requires : goal.count_differences-altered-requires
count_differences-altered-requires c =
    slice-length c.args.pool.now c.args.at (length c.args.new.now) c.requires

pub returns : goal.returns
returns c =
    let s = c.store.ensures in
    let r = replaced c.args.pool.now c.args.at (length c.args.new.now) c.requires _ c.args.new.now _ refl s c.count_differences-altered.ensures in
    (s, r.0, r.1)
