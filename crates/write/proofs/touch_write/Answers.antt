-- `write::touch_write` meets its contract. Assumes nothing.
use native.Mathlib.Omega.{arith}
use Rattle.stage.proofs.Seen.{length_seen}
use Rattle.write.proofs.Words.{check-room, range-fresh, range-ready, write_done}
use borrow.Author.Rules.{rules}
use Rattle.write.proofs.touch_write.Goals as goal

pub overflow_add-c : goal.overflow_add-c
overflow_add-c c = omega (arith, length_seen c.args.pool.now c.args.staging.now c.args.count)

pub touch_known-n-requires : goal.touch_known-n-requires
touch_known-n-requires c =
    (check-room c.args.c.now c.requires.0 c.requires.1 c.requires.2 c.requires.4, c.requires.2.check)

pub overflow_add-c-3 : goal.overflow_add-c-3
overflow_add-c-3 c = omega (arith, length_seen c.args.pool.now c.args.staging.now c.args.count)

pub touch_range-requires : goal.touch_range-requires
touch_range-requires c =
    let r = range-ready c.args.c.now c.requires.0 c.requires.1 c.requires.2 c.requires.4 (search rules) c.touch_known-n.ensures in
    (r.0, r.1, range-fresh c.args.c.now c.requires.0 c.requires.1 c.requires.2 c.requires.4 (search rules) c.touch_known-n.ensures)

pub returns : goal.returns
returns c = write_done c.args.c.now c.requires.0 c.requires.1 c.requires.2 c.requires.4 (search rules) c.touch_known-n.ensures c.requires.3 c.touch_range.ensures
