-- `pool::fill_zones` meets its contract. Assumes nothing.
use native.Mathlib.Omega.{arith}
use lib.Seq.{length-sets}
use Rattle.rules.specs.Runs.{free_head}
use borrow.Author.Rules.{rules}
use Rattle.layout.specs.Meaning.{shape_of}
use Rattle.layout.proofs.Range.{shape-good}
use Rattle.pool.proofs.Fresh.{filling-end, filling_step, zone-room}
use Rattle.pool.proofs.fill_zones.Goals as goal

pub put_head-requires : goal.put_head-requires
put_head-requires c = let l = c.loop-z in
    omega (arith, zone-room (shape_of c.args.s) (shape-good c.args.s) l.z (search rules), l.invariant.length-is, c.zone_at-at.ensures, c.cells-cells.ensures)

pub put_head-requires-in-loop-z : goal.put_head-requires-in-loop-z
put_head-requires-in-loop-z c = let l = c.loop-z in
    omega (arith, zone-room (shape_of c.args.s) (shape-good c.args.s) l.z (search rules), l.invariant.length-is, c.zone_at-at.ensures, c.cells-cells.ensures, length-sets l.pool c.zone_at-at.result (free_head c.cells-cells.result))

pub loop-z-preserved : goal.loop-z-preserved
loop-z-preserved c =
    filling_step c.loop-z.invariant (search rules) c.zone_at-at.ensures.0 c.cells-cells.ensures.0
    c.free_head-head.ensures c.put_head.ensures c.put_head-in-loop-z.ensures

pub returns : goal.returns
returns c = filling-end c.loop-z.invariant (search rules)
