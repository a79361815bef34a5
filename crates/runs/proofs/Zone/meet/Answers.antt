-- `runs::Zone::meet` meets its contract. Assumes nothing.
use native.Mathlib.Omega.{arith}
use Rattle.runs.proofs.Rest.{meets-after, meets-free, meets-long, meets-none, meets-object, zoned-seen}
use Rattle.runs.proofs.Zone.meet.Goals as goal

pub returns-then-self-cell : goal.returns-then-self-cell
returns-then-self-cell c =
    meets-long (zoned-seen c.args.self.now) c.requires _ c.head-h.ensures c.cells-cells.ensures.0 (omega (arith, c.if-self-cell.true))

pub returns-then-after : goal.returns-then-after
returns-then-after c =
    meets-after (zoned-seen c.args.self.now) c.requires _ c.head-h.ensures c.cells-cells.ensures.0 c.if-self-cell.false c.free_ok.ensures c.if-free_ok.true c.if-after.true

pub returns-then-free_ok : goal.returns-then-free_ok
returns-then-free_ok c =
    meets-free (zoned-seen c.args.self.now) c.requires _ c.head-h.ensures c.cells-cells.ensures.0 c.if-self-cell.false c.free_ok.ensures c.if-free_ok.true c.if-after.false

pub returns-then-object_ok : goal.returns-then-object_ok
returns-then-object_ok c =
    meets-object (zoned-seen c.args.self.now) c.requires _ c.head-h.ensures c.cells-cells.ensures.0 c.if-self-cell.false c.free_ok.ensures c.if-free_ok.false c.object_ok.ensures c.if-object_ok.true

pub returns : goal.returns
returns c =
    meets-none (zoned-seen c.args.self.now) c.requires _ c.head-h.ensures c.cells-cells.ensures.0 c.free_ok.ensures c.if-free_ok.false c.object_ok.ensures c.if-object_ok.false
