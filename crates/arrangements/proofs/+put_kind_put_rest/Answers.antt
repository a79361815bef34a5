-- `arrangements::put_kind` and `arrangements::put_rest` meet their contracts. Assumes nothing.
use mathlib.Core.Path.{refl}
use native.Mathlib.Omega.{arith}
use Rattle.arrangements.proofs.Printing.{after-printed, after-room, both-printed, free-room, line-printed, line-room, object-room, printing-end, printing-room, printing-step}
use Rattle.arrangements.proofs.+put_kind_put_rest.Goals.{put_rest-else-not-after, put_rest-then-not-after}
use Rattle.arrangements.proofs.+put_kind_put_rest.Goals as goal

pub put_kind-put_rest-requires : goal.put_kind-put_rest-requires
put_kind-put_rest-requires t c =
    let l = c.loop-cells.invariant in
    (rw (← c.decreases) (omega (arith, l.some)), printing-room l c.requires (omega arith) c.put_extent.ensures)

pub put_kind-loop-cells-preserved : goal.put_kind-loop-cells-preserved
put_kind-loop-cells-preserved t c =
    printing-step c.loop-cells.invariant c.requires (omega arith) c.put_extent.ensures c.put_rest.ensures c.length-begun.ensures c.truncate.ensures.place c.truncate.ensures.buffer

pub put_kind-returns : goal.put_kind-returns
put_kind-returns t c = printing-end c.loop-cells.invariant (omega arith)

pub put_rest-put_line-requires : goal.put_rest-put_line-requires
put_rest-put_line-requires t c = line-room _ c.requires c.if-left-eq0.true

pub put_rest-returns-then-left-eq0 : goal.put_rest-returns-then-left-eq0
put_rest-returns-then-left-eq0 t c = line-printed _ c.requires c.if-left-eq0.true c.put_line.ensures

pub put_rest-put_kind-requires : goal.put_rest-put_kind-requires
put_rest-put_kind-requires t c = (rw (← c.decreases) (omega arith), free-room _ c.requires c.if-left-eq0.false c.if-not-after.true)

pub put_rest-put_kind-requires-2 : goal.put_rest-put_kind-requires-2
put_rest-put_kind-requires-2 t c = (
  rw (← c.decreases) (omega arith),
  elim c.if-not-after.branch [
    | put_rest-then-not-after w ↦ rw (w.line-is, w.out-is) (object-room _ c.requires c.if-left-eq0.false w.if-not-after.true w.put_kind.ensures refl)
    | put_rest-else-not-after w ↦ rw (w.line-is, w.out-is) (after-room _ c.requires c.if-left-eq0.false w.if-not-after.false)
  ],
)

pub put_rest-returns : goal.put_rest-returns
put_rest-returns t c =
    elim c.if-not-after.branch [
      | put_rest-then-not-after w ↦ both-printed _ c.requires c.if-left-eq0.false w.if-not-after.true w.put_kind.ensures (rw (w.line-is, w.out-is) at c.put_kind-2.ensures)
      | put_rest-else-not-after w ↦ after-printed _ c.requires c.if-left-eq0.false w.if-not-after.false (rw (w.line-is, w.out-is) at c.put_kind-2.ensures)
    ]
