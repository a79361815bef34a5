-- `pool_log::Rows::around` meets its contract. Assumes nothing.
use mathlib.Core.Path.{refl}
use Rattle.layout.proofs.Range.{size-bounds}
use Rattle.pool_log.proofs.Targets.{rows-high, rows-low, rows-zone, zone-fits, zone-some}
use native.Mathlib.Omega.{arith}
use Rattle.pool_log.proofs.Rows.around.Goals as goal
use Rattle.pool_log.proofs.Rows.around.Goals.{then-a-from-via-then-a-from, then-a-from-via-else-a-from+then-size-a}

pub returns-then-a-from : goal.returns-then-a-from
returns-then-a-from c =
    elim c.then-a-from.branch [
      | then-a-from-via-then-a-from w ↦ rows-low c.args.s c.args.t _ c.zones_at-from.ensures w.if-a-from.true
      | then-a-from-via-else-a-from+then-size-a w ↦ rows-high c.args.s c.args.t _ w.size.ensures w.if-size-a.true
    ]

pub nonzero_div-a : goal.nonzero_div-a
nonzero_div-a c = zone-some c.args.s c.args.t _ _ _ c.zones_at-from.ensures c.if-a-from.false c.size.ensures c.if-size-a.false c.zone_size.ensures

pub zone_at-low-requires : goal.zone_at-low-requires
zone_at-low-requires c = zone-fits c.args.s c.args.t _ _ _ c.zones_at-from.ensures c.if-a-from.false c.size.ensures c.if-size-a.false c.zone_size.ensures

pub overflow_add-result : goal.overflow_add-result
overflow_add-result c = omega (arith, size-bounds c.args.s)

pub returns : goal.returns
returns c =
    rows-zone c.args.s c.args.t _ _ _ c.zones_at-from.ensures c.if-a-from.false c.size.ensures c.if-size-a.false c.zone_size.ensures _ _ _ c.zone_at-low.ensures.0 c.cells.ensures.0 refl
