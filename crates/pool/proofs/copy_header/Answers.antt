-- `pool::copy_header` meets its contract. Assumes nothing.
use mathlib.Core.Path.{refl}
use mathlib.Core.Logic.{inl, inr}
use native.Mathlib.Omega.{arith}
use Rattle.layout.proofs.Range.{bounds, size-bounds}
use Rattle.pool.proofs.Mending.{mended-both, mended-copy, mended-first}
use Rattle.pool.proofs.copy_header.Goals as goal

pub overflow_mul-end : goal.overflow_mul-end
overflow_mul-end c = omega (arith, bounds c.args.s)

pub slice_bounds-valid-end : goal.slice_bounds-valid-end
slice_bounds-valid-end c = omega (arith, size-bounds c.args.s, c.requires.size)

pub copy-requires : goal.copy-requires
copy-requires c = let b = size-bounds c.args.s in let k = c.requires.size in record { from_le = omega arith; to_le = omega arith; apart = inr (omega arith) }

pub returns-then-not-valid : goal.returns-then-not-valid
returns-then-not-valid c =
    mended-first c.args.pool.now c.args.s.page _ c.args.s.paged refl _ c.valid.ensures _ c.if-not-valid.true c.copy.ensures

pub slice_bounds-valid-end-else-not-valid : goal.slice_bounds-valid-end-else-not-valid
slice_bounds-valid-end-else-not-valid c = omega (arith, size-bounds c.args.s, c.requires.size)

pub copy-requires-then-not-valid-2 : goal.copy-requires-then-not-valid-2
copy-requires-then-not-valid-2 c = let b = size-bounds c.args.s in let k = c.requires.size in record { from_le = omega arith; to_le = omega arith; apart = inl (omega arith) }

pub returns-then-not-valid-2 : goal.returns-then-not-valid-2
returns-then-not-valid-2 c =
    mended-copy c.args.pool.now c.args.s.page _ c.args.s.paged refl _ c.valid.ensures _ c.valid-else-not-valid.ensures _ c.if-not-valid.false c.if-not-valid-2.true c.copy-then-not-valid-2.ensures

pub returns-else-not-valid-2 : goal.returns-else-not-valid-2
returns-else-not-valid-2 c =
    mended-both c.args.pool.now c.args.s.page _ c.args.s.paged refl _ c.valid.ensures _ c.valid-else-not-valid.ensures c.if-not-valid.false c.if-not-valid-2.false
