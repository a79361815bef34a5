-- `layout::Shape::row_at` meets its contract. Assumes nothing.
use Rattle.layout.specs.Meaning.{shape_of}
use native.Mathlib.Omega.{arith}
use Rattle.layout.proofs.Range.{bounds, place_in, place-row, shape-good}
use Rattle.layout.proofs.Shape.row_at.Goals as goal

pub nonzero_div-o : goal.nonzero_div-o
nonzero_div-o c = omega (arith, bounds c.args.self, c.row_size-row.ensures)

pub overflow_add-self : goal.overflow_add-self
overflow_add-self c = omega (arith, bounds c.args.self)

pub nonzero_rem-o : goal.nonzero_rem-o
nonzero_rem-o c = omega (arith, bounds c.args.self, c.row_size-row.ensures)

pub byte_at-requires : goal.byte_at-requires
byte_at-requires c =
    let h = place_in (shape_of c.args.self) (shape-good c.args.self) c.args.t _ _ c.requires.0 c.row_size-row.ensures c.zones_at.ensures in
    (h.0, c.requires.1, h.1)

pub returns : goal.returns
returns c =
    place-row (shape_of c.args.self) (shape-good c.args.self) c.args.t c.args.r _ _ _ c.row_size-row.ensures c.zones_at.ensures c.byte_at.ensures
