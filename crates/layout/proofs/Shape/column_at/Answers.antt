-- `layout::Shape::column_at` meets its contract. Assumes nothing.
use Rattle.layout.specs.Meaning.{shape_of}
use native.Mathlib.Omega.{arith}
use Rattle.layout.proofs.Range.{bounds, column-below, shape-good}
use Rattle.layout.proofs.Shape.column_at.Goals as goal

pub overflow_mul-c : goal.overflow_mul-c
overflow_mul-c c = omega (arith, bounds c.args.self, column-below (shape_of c.args.self) (shape-good c.args.self) c.args.c c.requires.1)

pub byte_at-requires : goal.byte_at-requires
byte_at-requires c = (c.requires.0, omega arith, column-below (shape_of c.args.self) (shape-good c.args.self) c.args.c c.requires.1)
