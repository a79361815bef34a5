-- `repair::any_above` meets its contract. Assumes nothing.
use Rattle.std.proofs.Common.{rules, tests}
use Rattle.std.proofs.lemmas.Iterator.{YieldsList-from_slice}
use Rattle.std.proofs.lemmas.Iterator.Search.{any_from_yields_List}
use Prim.Native.Nat.{◌+◌, ◌*◌, ◌%◌, ◌^◌}
use mathlib.Core.Path.{◌∙◌}
use native.Mathlib.Omega.{arith}
use lib.Dec.{leb}
use Rattle.layout.specs.Meaning.{shape_of}
use Rattle.layout.proofs.Range.{bounds}
use Rattle.repair.proofs.Masks.{above-any, mask_end}
use Rattle.repair.proofs.any_above.Goals as goal

pub overflow_add-end : goal.overflow_add-end
overflow_add-end c = omega (arith, bounds c.args.s)

pub overflow_shl-end : goal.overflow_shl-end
overflow_shl-end c = omega (arith, bounds c.args.s)

pub returns : goal.returns
returns c =
    any_from_yields_List (leb (1 * 2 ^ (c.args.s.rows + 1) % 2 ^ 64)) _ _ _ c.any.ensures.ran (YieldsList-from_slice c.args.lost.now cc) (λ x b q k. search (rules, tests))
    ∙ above-any (shape_of c.args.s) _ c.args.lost.now (mask_end c.args.s.rows (bounds c.args.s).rows-high)
