-- `parity::wrong_in_zone` meets its contract. Assumes nothing.
use Rattle.std.proofs.Common.{rules, tests}
use Rattle.std.proofs.lemmas.Iterator.{YieldsList-from_range}
use Rattle.std.proofs.lemmas.Iterator.Consumers.{YieldsList-from_filter, count_from_yields_List}
use Prim.Native.Nat.{ℕ}
use mathlib.Core.Bool.{Bool, not}
use mathlib.Core.Path.{◌∙◌}
use native.Mathlib.Omega.{arith}
use Rattle.rules.specs.Scrub.{column_right}
use Rattle.layout.specs.Meaning.{shape_of}
use Rattle.parity.proofs.Places.{count-range}
use Rattle.parity.proofs.wrong_in_zone.Goals as goal

pub returns : goal.returns
returns c =
    let f : ℕ → Bool = λ k. not (column_right (shape_of c.args.pool.now.shape) c.args.pool.now.bytes.now c.args.z k) in
    count_from_yields_List c.filter.result _ c.count.ensures.ran (YieldsList-from_filter _ f (YieldsList-from_range 0 c.args.pool.now.shape.cols c.args.pool.now.shape.cols c.filter.ensures.source (omega arith)) c.filter.ensures.closure (λ x b q k. search (rules, tests)))
    ∙ count-range f c.args.pool.now.shape.cols
