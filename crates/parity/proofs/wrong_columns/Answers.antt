-- `parity::wrong_columns` meets its contract. Assumes nothing.
use Rattle.std.proofs.Common.{rules, tests}
use Rattle.std.proofs.lemmas.Iterator.{YieldsList-from_map, YieldsList-from_range}
use Rattle.std.proofs.lemmas.Iterator.Consumers.{sum_by_from_yields_List, fits_by_from_yields_list}
use Prim.Native.Nat.{ℕ, ◌*◌, ◌≤◌}
use native.Mathlib.Nat.{mul-le-mul}
use mathlib.Core.Bool.{not}
use mathlib.Core.List.{List}
use mathlib.Core.Path.{◌∙◌}
use native.Mathlib.Omega.{arith}
use Rattle.std.specs.List.{range_with_len, sum_by}
use Rattle.rules.specs.Shape.{Shape}
use Rattle.rules.specs.Scrub.{column_right, count_to, wrong_columns}
use Rattle.layout.specs.Meaning.{shape_of}
use Rattle.layout.proofs.Range.{bounds}
use Rattle.parity.proofs.Places.{count-most, sum-most, sum-range}
use Rattle.parity.proofs.wrong_columns.Goals as goal

-- the columns of a zone with wrong parity
abbrev wrong : Shape → List ℕ → ℕ → ℕ
wrong sh p z = count_to sh.cols (λ c. not (column_right sh p z c))

pub sum-requires-clause-fits : goal.sum-requires-clause-fits
sum-requires-clause-fits c =
    let h : ℕ → ℕ = wrong (shape_of c.args.pool.now.shape) c.args.pool.now.bytes.now in
    let n : ℕ = c.args.pool.now.shape.zones in
    let m : sum_by h (range_with_len 0 n) ≤ n * c.args.pool.now.shape.cols = rw sum-range (sum-most h c.args.pool.now.shape.cols n (λ z. count-most _ c.args.pool.now.shape.cols)) in
    let b = bounds c.args.pool.now.shape in
    let k : n * c.args.pool.now.shape.cols ≤ 16 * 64 = mul-le-mul b.zones-high b.cols-high in
    fits_by_from_yields_list h (range_with_len 0 n) c.map.result _ (YieldsList-from_map _ h (YieldsList-from_range 0 n n c.map.ensures.source (omega arith)) c.map.ensures.closure (λ x r q k. search (rules, tests))) (omega arith)

pub returns : goal.returns
unfolding wrong_columns
returns c =
    let h : ℕ → ℕ = wrong (shape_of c.args.pool.now.shape) c.args.pool.now.bytes.now in
    sum_by_from_yields_List h (range_with_len 0 c.args.pool.now.shape.zones) c.map.result _ c.sum.ensures.ran (YieldsList-from_map _ h (YieldsList-from_range 0 c.args.pool.now.shape.zones c.args.pool.now.shape.zones c.map.ensures.source (omega arith)) c.map.ensures.closure (λ x r q k. search (rules, tests)))
    ∙ sum-range h c.args.pool.now.shape.zones
