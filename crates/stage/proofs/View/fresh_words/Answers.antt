-- `stage::View::fresh_words` meets its contract. Assumes nothing.
use Rattle.std.proofs.Common.{rules, tests}
use Rattle.std.proofs.lemmas.Iterator.{YieldsList-from_range}
use Rattle.std.proofs.lemmas.Iterator.Consumers.{YieldsList-from_filter, count_from_yields_List}
use Prim.Native.Nat.{ℕ, ◌+◌, ◌*◌}
use mathlib.Core.Bool.{Bool}
use mathlib.Core.Path.{◌≡◌, ◌∙◌}
use native.Mathlib.Omega.{arith}
use lib.Dec.{eqb}
use Rattle.stage.specs.View.{entries_of}
use Rattle.stage.specs.Touched.{added, missing}
use Rattle.stage.proofs.Counted.{count-fresh, fresh-told, missing-most}
use Rattle.stage.proofs.View.fresh_words.Goals as goal

pub returns : goal.returns
returns c =
    let a = c.args in
    let v = a.self.now in
    let f : ℕ → Bool = λ k. eqb (added (a.from + 8 * k) (entries_of v.staging.now v.count)) 1 in
    let e : c.count.result ≡ missing a.n a.from (entries_of v.staging.now v.count) =
    count_from_yields_List c.filter.result _ c.count.ensures.ran (YieldsList-from_filter _ f (YieldsList-from_range 0 a.n a.n c.filter.ensures.source (omega arith)) c.filter.ensures.closure (λ x b q k. search (rules, tests, fresh-told)))
    ∙ count-fresh a.n a.from (entries_of v.staging.now v.count) in
    (e, rw e (missing-most a.n a.from (entries_of v.staging.now v.count)))
