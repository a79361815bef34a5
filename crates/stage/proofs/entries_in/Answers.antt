-- `stage::entries_in` meets its contract. Assumes nothing.
use Rattle.std.proofs.Common.{rules, tests}
use Rattle.std.proofs.lemmas.Iterator.Search.{any_from_yields_List}
use Prim.Native.Nat.{◌-◌}
use mathlib.Core.Path.{◌≡◌, refl, sym, ◌∙◌}
use mathlib.Core.Bool.{false, ◌&&◌}
use mathlib.Core.Logic.{inl, inr}
use lib.Dec.{leb, ltb}
use Rattle.std.specs.List.{list_any}
use Rattle.rules.specs.Words.{word}
use Rattle.stage.specs.View.{entries_of}
use Rattle.stage.proofs.Pieces.{clear-none, left-start, yields-entries}
use Rattle.stage.proofs.entries_in.Goals as goal

pub returns-then-asked : goal.returns-then-asked
returns-then-asked c = record { some = inl refl }

pub returns-else-asked : goal.returns-else-asked
unfolding word
returns-else-asked c =
    let a = c.args in
    let s = c.chunks_exact.ensures in
    let e : false ≡ list_any (λ x. leb a.from x.at && ltb (x.at - a.from) a.n) (entries_of a.staging.now a.count) =
    sym c.if-asked.false
    ∙ any_from_yields_List (λ x. leb a.from x.at && ltb (x.at - a.from) a.n) _ _ _ c.any-asked.ensures.ran (yields-entries (left-start a.staging.now a.count _ c.requires s.size s.rest)) (λ x b q k. search (rules, tests)) in
    record { some = inr (refl, clear-none a.from a.n (entries_of a.staging.now a.count) (sym e)) }
