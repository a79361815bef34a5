-- `stage::entry_index` meets its contract. Assumes nothing.
use Rattle.std.proofs.Common.{rules, tests}
use Rattle.std.proofs.lemmas.Iterator.Search.{position_from_yields_List}
use lib.Dec.{eqb}
use Rattle.rules.specs.Words.{word}
use Rattle.stage.proofs.Pieces.{left-start, placed-found, yields-entries}
use Rattle.stage.proofs.entry_index.Goals as goal

pub returns : goal.returns
unfolding word
returns c =
    let a = c.args in
    let s = c.chunks_exact.ensures in
    placed-found a.staging.now a.count a.target c.position.result
    (position_from_yields_List (λ x. eqb x.at a.target) _ _ _ c.position.ensures.ran (yields-entries (left-start a.staging.now a.count _ c.requires s.size s.rest)) (λ x b q k. search (rules, tests)))
