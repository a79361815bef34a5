-- `errors::Queue::judged` meets its contract. Assumes nothing.
use Rattle.std.proofs.Common.{not}
use Prim.Native.Nat.{ℕ}
use mathlib.Core.Path.{◌≡◌, sym, ap, ◌∙◌}
use mathlib.Core.Bool.{false, true}
use lib.ListN.{take}
use native.Mathlib.Omega.{arith}
use borrow.Author.Rules.{rules}
use borrow.Author.Tests.{not-false, not-true, tests}
use Rattle.std.proofs.lemmas.Iterator.{YieldsList-from_slice}
use Rattle.std.proofs.lemmas.Iterator.Search.{all_from_yields_List}
use Rattle.std.proofs.lemmas.List.{drop-replicate}
use Rattle.errors.specs.Errors.{all_errors, is_error}
use Rattle.errors.specs.Meaning.{queue_in, queue_out}
use Rattle.errors.proofs.Errors.{all_errors-list_all, bad-judged, many-judged}
use Rattle.errors.proofs.Places.{judged_places}
use Rattle.errors.proofs.Queue.judged.Goals as goal

pub returns-then-count-gt10 : goal.returns-then-count-gt10
unfolding queue_in
returns-then-count-gt10 c = c.new.ensures ∙ sym (ap queue_out (many-judged _ c.args.self.errors (omega arith)))

pub returns-then-not-all : goal.returns-then-not-all
unfolding queue_in
returns-then-not-all c =
    let given = c.args.self.errors in
    let n = c.args.self.count in
    let t = all_from_yields_List is_error _ _ c.all.result c.all.ensures.ran (YieldsList-from_slice (take n given) (search rules)) (λ x b q k. search (rules, tests)) in
    let e : all_errors (take n given) ≡ false = all_errors-list_all (take n given) ∙ sym t ∙ not-true c.all.result (ap not c.if-not-all.true) in
    c.new-then-not-all.ensures ∙ sym (ap queue_out (bad-judged n given e))

pub returns : goal.returns
unfolding queue_in
returns c =
    let given = c.args.self.errors in
    let n = c.args.self.count in
    let t = all_from_yields_List is_error _ _ c.all.result c.all.ensures.ran (YieldsList-from_slice (take n given) (search rules)) (λ x b q k. search (rules, tests)) in
    let a : all_errors (take n given) ≡ true = all_errors-list_all (take n given) ∙ sym t ∙ not-false c.all.result (ap not c.if-not-all.false) in
    let w : c.copy_from_slice.new.self ≡ take n given = search rules in
    rw (w, drop-replicate {X = ℕ} n 10 0) (judged_places given n (omega arith) (search rules) a)
