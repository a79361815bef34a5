-- `lines::with_number` meets its contract. Assumes nothing.
use Rattle.std.proofs.Common.{not}
use mathlib.Core.Path.{◌≡◌, sym, ap, ◌∙◌}
use mathlib.Core.Bool.{true}
use native.Mathlib.Omega.{arith}
use borrow.Author.Rules.{rules}
use borrow.Author.Tests.{not-false, not-true, tests}
use Rattle.std.specs.Char.{is_ascii_digit}
use Rattle.std.proofs.lemmas.Bool.Decides.{nat_tests}
use Rattle.std.proofs.lemmas.Iterator.{YieldsList-from_slice}
use Rattle.std.proofs.lemmas.Iterator.Search.{all_from_yields_List}
use Rattle.std.proofs.lemmas.Result.{err_from_is_err_and}
use Rattle.errors.specs.declared.Error.TheVariants.{OutOfRange}
use Rattle.lines.specs.Line.{all_digits}
use Rattle.lines.proofs.Numbers.{all_digits-list_all, error-given, numbered-above, numbered-good, numbered-none, numbered-untyped}
use Rattle.lines.proofs.with_number.Goals as goal

pub returns-then-is_empty : goal.returns-then-is_empty
returns-then-is_empty c = sym (numbered-none _ _ (grind (arith, nat_tests)))

pub returns-then-not-all : goal.returns-then-not-all
returns-then-not-all c =
    let s = c.args.s.now in
    let t = all_from_yields_List is_ascii_digit _ _ c.all.result c.all.ensures.ran (YieldsList-from_slice s (search rules)) (λ x b q k. search (rules, tests)) in
    sym (numbered-untyped _ _ (all_digits-list_all s ∙ sym t ∙ not-true c.all.result (ap not c.if-not-all.true)))

pub returns-in_err-n : goal.returns-in_err-n
returns-in_err-n c =
    let s = c.args.s.now in
    let t = all_from_yields_List is_ascii_digit _ _ c.all.result c.all.ensures.ran (YieldsList-from_slice s (search rules)) (λ x b q k. search (rules, tests)) in
    let a : all_digits s ≡ true = all_digits-list_all s ∙ sym t ∙ not-false c.all.result (ap not c.if-not-all.false) in
    let p = err_from_is_err_and c.from_residual.result c.from_residual.ensures.1 in
    let n = rw c.in_err-n.ensures.ok_part at c.number.ensures in
    error-given _ OutOfRange p.1 p.2 c.in_err-n.ensures.value ∙ sym (numbered-above _ _ a (omega (arith, n)))

pub returns : goal.returns
returns c =
    let s = c.args.s.now in
    let t = all_from_yields_List is_ascii_digit _ _ c.all.result c.all.ensures.ran (YieldsList-from_slice s (search rules)) (λ x b q k. search (rules, tests)) in
    let a : all_digits s ≡ true = all_digits-list_all s ∙ sym t ∙ not-false c.all.result (ap not c.if-not-all.false) in
    let n = rw c.in_ok-n.ensures.ok_part at c.number.ensures in
    rw n.1 at c.with.ensures ∙ sym (numbered-good _ _ (grind (arith, nat_tests)) a n.0)
