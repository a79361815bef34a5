-- `lines::read` meets its contract. Assumes nothing.
use mathlib.Core.Path.{sym, ◌∙◌}
use native.Mathlib.Omega.{arith}
use Rattle.std.proofs.lemmas.Bool.Decides.{nat_tests}
use Rattle.lines.proofs.Reading.{command-empty, command-other, command-query, command-recall, command-save, reading-long, reading-short}
use Rattle.lines.proofs.read.Goals as goal

pub returns-then-line-gt80 : goal.returns-then-line-gt80
returns-then-line-gt80 c = sym (reading-long _ (omega arith))

pub returns-then-is_empty : goal.returns-then-is_empty
returns-then-is_empty c = sym (reading-short _ (omega arith) ∙ command-empty _ (grind (arith, nat_tests)))

pub returns-in-Some : goal.returns-in-Some
returns-in-Some c =
    let e = c.in-Some.ensures in
    rw e.1 at c.with_parameter.ensures ∙ sym (reading-short _ (omega arith) ∙ command-save _ (grind (arith, nat_tests)) e.0)

pub returns-in-Some-behind : goal.returns-in-Some-behind
returns-in-Some-behind c =
    let s = c.in_default.ensures in
    let e = c.in-Some-behind.ensures in
    rw e.1 at c.with_parameter-in-Some-behind.ensures ∙ sym (reading-short _ (omega arith) ∙ command-recall _ (grind (arith, nat_tests)) s e.0)

pub returns-then-is_query : goal.returns-then-is_query
returns-then-is_query c =
    sym (reading-short _ (omega arith) ∙ command-query _ (grind (arith, nat_tests)) c.in_default.ensures c.in_default-behind.ensures (sym c.is_query.ensures ∙ c.if-is_query.true))

pub returns : goal.returns
returns c =
    sym (reading-short _ (omega arith) ∙ command-other _ (grind (arith, nat_tests)) c.in_default.ensures c.in_default-behind.ensures (sym c.is_query.ensures ∙ c.if-is_query.false))
