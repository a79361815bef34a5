-- `lines::with_parameter` meets its contract. Assumes nothing.
use mathlib.Core.Path.{sym, ◌∙◌}
use native.Mathlib.Omega.{arith}
use Rattle.std.proofs.lemmas.Result.{err_from_is_err_and}
use Rattle.errors.specs.declared.Error.TheVariants.{MissingParameter}
use Rattle.lines.proofs.Numbers.{error-given, parameter-blank, parameter-none, parameter-other}
use Rattle.lines.proofs.with_parameter.Goals as goal

pub returns-in_err-blank : goal.returns-in_err-blank
returns-in_err-blank c =
    let p = err_from_is_err_and c.from_residual.result c.from_residual.ensures.1 in
    let n = rw c.in_err-blank.ensures.ok_part at c.split_first.ensures.cases in
    error-given _ MissingParameter p.1 p.2 c.in_err-blank.ensures.value ∙ sym (parameter-none _ _ n)

pub returns-then-blank-ne32 : goal.returns-then-blank-ne32
returns-then-blank-ne32 c =
    let n = rw c.in_ok-blank.ensures.ok_part at c.split_first.ensures.cases in
    sym (parameter-other _ _ _ n.0 (omega arith))

pub returns : goal.returns
returns c =
    let n = rw c.in_ok-blank.ensures.ok_part at c.split_first.ensures.cases in
    c.with_number.ensures ∙ sym (parameter-blank _ _ _ n.0 (omega arith))
