-- `commands::recall` meets its contract. Assumes nothing.
use Rattle.std.proofs.lemmas.Result.{err_from_is_err_and}
use Rattle.commands.specs.Meaning.{left_by}
use Rattle.commands.proofs.Handing.{recall-leaves, recall-refused-leaves}
use Rattle.commands.proofs.recall.Goals as goal

pub returns-in_err-body : goal.returns-in_err-body
unfolding left_by
returns-in_err-body c =
    let p = err_from_is_err_and c.from_residual.result c.from_residual.ensures.1 in
    rw (p.1, p.2) (λ queue staging out. recall-refused-leaves queue staging out c.in_err-body.ensures.0)

pub returns : goal.returns
unfolding left_by
returns c = λ queue staging out. recall-leaves queue staging out c.in_ok-body.ensures.0
