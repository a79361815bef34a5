-- `commit::step` meets its contract. Assumes nothing.
use native.Mathlib.Omega.{arith}
use borrow.Author.Rules.{rules}
use Rattle.std.proofs.lemmas.Result.{err_from_is_err_and}
use Rattle.record.proofs.Judging.{record-shaped}
use Rattle.commit.proofs.Committing.{entry-there, step-made, step-ready, step-refused, step-within, steps-few}
use Rattle.commit.proofs.step.Goals as goal

pub invariant_of-judge : goal.invariant_of-judge
invariant_of-judge c = record { sized = (record-shaped _ c.requires.0 c.requires.1).size; octets = search rules }

pub returns-in_err-k : goal.returns-in_err-k
returns-in_err-k c =
    let p = err_from_is_err_and c.from_residual.result c.from_residual.ensures.1 in
    rw (p.1, p.2) (step-refused _ c.requires.0 c.requires.1 _ c.in_err-k.ensures.refusal)

pub commit_action-action-requires : goal.commit_action-action-requires
commit_action-action-requires c =
    (step-ready _ c.requires.0 c.requires.1, entry-there c.args.txn.count (step-within _ c.requires.0 c.requires.1 c.in_ok-k.ensures.refusal c.in_ok-k.ensures.place))

pub overflow_add-k : goal.overflow_add-k
overflow_add-k c =
    let f = steps-few c.args.txn.count (step-ready _ c.requires.0 c.requires.1).few in
    let w = step-within _ c.requires.0 c.requires.1 c.in_ok-k.ensures.refusal c.in_ok-k.ensures.place in omega arith

pub steps-requires : goal.steps-requires
steps-requires c = (step-ready _ c.requires.0 c.requires.1).few

pub returns : goal.returns
returns c =
    step-made _ _ c.args.txn c.requires.0 c.requires.1 c.in_ok-k.ensures.refusal c.in_ok-k.ensures.place _ _ _ _ _ c.commit_action-action.ensures c.apply.ensures c.steps.ensures c.told.ensures
