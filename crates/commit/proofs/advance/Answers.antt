-- `commit::advance` meets its contract. Assumes nothing.
use borrow.Author.Rules.{rules}
use Rattle.std.proofs.lemmas.Result.{err_from_is_err_and}
use Rattle.record.proofs.Judging.{record-shaped}
use Rattle.commit.proofs.Committing.{advance-made, advance-refused, commit-there, entry-there, step-ready, step-within}
use Rattle.commit.proofs.advance.Goals as goal

pub invariant_of-judge : goal.invariant_of-judge
invariant_of-judge c = record { sized = (record-shaped _ c.requires.0 c.requires.1).size; octets = search rules }

pub returns-in_err-k : goal.returns-in_err-k
returns-in_err-k c =
    let p = err_from_is_err_and c.from_residual.result c.from_residual.ensures.1 in
    rw (p.1, p.2) (advance-refused _ c.requires.0 c.requires.1 _ c.in_err-k.ensures.refusal)

pub commit_part-made-requires : goal.commit_part-made-requires
commit_part-made-requires c =
    let w = step-within _ c.requires.0 c.requires.1 c.in_ok-k.ensures.refusal c.in_ok-k.ensures.place in
    (step-ready _ c.requires.0 c.requires.1, entry-there c.args.txn.count w, commit-there c.args.txn.count w)

pub steps-requires : goal.steps-requires
steps-requires c = (step-ready _ c.requires.0 c.requires.1).few

pub returns : goal.returns
returns c = advance-made _ _ c.args.txn c.requires.0 c.requires.1 c.in_ok-k.ensures.refusal c.in_ok-k.ensures.place _ _ _ _ c.commit_part-made.ensures c.steps.ensures c.told.ensures
