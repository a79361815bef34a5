-- `saving::run` meets its contract: each call of the closure is a call of `advance`. Assumes nothing.
use borrow.Author.Rules.{rules}
use Rattle.powercut.specs.Commit.{commit_on}
use Rattle.saving.proofs.Saving.{run-made}
use Rattle.saving.proofs.run.Goals as goal

pub returns : goal.returns
returns c = run-made _ c.commit-first.ensures (c.make_calls.ensures commit_on c.args.staging.now (λ t p r q e. search rules))
