-- `saving::steps` meets its contract: each call of the closure is a call of `step`. Assumes nothing.
use borrow.Author.Rules.{rules}
use Rattle.powercut.specs.Commit.{commit_step}
use Rattle.saving.proofs.steps.Goals as goal

pub returns : goal.returns
returns c = c.make_calls.ensures commit_step c.args.staging.now (λ t p r q e. search rules)
