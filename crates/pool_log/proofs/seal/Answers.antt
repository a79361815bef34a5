-- `pool_log::seal` meets its contract. Assumes nothing.
use Rattle.pool_log.proofs.Logs.{seal-read}
use borrow.Author.Rules.{rules}
use Rattle.pool_log.proofs.seal.Goals as goal

pub returns : goal.returns
returns c = search (rules, seal-read)
