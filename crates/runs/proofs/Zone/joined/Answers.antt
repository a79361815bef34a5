-- `runs::Zone::joined` meets its contract. Assumes nothing.
use Rattle.runs.proofs.Spotted.{joined_is}
use Rattle.runs.proofs.Zone.joined.Goals as goal

pub returns : goal.returns
returns c = joined_is c.requires c.lead-behind.ensures
