-- `runs::Zone::lead` meets its contract. Assumes nothing.
use borrow.Author.Rules.{rules}
use Rattle.runs.proofs.Rest.{zoned-seen}
use Rattle.runs.proofs.Spotted.{lead-met, lead-none}
use Rattle.runs.proofs.Zone.lead.Goals as goal

pub returns-then-self-c : goal.returns-then-self-c
returns-then-self-c c = lead-none (zoned-seen c.args.self.now) c.requires c.if-self-c.true

pub returns : goal.returns
returns c = lead-met c.meet.result (zoned-seen c.args.self.now) c.if-self-c.false c.meet.ensures (search rules)
