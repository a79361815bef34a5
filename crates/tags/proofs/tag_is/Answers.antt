-- `tags::tag_is` meets its contract. Assumes nothing.
use Rattle.tags.proofs.Scanning.{free-tagged_at, object-tagged_at}
use Rattle.tags.proofs.tag_is.Goals as goal

pub returns-then-run : goal.returns-then-run
returns-then-run c = free-tagged_at _ _ _ c.if-run.true

pub returns : goal.returns
returns c = object-tagged_at _ _ _ c.if-run.false c.head.ensures c.tag.ensures
