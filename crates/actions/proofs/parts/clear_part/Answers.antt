-- `actions::parts::clear_part` meets its contract. Assumes nothing.
use Rattle.layout.specs.Meaning.{shape_of}
use Rattle.actions.proofs.PartMade.{clear-made}
use Rattle.actions.proofs.parts.clear_part.Goals as goal

pub returns : goal.returns
returns c = clear-made (shape_of c.args.s) c.seal_part.ensures
