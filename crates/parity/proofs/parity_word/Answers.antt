-- `parity::parity_word` meets its contract. Assumes nothing.
use Rattle.layout.proofs.Range.{shape-good}
use Rattle.layout.specs.Meaning.{shape_of}
use Rattle.parity.proofs.Places.{target_fits, target-parity}
use Rattle.parity.proofs.parity_word.Goals as goal

pub xor_rows-requires : goal.xor_rows-requires
xor_rows-requires c = target_fits (shape_of c.args.s) (shape-good c.args.s) c.args.pool.now c.args.t _ _ c.requires.0 c.row_at-at.ensures c.row_size.ensures c.requires.1

pub returns : goal.returns
returns c = target-parity (shape_of c.args.s) (shape-good c.args.s) c.args.pool.now c.args.t _ _ _ c.row_at-at.ensures c.row_size.ensures c.xor_rows.ensures
