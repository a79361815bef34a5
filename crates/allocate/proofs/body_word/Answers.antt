-- `allocate::body_word` meets its contract. Assumes nothing.
use Rattle.allocate.proofs.Body.{loaded-padded}
use Rattle.allocate.proofs.body_word.Goals as goal

pub returns : goal.returns
returns c = loaded-padded c.args.body.now c.args.at c.min.result c.if-at-body.false c.min.ensures (rw c.store.ensures at c.load64-2.ensures)
