-- `stage::known_word` meets its contract. Assumes nothing.
use Rattle.rules.specs.Words.{Bytes}
use Rattle.stage.proofs.Seen.{reads-pool}
use native.Mathlib.Omega.{arith}
use Rattle.stage.proofs.known_word.Goals as goal

pub returns-then-fresh : goal.returns-then-fresh
returns-then-fresh c =
    let b : Bytes c.args.pool.now = λ i. omega (arith, c.type_inv.pool i) in
    reads-pool b c.requires.0 c.requires.1 c.requires.2 (c.requires.3 c.if-fresh.true) c.load64.ensures
