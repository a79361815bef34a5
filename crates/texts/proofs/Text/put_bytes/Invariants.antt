-- `texts::Text::put_bytes` meets its contract. Assumes nothing.
use lib.ListN.{drop}
use Rattle.texts.proofs.Adds.{Adding}
use Rattle.texts.proofs.Text.put_bytes.Given as goal

abbrev pub invariant-loop-b : goal.invariant-loop-b
invariant-loop-b l = Adding l.initial.self l.s l.self (drop l.b-index l.s)
