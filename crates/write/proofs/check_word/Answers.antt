-- `write::check_word` meets its contract. Assumes nothing.
use Rattle.write.proofs.CheckWord.{check-made}
use Rattle.stage.proofs.Views.{length-by}
use Rattle.stage.specs.Seen.{seen_by}
use native.Mathlib.Omega.{arith}
use Rattle.write.proofs.check_word.Goals as goal

pub read_head-head-requires : goal.read_head-head-requires
read_head-head-requires c = (c.requires.0.even, omega (arith, length-by c.args.view.now))

pub overflow_add-from-2 : goal.overflow_add-from-2
overflow_add-from-2 c = omega (arith, length-by c.args.view.now)

pub new_check-check-requires : goal.new_check-check-requires
new_check-check-requires c = (omega (arith, length-by c.args.view.now), omega arith)

pub returns : goal.returns
returns c =
    let v = c.args.view.now in
    let h = c.read_head-head in
    rw c.from.ensures (check-made (seen_by v) c.requires.1 c.args.c.now.bytes.now c.requires.2 c.requires.0 h.result.first h.result.second h.ensures c.check.ensures c.new_check-check.ensures)
