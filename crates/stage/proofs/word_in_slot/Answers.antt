-- `stage::word_in_slot` meets its contract. Assumes nothing.
use native.Mathlib.Omega.{arith}
use Rattle.rules.specs.Words.{Bytes}
use Rattle.stage.proofs.Touched.{added-one}
use Rattle.stage.proofs.Seen.{reads-staged, reads-pool}
use Rattle.stage.proofs.word_in_slot.Goals as goal

pub returns-in-Some : goal.returns-in-Some
returns-in-Some c =
    let b : Bytes c.args.pool.now = λ i. omega (arith, c.type_inv.pool i) in
    let r = c.requires in
    let k = rw c.in-Some.is at r.3 in reads-staged b r.0 r.1 r.2 k.0 k.1 c.load64.ensures

pub returns-in-None : goal.returns-in-None
returns-in-None c =
    let b : Bytes c.args.pool.now = λ i. omega (arith, c.type_inv.pool i) in
    let r = c.requires in
    let k = rw c.in-None.is at r.3 in reads-pool b r.0 r.1 r.2 (added-one k (omega arith)) c.load64-in-None.ensures
