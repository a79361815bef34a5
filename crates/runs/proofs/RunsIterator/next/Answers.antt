-- `runs::Runs::next` meets its contract. Assumes nothing.
use native.Mathlib.Omega.{arith}
use Rattle.runs.proofs.Rest.{walk-passed, zoned-seen}
use Rattle.runs.proofs.RunsIterator.next.Goals as goal

pub overflow_add-self : goal.overflow_add-self
overflow_add-self c = let p = walk-passed (zoned-seen c.args.self.now.zone) c.if-self.false c.in-Some.ensures in omega (arith, p.within)

pub returns-in-Some-clause-goes : goal.returns-in-Some-clause-goes
returns-in-Some-clause-goes c =
    let p = walk-passed (zoned-seen c.args.self.now.zone) c.if-self.false c.in-Some.ensures in
    record { on = λ e. (tt, tt, omega (arith, p.within, p.some)); keeps = tt; rests = λ e. tt }
