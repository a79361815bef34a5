-- `saving::recover` meets its contract: what is left to do gives the whole. Assumes nothing.
use Prim.Native.Nat.{◌+◌, ◌-◌}
use borrow.Author.Rules.{rules}
use mathlib.Core.Path.{refl, ◌∙◌}
use native.Mathlib.Omega.{arith}
use Rattle.recovery.specs.Meaning.{after_of}
use Rattle.saving.proofs.Recovering.{recover-begun, recover-end, recover-last, recover-on}
use Rattle.saving.proofs.recover.Goals as goal

pub loop-init : goal.loop-init
loop-init c = (refl, omega arith, recover-begun _ _ c.start-last.ensures)

pub returns-then-ends : goal.returns-then-ends
returns-then-ends c =
    let l = c.loop in
    recover-end _ (after_of l.last l.pool) (3 - l.counter) c.ends.ensures c.if-ends.true l.invariant.2

pub loop-preserved : goal.loop-preserved
loop-preserved c =
    let l = c.loop in
    (search rules, omega arith, recover-on (3 - l.counter) (3 - (l.counter + 1)) (after_of l.last l.pool) _ (omega arith) c.ends.ensures c.if-ends.false c.advance-last.ensures ∙ l.invariant.2)

pub returns : goal.returns
returns c =
    let l = c.loop in
    recover-last _ (after_of l.last l.pool) (3 - l.counter) (omega arith) l.invariant.2
