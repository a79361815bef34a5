-- `saving::make_calls` meets its contract: what is left to do gives the whole. Assumes nothing.
use Prim.Native.Nat.{◌+◌, ◌-◌}
use mathlib.Core.Path.{sym, ◌∙◌}
use native.Mathlib.Omega.{arith}
use Rattle.transaction.specs.Meaning.{after_of}
use Rattle.saving.proofs.Saving.{calls-end, calls-none, calls-on}
use Rattle.saving.proofs.make_calls.Goals as goal

pub returns-then-ends : goal.returns-then-ends
returns-then-ends g c f staging h =
    let l = c.loop in
    sym (calls-end f (c.args.n - l.counter) (after_of l.r l.pool staging) c.ends.ensures c.if-ends.true) ∙ l.invariant.1 f staging h

pub loop-preserved : goal.loop-preserved
loop-preserved g c =
    let l = c.loop in (
      omega arith,
      λ f staging h.
          calls-on f (c.args.n - l.counter) (c.args.n - (l.counter + 1)) (after_of l.r l.pool staging) _ (omega arith) c.ends.ensures c.if-ends.false (h _ _ _ _ c.next-r.ensures) ∙ l.invariant.1 f staging h,
    )

pub returns : goal.returns
returns g c f staging h =
    let l = c.loop in
    sym (calls-none f (c.args.n - l.counter) (after_of l.r l.pool staging) (omega arith)) ∙ l.invariant.1 f staging h
