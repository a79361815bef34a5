-- `stage::View::find` meets its contract. Assumes nothing.
use Rattle.stage.proofs.Index.{chase-end, chase-hit, chase-start, chase-step, slot-empty}
use native.Mathlib.Omega.{arith}
use Rattle.stage.proofs.View.find.Goals as goal

pub returns-then-self-eq0 : goal.returns-then-self-eq0
returns-then-self-eq0 c = slot-empty _ _ c.if-self-eq0.true

pub bounds-self-mark_of : goal.bounds-self-mark_of
bounds-self-mark_of c =
    omega (arith, (c.args.self.now.indexed.chained (omega (arith, c.if-self-eq0.false))).long, c.mark_of.ensures.1)

pub loop-p-init : goal.loop-p-init
loop-p-init c =
    chase-start c.args.self.now.indexed (omega (arith, c.if-self-eq0.false)) c.mark_of.ensures.0 c.mark_of.ensures.1 c.from-p.ensures

pub load64-requires : goal.load64-requires
load64-requires c = omega (arith, c.args.self.now.room, c.loop-p.invariant.le)

pub returns-then-load64-target : goal.returns-then-load64-target
returns-then-load64-target c = (chase-hit c.args.self.now.tidy c.loop-p.invariant c.loop-p-test.true c.load64.ensures c.if-load64-target.true, omega (arith, c.loop-p.invariant.le, c.loop-p-test.true))

pub overflow_add-p : goal.overflow_add-p
overflow_add-p c = omega (arith, (c.args.self.now.indexed.chained (omega (arith, c.if-self-eq0.false))).few, c.loop-p.invariant.le)

pub bounds-self-p : goal.bounds-self-p
bounds-self-p c = let t = c.args.self.now.indexed.chained (omega (arith, c.if-self-eq0.false)) in omega (arith, t.few, t.long, c.loop-p.invariant.le)

pub loop-p-smaller : goal.loop-p-smaller
loop-p-smaller c = let l = c.loop-p in (chase-step c.args.self.now.indexed l.invariant c.loop-p-test.true c.load64.ensures c.if-load64-target.false c.from-p-in-loop-p.ensures).1

pub loop-p-preserved : goal.loop-p-preserved
loop-p-preserved c = let l = c.loop-p in (chase-step c.args.self.now.indexed l.invariant c.loop-p-test.true c.load64.ensures c.if-load64-target.false c.from-p-in-loop-p.ensures).0

pub returns : goal.returns
returns c = chase-end c.loop-p.invariant (omega arith)
