-- `objects::feed_part` meets its contract. Assumes nothing.
use Prim.Native.Nat.{◌/◌, ◌%◌}
use mathlib.Core.Path.{◌≡◌, refl}
use native.Mathlib.Omega.{arith}
use Rattle.objects.proofs.Feeding.{fed-pool, feeding-end, feeding-start, feeding-step}
use Rattle.objects.proofs.feed_part.Goals as goal

pub returns-then-view-eq0 : goal.returns-then-view-eq0
returns-then-view-eq0 c = fed-pool c.args.view.now _ _ c.if-view-eq0.true c.feed.ensures

pub loop-i-init : goal.loop-i-init
loop-i-init c = feeding-start _ _ _ c.args.s.below (omega arith) (omega arith)

pub loop-i-preserved : goal.loop-i-preserved
loop-i-preserved c = feeding-step 8 (omega arith) (omega arith) (omega arith) c.loop-i.invariant c.word.ensures c.feed_word-sums.ensures

pub returns-then-left-eq0 : goal.returns-then-left-eq0
returns-then-left-eq0 c = feeding-end c.loop-i.invariant (omega arith)

pub returns : goal.returns
returns c =
    let l = c.loop-i in
    let e : c.args.n / 8 ≡ l.i = omega arith in
    feeding-end (feeding-step (c.args.n % 8) {j = 0} (omega arith) refl (omega arith) l.invariant (rw e at c.word-2.ensures) c.feed_word.ensures) refl
