-- `runs::Zone::locate` meets its contract. Assumes nothing.
use mathlib.Core.Path.{refl, sym}
use native.Mathlib.Omega.{arith}
use Rattle.runs.proofs.Going.{going-broken, going-end, going-past, going_start, going-step, going-took}
use Rattle.runs.proofs.Spotted.{located-broken, located-here, located-past, located-whole, locating-begin}
use Rattle.runs.proofs.Zone.locate.Goals as goal
use Rattle.runs.proofs.Zone.locate.Goals.{then-run-a, else-run-a}

pub loop-met-init : goal.loop-met-init
loop-met-init c = (going_start c.runs-met-items.ensures c.into_iter-met-iterator.ensures.into_iter_gives refl, locating-begin c.runs-met-items.ensures c.into_iter-met-iterator.ensures.into_iter_gives)

pub loop-met-preserved : goal.loop-met-preserved
loop-met-preserved c =
    let i = c.loop-met.invariant in
    let k = going-took i.0 c.in-Some.ensures.steps c.in_ok-run.was in (
      going-step i.0 k (λ w. refl),
      elim c.if-run-a.branch [
        | then-run-a w ↦ located-here k i.1 _ w.if-run-a.true w.spot-is
        | else-run-a w ↦ located-past k i.1 w.if-run-a.false c.free_cells-prior.ensures w.spot-is
      ],
    )

pub returns-in_err-run : goal.returns-in_err-run
returns-in_err-run c = rw c.from_residual.ensures (located-broken (sym (going-broken c.loop-met.invariant.0 c.in-Some.ensures.steps c.in_err-run.was)))

pub returns : goal.returns
returns c = let i = c.loop-met.invariant in located-whole (sym (going-end i.0 c.in-None.ensures.steps)) (i.1.behind (let h = going-past i.0 c.in-None.ensures.steps in omega (arith, h, c.requires)))
