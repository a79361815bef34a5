-- `stage::fill_index` meets its contract. Assumes nothing.
use Prim.Native.Nat.{◌<◌}
use native.Mathlib.Omega.{arith}
use Rattle.std.specs.Iterator.Adapters.{enumerate_count, enumerate_source}
use Rattle.stage.proofs.Index.{chained-step}
use Rattle.stage.proofs.Pieces.{left-step, left-end}
use Rattle.stage.proofs.fill_index.Goals as goal

pub loop-i-preserved : goal.loop-i-preserved
loop-i-preserved c =
    let v = c.loop-i.invariant in
    let p = c.in-Some.ensures.steps in
    let s = left-step (enumerate_source c.next.new.self) c.in-Some.e v.le v.left p.0 in
    let b : enumerate_count c.loop-i.i-iterator < c.args.count = s.0 in
    let f : enumerate_count c.loop-i.i-iterator < 127 = omega (arith, b, c.requires.1) in
    rw (p.1, p.2)
    (record {
      le = omega (arith, b);
      left = s.2;
      chained = chained-step v.chained f (s.1 _ c.load64.ensures) c.mark_of-k.ensures.0 c.mark_of-k.ensures.1;
    })

pub returns : goal.returns
returns c =
    let v = c.loop-i.invariant in
    record { chained = λ h. rw (← left-end (enumerate_source c.next.new.self) v.le v.left c.in-None.ensures.steps.0) v.chained }
