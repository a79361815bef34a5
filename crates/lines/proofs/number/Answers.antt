-- `lines::number` meets its contract. Assumes nothing.
use mathlib.Core.Path.{sym, ◌∙◌}
use Prim.Native.Nat.{◌+◌, ◌*◌}
use native.Mathlib.Omega.{arith}
use lib.ListN.{drop}
use Rattle.lines.proofs.Numbers.{value-end, value-least, value-step}
use Rattle.lines.proofs.number.Goals as goal

pub returns-then-n-gt9 : goal.returns-then-n-gt9
returns-then-n-gt9 c =
    let s = c.args.digits.now in
    let l = c.loop-b in
    let v = 10 * l.n + c.from.result in
    let e = value-step s l.n l.b-index c.from.result c.loop-b-test.true (omega arith) in
    let g = value-least (drop (l.b-index + 1) s) v in
    λ h. omega (arith, e, g, l.invariant.rest)

pub loop-b-preserved : goal.loop-b-preserved
loop-b-preserved c =
    let l = c.loop-b in
    record {
      small = omega arith;
      rest = sym (value-step c.args.digits.now l.n l.b-index c.from.result c.loop-b-test.true (omega arith)) ∙ l.invariant.rest;
    }

pub returns : goal.returns
returns c =
    let l = c.loop-b in
    let e = value-end c.args.digits.now l.n l.b-index c.loop-b-test.false in
    (omega (arith, e, l.invariant.small, l.invariant.rest), sym e ∙ l.invariant.rest)
