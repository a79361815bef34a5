-- `columns::xor_page` meets its contract. Assumes nothing.
use Prim.Native.Nat.{◌<◌}
use mathlib.Core.Path.{refl}
use native.Mathlib.Omega.{arith}
use lib.ListN.{length}
use Rattle.columns.proofs.Storing.{storing-start, storing-step}
use Rattle.columns.proofs.Pages.{xored-byte, xored-end, xored-length}
use Rattle.columns.proofs.xor_page.Goals as goal

pub loop-i-init : goal.loop-i-init
loop-i-init c = (refl, storing-start _ _ _)

pub loop-i-preserved : goal.loop-i-preserved
loop-i-preserved c =
    let l = c.loop-i in
    let h : l.i < length c.args.sum.now = omega arith in
    (l.invariant.0, storing-step l.invariant.1 (let e = xored-length c.args.sum.now c.args.pool.now c.args.at in omega arith) (omega arith) (xored-byte c.args.sum.now c.args.pool.now c.args.at l.invariant.1 h))

pub returns : goal.returns
returns c = xored-end c.args.sum.now c.args.pool.now c.args.at c.loop-i.invariant.1 (omega arith)
