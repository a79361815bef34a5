-- `scan::put_scan` meets its contract. Assumes nothing.
use mathlib.Core.Path.{sym}
use native.Mathlib.Nat.{le_refl}
use native.Mathlib.Omega.{arith}
use Rattle.texts.proofs.Adds.{adds_as}
use Rattle.scan.proofs.Scanning.{scan_good, scan-long, scan-refused}
use Rattle.scan.proofs.put_scan.Goals as goal

pub returns-then-pool-gt65536 : goal.returns-then-pool-gt65536
returns-then-pool-gt65536 c = adds_as c.put_refused.ensures (scan-long c.args.pool.now (omega (arith, c.if-pool-gt65536.true))) (omega arith)

pub put_pool-requires : goal.put_pool-requires
put_pool-requires c = (c.requires, rw c.in-Ok.ensures.bytes c.if-pool-gt65536.false)

pub returns-in-Ok : goal.returns-in-Ok
returns-in-Ok c = adds_as (rw c.in-Ok.ensures.bytes at c.put_pool.ensures) (scan_good c.args.pool.now c.in-Ok.opened.shape c.if-pool-gt65536.false (sym c.in-Ok.ensures.shape)) (le_refl 65536)

pub returns-in-Err : goal.returns-in-Err
returns-in-Err c = adds_as c.put_refused-in-Err.ensures (scan-refused c.args.pool.now c.if-pool-gt65536.false _ (sym c.in-Err.ensures.shape)) (omega arith)
