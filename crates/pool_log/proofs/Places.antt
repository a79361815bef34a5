-- A log lies in its pages, before the zones. Assumes nothing.
use Prim.Native.Nat.{ℕ, ◌+◌, ◌*◌, ◌≤◌}
use mathlib.Core.Path.{◌≡◌}
use native.Mathlib.Omega.{arith}
use lib.ListN.{length}
use Rattle.rules.specs.Shape.{Shape as PoolShape, entry_limit, entry_size, log_a, log_b, log_head, zones_at}
use Rattle.rules.proofs.Shape.{Good}
use Rattle.powercut.specs.Log.{Log, from_a, from_b, log_at}
use Rattle.layout.specs.declared.opened.Pool.{Pool}
use Rattle.layout.specs.Meaning.{shape_of}
use Rattle.layout.proofs.Range.{shape-good}
use Rattle.layout.proofs.Opening.{pool-shaped, shaped-room}
use Rattle.pool_log.specs.Places.{LogAt}

pub at-log-a : {sh : PoolShape} {b : ℕ} → b ≡ log_a sh → LogAt sh b
at-log-a e = record { log = from_a; place = e }

pub at-log-b : {sh : PoolShape} {b : ℕ} → b ≡ log_b sh → LogAt sh b
at-log-b e = record { log = from_b; place = e }

-- room for the most entries in 8 pages
pub log-end : (sh : PoolShape) → Good sh → (l : Log) → log_at sh l + log_head + entry_size * entry_limit ≤ zones_at sh
log-end sh g from_a = let h = g.page-min in omega arith
log-end sh g from_b = let h = g.page-min in omega arith

pub log-room : (p : Pool) {b : ℕ} → LogAt (shape_of p.shape) b → b + log_head + entry_size * entry_limit ≤ length p.bytes.now
log-room p l = omega (arith, l.place, log-end (shape_of p.shape) (shape-good p.shape) l.log, shaped-room p.bytes.now p.shape (pool-shaped p))
