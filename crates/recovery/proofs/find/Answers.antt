-- `recovery::find` meets its contract. Assumes nothing.
use mathlib.Core.Path.{◌∙◌, sym}
use native.Mathlib.Omega.{arith}
use Rattle.pool_log.proofs.Places.{at-log-a, at-log-b, log-room}
use Rattle.recovery.proofs.Starting.{find-a, find-b, find-neither, find-nothing}
use borrow.Author.Rules.{rules}
use Rattle.recovery.proofs.find.Goals as goal

pub load64-a-requires : goal.load64-a-requires
load64-a-requires c = omega (arith, log-room c.args.pool.now (at-log-a c.log_a.ensures))

pub load64-b-requires : goal.load64-b-requires
load64-b-requires c = omega (arith, log-room c.args.pool.now (at-log-b c.log_b.ensures))

pub returns-then-valid : goal.returns-then-valid
returns-then-valid c = let e = c.log_a.ensures ∙ sym c.log_a-2.ensures in search (rules, find-a)

pub returns-then-valid-2 : goal.returns-then-valid-2
returns-then-valid-2 c = search (rules, find-b)

pub returns-in-0-eq0 : goal.returns-in-0-eq0
returns-in-0-eq0 c = search (rules, find-nothing)

pub returns-in_default : goal.returns-in_default
returns-in_default c = search (rules, find-neither)
