-- `pool_log::valid` meets its contract. Assumes nothing.
use Rattle.pool_log.proofs.Places.{log-room}
use Rattle.pool_log.proofs.Logs.{valid-check, valid-high, valid-low, valid-mark, valid-rest}
use native.Mathlib.Omega.{arith}
use borrow.Author.Rules.{rules}
use Rattle.pool_log.proofs.valid.Goals as goal

pub load64-w-requires : goal.load64-w-requires
load64-w-requires c = let h = log-room c.args.pool.now c.requires in search rules

pub returns-then-w-ne42268 : goal.returns-then-w-ne42268
returns-then-w-ne42268 c = search (rules, valid-mark)

pub returns-then-n-lt1 : goal.returns-then-n-lt1
returns-then-n-lt1 c = valid-low _ _ _ _ _ c.load64-w.ensures c.count-n.ensures.0 c.if-w-ne42268.false (omega (arith, c.if-n-lt1.true))

pub returns-then-n-gt-ENTRIES : goal.returns-then-n-gt-ENTRIES
returns-then-n-gt-ENTRIES c = valid-high _ _ _ _ _ c.load64-w.ensures c.count-n.ensures.0 c.if-w-ne42268.false (omega (arith, c.if-n-lt1.false, c.if-n-gt-ENTRIES.true)) (omega (arith, c.if-n-gt-ENTRIES.true))

pub overflow_add-b : goal.overflow_add-b
overflow_add-b c = let h = log-room c.args.pool.now c.requires in search rules

pub check_entries-requires : goal.check_entries-requires
check_entries-requires c = omega (arith, c.if-n-gt-ENTRIES.false, log-room c.args.pool.now c.requires)

pub returns-then-w-check_entries : goal.returns-then-w-check_entries
returns-then-w-check_entries c = valid-check _ _ _ _ _ c.load64-w.ensures c.count-n.ensures.0 c.if-w-ne42268.false _ (omega (arith, c.if-n-lt1.false)) (omega (arith, c.if-n-gt-ENTRIES.false)) c.check_entries.ensures.0 c.if-w-check_entries.true

pub overflow_add-b-2 : goal.overflow_add-b-2
overflow_add-b-2 c = let h = log-room c.args.pool.now c.requires in search rules

pub targets_fit-requires : goal.targets_fit-requires
targets_fit-requires c = let h = log-room c.args.pool.now c.requires in search rules

pub returns : goal.returns
returns c = valid-rest _ _ _ _ _ c.load64-w.ensures c.count-n.ensures.0 c.if-w-ne42268.false _ _ (omega (arith, c.if-n-lt1.false)) (omega (arith, c.if-n-gt-ENTRIES.false)) c.check_entries.ensures.0 c.if-w-check_entries.false c.targets_fit.ensures
