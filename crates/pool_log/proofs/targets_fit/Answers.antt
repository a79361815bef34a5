-- `pool_log::targets_fit` meets its contract. The invariant: the entries from `i` on fit, none repeats, and their marks are set. Assumes nothing.
use mathlib.Core.Path.{◌≡◌, refl}
use Prim.Native.Nat.{◌+◌, ◌-◌}
use Rattle.layout.specs.Meaning.{shape_of}
use Rattle.pool_log.proofs.Targets.{passed-bad, passed-end, passed-mark, passed_on, passed_start, passed-twice}
use borrow.Author.Rules.{rules}
use native.Mathlib.Omega.{arith}
use Rattle.pool_log.proofs.targets_fit.Goals as goal

pub loop-i-init : goal.loop-i-init
loop-i-init c = let a = c.args in passed_start (shape_of a.s) a.p.now a.at a.n _ refl

pub or_around-rows-requires : goal.or_around-rows-requires
or_around-rows-requires c = c.loop-i.invariant.rows

pub returns-then-not-has : goal.returns-then-not-has
returns-then-not-has c =
    let a = c.args in
    let l = c.loop-i in
    passed-bad (shape_of a.s) a.p.now a.at a.n l.i l.marks _ _ l.invariant (omega arith) _ c.load64-t.ensures _ _ c.or_around-rows.ensures _ c.has.ensures c.if-not-has.true

pub absent_marked-requires : goal.absent_marked-requires
absent_marked-requires c =
    let a = c.args in
    let l = c.loop-i in
    let e : l.i - 1 + 1 ≡ l.i = omega arith in
    (search rules, rw e (passed-mark (shape_of a.s) a.p.now a.at a.n l.i l.marks _ _ l.invariant (omega arith) _ c.load64-t.ensures _ c.mark_of-k.ensures.0))

pub returns-then-not-absent_marked : goal.returns-then-not-absent_marked
returns-then-not-absent_marked c =
    let a = c.args in
    let l = c.loop-i in
    let e : l.i - 1 + 1 ≡ l.i = omega arith in
    passed-twice (shape_of a.s) a.p.now a.at a.n l.i l.marks _ _ l.invariant (omega arith) _ c.load64-t.ensures _ _ c.or_around-rows.ensures _ c.has.ensures c.if-not-has.false _ (rw e at c.absent_marked.ensures) c.if-not-absent_marked.true

pub loop-i-preserved : goal.loop-i-preserved
loop-i-preserved c =
    let a = c.args in
    let l = c.loop-i in
    let e : l.i - 1 + 1 ≡ l.i = omega arith in
    passed_on (shape_of a.s) a.p.now a.at a.n l.i l.marks _ _ l.invariant (omega arith) _ c.load64-t.ensures _ _ c.or_around-rows.ensures _ c.has.ensures c.if-not-has.false _ (rw e at c.absent_marked.ensures) _ c.mark_of-k.ensures.0 c.mark_of-k.ensures.1 c.if-not-absent_marked.false

pub returns : goal.returns
returns c =
    let a = c.args in
    let l = c.loop-i in
    passed-end (shape_of a.s) a.p.now a.at a.n l.i l.marks _ _ l.invariant (omega arith)
