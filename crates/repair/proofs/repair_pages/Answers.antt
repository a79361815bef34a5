-- `repair::repair_pages` meets its contract. Assumes nothing.
use Prim.Native.Nat.{ℕ, ◌+◌}
use mathlib.Core.Path.{refl, sym, ap, ◌∙◌}
use native.Mathlib.Omega.{arith}
use borrow.Author.Rules.{rules}
use Rattle.rules.specs.Repair.{differences}
use Rattle.rules.proofs.Differences.{differences-most}
use Rattle.layout.specs.Meaning.{shape_of}
use Rattle.layout.proofs.Range.{bounds, shape-good}
use Rattle.repair.proofs.Repaired.{Rebuildable, Repairing, mask_one, mask-small, repairing-all, repairing-few, repairing-lost, repairing-none, repairing-size, repairing-zero}
use Rattle.repair.proofs.repair_pages.Goals as goal
use Rattle.repair.proofs.repair_pages.Goals.{then-mask-ne0, else-mask-ne0}

pub loop-k-init : goal.loop-k-init
loop-k-init c = let a = c.args in (search rules, refl, refl, repairing-none (shape_of a.s) a.pool.now a.lost.now)

pub rebuild_column-altered-requires : goal.rebuild_column-altered-requires
rebuild_column-altered-requires c =
    let l = c.loop-k in
    let g : Rebuildable (shape_of c.args.s) c.args.pool.now c.args.lost.now =
    record {
      good = shape-good c.args.s;
      size = c.requires.0;
      rows = (bounds c.args.s).rows-high;
      masks = c.requires.1;
      above = c.requires.2;
      two = c.requires.3;
    } in
    (l.invariant.2 ∙ c.requires.0, omega arith, mask-small g l.k, mask_one g l.k c.if-mask-ne0.true)

-- both numbers are at most the pool's length
pub overflow_add-altered : goal.overflow_add-altered
overflow_add-altered c =
    let l = c.loop-k in
    let r = c.rebuild_column-altered in
    omega (arith, repairing-few l.invariant.3, l.invariant.2, differences-most l.pool r.new.pool, r.ensures.1)

pub loop-k-preserved : goal.loop-k-preserved
loop-k-preserved c =
    let l = c.loop-k in
    let g : Rebuildable (shape_of c.args.s) c.args.pool.now c.args.lost.now =
    record {
      good = shape-good c.args.s;
      size = c.requires.0;
      rows = (bounds c.args.s).rows-high;
      masks = c.requires.1;
      above = c.requires.2;
      two = c.requires.3;
    } in
    let n : Repairing (shape_of c.args.s) c.args.pool.now c.args.lost.now (l.k + 1) c.if-mask-ne0.pool c.if-mask-ne0.altered =
    elim c.if-mask-ne0.branch [
      | then-mask-ne0 w ↦ repairing-lost g l.k l.invariant.3 (omega arith) w.if-mask-ne0.true (w.pool-is ∙ w.rebuild_column-altered.ensures.0) (w.altered-is ∙ ap (λ (x : ℕ). l.altered + x) (w.rebuild_column-altered.ensures.1 ∙ ap (differences l.pool) (sym w.pool-is)))
      | else-mask-ne0 w ↦ repairing-zero g l.k l.invariant.3 w.if-mask-ne0.false w.pool-is w.altered-is
    ] in
    (omega arith, l.invariant.1, repairing-size n, n)

pub returns : goal.returns
returns c = let l = c.loop-k in (repairing-all l.invariant.3 (omega arith), l.invariant.3.count)
