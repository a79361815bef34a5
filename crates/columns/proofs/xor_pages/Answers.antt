-- `columns::xor_pages` meets its contract. Assumes nothing.
use Prim.Native.Nat.{ℕ, ◌+◌, ◌*◌, ◌≤◌, ◌<◌}
use mathlib.Core.Path.{◌≡◌, refl, ◌∙◌}
use native.Mathlib.Omega.{arith}
use borrow.Author.Rules.{rules}
use lib.ListN.{length}
use Rattle.columns.proofs.Rows.{row_room}
use Rattle.columns.proofs.Pages.{pages-none, pages-out, pages-row}
use Rattle.columns.proofs.xor_pages.Goals as goal
use Rattle.columns.proofs.xor_pages.Goals.{then-k-without, else-k-without}

-- the page of this row lies in the pool
room : (at stride rows k m l : ℕ) → at + rows * stride + m ≤ l + stride → k < rows → at + k * stride + m ≤ l
room at stride rows k m l f h = omega (arith, row_room k rows stride h)

pub loop-k-init : goal.loop-k-init
loop-k-init c = (search rules, refl, c.requires.0 ∙ pages-none c.args.pool.now c.args.at c.args.stride c.args.without (length c.args.sum.now))

pub overflow_mul-k : goal.overflow_mul-k
overflow_mul-k c = omega (arith, room c.args.at c.args.stride c.args.rows c.loop-k.k (length c.args.sum.now) (length c.args.pool.now) c.requires.1 c.loop-k-test.true)

pub overflow_add-at : goal.overflow_add-at
overflow_add-at c = omega (arith, room c.args.at c.args.stride c.args.rows c.loop-k.k (length c.args.sum.now) (length c.args.pool.now) c.requires.1 c.loop-k-test.true)

pub xor_page-requires : goal.xor_page-requires
xor_page-requires c = omega (arith, room c.args.at c.args.stride c.args.rows c.loop-k.k (length c.args.sum.now) (length c.args.pool.now) c.requires.1 c.loop-k-test.true)

pub loop-k-preserved : goal.loop-k-preserved
loop-k-preserved c =
    let l = c.loop-k in (
      omega arith,
      omega arith,
      elim c.if-k-without.branch [
        | then-k-without w ↦ w.sum-is ∙ pages-row c.args.pool.now c.args.at c.args.stride c.args.without (length c.args.sum.now) l.invariant.2 w.if-k-without.true w.xor_page.ensures
        | else-k-without w ↦ w.sum-is ∙ l.invariant.2 ∙ pages-out c.args.pool.now c.args.at c.args.stride c.args.without (length c.args.sum.now) w.if-k-without.false
      ],
    )

pub returns : goal.returns
returns c = let e : c.loop-k.k ≡ c.args.rows = omega arith in rw (← e) c.loop-k.invariant.2
