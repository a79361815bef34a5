-- `columns::xor_rows` meets its contract. Assumes nothing.
use Prim.Native.Nat.{◌+◌, ◌*◌, ◌≤◌}
use mathlib.Core.Path.{◌≡◌}
use native.Mathlib.Omega.{arith}
use borrow.Author.Rules.{rules}
use lib.ListN.{length}
use Rattle.rules.specs.Words.{word}
use Rattle.columns.specs.Column.{row_word}
use Rattle.columns.proofs.Rows.{row_room, rows_none, rows_row}
use Rattle.columns.proofs.xor_rows.Goals as goal
use Rattle.columns.proofs.xor_rows.Goals.{In-loop-k}

-- the word of this row lies in the pool
room : (c : In-loop-k) → let a = c.args in a.at + c.loop-k.k * a.stride + 8 ≤ length a.pool.now
room c = let a = c.args in omega (arith, row_room c.loop-k.k a.rows a.stride c.loop-k-test.true)

pub loop-k-init : goal.loop-k-init
loop-k-init c = (search rules, rows_none _)

pub overflow_mul-k : goal.overflow_mul-k
overflow_mul-k c = omega (arith, room c)

pub overflow_add-at : goal.overflow_add-at
overflow_add-at c = omega (arith, room c)

pub load64-acc-requires : goal.load64-acc-requires
load64-acc-requires c = omega (arith, room c)

pub loop-k-preserved : goal.loop-k-preserved
unfolding word
loop-k-preserved c =
    let l = c.loop-k in
    let a = c.args in
    (omega arith, rows_row (row_word a.pool.now a.at a.stride) l.k l.acc _ l.invariant.1 c.load64-acc.ensures.value c.load64-acc.ensures.small)

pub returns : goal.returns
returns c = let e : c.loop-k.k ≡ c.args.rows = omega arith in rw (← e) c.loop-k.invariant.1
