-- `recovery::cannot_replay` meets its contract. Assumes nothing.
use mathlib.Core.Path.{sym, ◌∙◌}
use native.Mathlib.Omega.{arith}
use borrow.Author.Tests.{leb-false, leb-true, ltb-false}
use Rattle.recovery.proofs.Stepping.{replay-lost, replay-many, replay-past}
use Rattle.recovery.proofs.cannot_replay.Goals as goal
use Rattle.recovery.proofs.cannot_replay.Goals.{then-n-gt-ENTRIES, else-n-gt-ENTRIES}

pub returns-then-n-k : goal.returns-then-n-k
returns-then-n-k c = λ l q. c.if-n-k.true ∙ elim c.if-n-gt-ENTRIES.branch [
  | then-n-gt-ENTRIES w ↦ replay-many c.args.pool.now.shape _ _ _ _ l q w.if-n-gt-ENTRIES.true
  | else-n-gt-ENTRIES w ↦ replay-past c.args.pool.now.shape _ _ _ _ l q (leb-true _ _ (sym w.value-is ∙ c.if-n-k.true))
]

pub lost-requires : goal.lost-requires
lost-requires c = (
  c.requires,
  elim c.if-n-gt-ENTRIES.branch [
    | then-n-gt-ENTRIES w ↦ ltb-false _ _ (sym w.value-is ∙ c.if-n-k.false)
    | else-n-gt-ENTRIES w ↦ w.if-n-gt-ENTRIES.false
  ],
)

pub returns-else-n-k : goal.returns-else-n-k
returns-else-n-k c = λ l q.
    elim c.if-n-gt-ENTRIES.branch [
      | then-n-gt-ENTRIES w ↦ absurd (let h = ltb-false _ _ (sym w.value-is ∙ c.if-n-k.false) in omega arith)
      | else-n-gt-ENTRIES w ↦ replay-lost c.args.pool.now.shape _ _ _ _ l q _ w.if-n-gt-ENTRIES.false (leb-false _ _ (sym w.value-is ∙ c.if-n-k.false)) c.lost.ensures
    ]
