-- `commit::judge` meets its contract. Assumes nothing.
use Rattle.layout.specs.Meaning.{shape_of}
use Rattle.commit.proofs.Committing.{turn-else, turn-later, turn-sealed, turn-unsealed}
use Rattle.commit.proofs.judge.Goals as goal
use Rattle.commit.proofs.judge.Goals.{else-k-eq0-via-then-k-eq0+else-not-seals_zero, else-k-eq0-via-else-k-eq0}

pub returns-in_default : goal.returns-in_default
returns-in_default c = record { refusal = turn-else (shape_of c.args.pool.now.shape) _ _ c.in_default.not-Committing; place = tt }

pub returns-then-not-seals_zero : goal.returns-then-not-seals_zero
returns-then-not-seals_zero c = record { refusal = turn-sealed (shape_of c.args.pool.now.shape) _ c.in-Committing.is c.seals_zero.ensures c.if-k-eq0.true c.if-not-seals_zero.true; place = tt }

pub returns-clause-refusal : goal.returns-clause-refusal
returns-clause-refusal c =
    elim c.else-k-eq0.branch [
      | else-k-eq0-via-then-k-eq0+else-not-seals_zero w ↦ turn-unsealed (shape_of c.args.pool.now.shape) _ c.in-Committing.is w.seals_zero.ensures w.if-not-seals_zero.false
      | else-k-eq0-via-else-k-eq0 w ↦ turn-later (shape_of c.args.pool.now.shape) _ c.in-Committing.is w.if-k-eq0.false
    ]
