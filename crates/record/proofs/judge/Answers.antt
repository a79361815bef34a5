-- `record::judge` meets its contract. Assumes nothing.
use Rattle.record.proofs.Judging.{judge-bad, judge-good, judge-other, judge-short}
use Rattle.layout.proofs.Opening.{open-long}
use native.Mathlib.Omega.{arith}
use Rattle.record.proofs.judge.Goals as goal

pub returns-then-staging-lt-STAGING : goal.returns-then-staging-lt-STAGING
returns-then-staging-lt-STAGING c = judge-short _ c.requires (omega (arith, c.if-staging-lt-STAGING.true))

pub returns-then-not-possible : goal.returns-then-not-possible
returns-then-not-possible c = judge-bad _ c.requires c.if-staging-lt-STAGING.false c.possible.ensures c.if-not-possible.true

pub id-requires : goal.id-requires
id-requires c = open-long _ _ c.requires

pub returns-then-txn-id : goal.returns-then-txn-id
returns-then-txn-id c = judge-other _ c.requires c.if-staging-lt-STAGING.false c.possible.ensures c.if-not-possible.false c.id.ensures (λ e. omega arith)

pub returns : goal.returns
returns c = judge-good _ c.requires c.if-staging-lt-STAGING.false c.possible.ensures c.if-not-possible.false c.id.ensures (omega arith)
