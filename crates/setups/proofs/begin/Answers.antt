-- `setups::begin` meets its contract. Assumes nothing.
use mathlib.Core.Path.{◌≡◌}
use borrow.Author.Rules.{rules}
use Rattle.std.proofs.Common.{Err}
use Rattle.refusals.specs.declared.Refusal.TheVariants as R
use Rattle.setups.proofs.Beginning.{begun-handed, begun-refused, begun-room, begun-sealed, begun-short, begun-unopened}
use Rattle.setups.proofs.begin.Goals as goal

pub returns-then-room-ge-STAGING : goal.returns-then-room-ge-STAGING
returns-then-room-ge-STAGING c = begun-room _ _ (begun-handed _ _ c.begin.ensures _ _ c.accepted-begun.ensures c.map.ensures.cases (λ x y e. search rules)) c.if-room-ge-STAGING.true

pub returns-in-Ok : goal.returns-in-Ok
returns-in-Ok c = begun-short _ _ c.if-room-ge-STAGING.false _ c.begin.ensures _ c.accepted-begun.ensures (search rules)

pub returns-in-Ok-2 : goal.returns-in-Ok-2
returns-in-Ok-2 c =
    let e : c.accepted-begun.result ≡ Err R.Sealed = search rules in
    begun-sealed _ _ c.if-room-ge-STAGING.false (begun-refused _ _ c.begin.ensures _ c.accepted-begun.ensures e)

pub returns-in-Err : goal.returns-in-Err
returns-in-Err c =
    let n : c.in-Err.refusal ≡ R.Sealed → ⊥ = search rules in
    begun-unopened _ _ c.if-room-ge-STAGING.false _ n (begun-refused _ _ c.begin.ensures _ c.accepted-begun.ensures c.in-Err.is)
