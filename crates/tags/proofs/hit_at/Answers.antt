-- `tags::hit_at` meets its contract. Assumes nothing.
use mathlib.Core.Path.{sym, ◌∙◌}
use native.Mathlib.Omega.{arith}
use Rattle.tags.proofs.Scanning.{hit-below, hit-here, hit-untagged}
use Rattle.tags.proofs.hit_at.Goals as goal
use Rattle.tags.proofs.hit_at.Goals.{else-from-address-via-else-from-address, else-from-address-via-then-from-address+else-tag_is}

pub returns-then-tag_is : goal.returns-then-tag_is
returns-then-tag_is c = hit-here (omega (arith, c.if-from-address.true)) (sym c.if-tag_is.ensures)

pub returns : goal.returns
returns c =
    elim c.else-from-address.branch [
      | else-from-address-via-then-from-address+else-tag_is w ↦ hit-untagged _ _ (sym w.tag_is.ensures ∙ w.if-tag_is.false)
      | else-from-address-via-else-from-address w ↦ hit-below _ w.if-from-address.false
    ]
