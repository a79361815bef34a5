-- `setups::try_save` meets its contract. Assumes nothing.
use mathlib.Core.Path.{sym, ap, ◌∙◌}
use Rattle.std.proofs.Common.{Ok}
use Rattle.std.proofs.lemmas.Result.{err_from_is_err_and}
use Rattle.setups.specs.Found.{spot, spot_of}
use Rattle.setups.proofs.Saving.{save-anew, save-number, save-over, save-size, save-spot-refused, save-unbegun}
use Rattle.setups.proofs.try_save.Goals as goal

pub returns-in_err-tag : goal.returns-in_err-tag
returns-in_err-tag c =
    let p = err_from_is_err_and c.from_residual.result c.from_residual.ensures.1 in
    let e = c.in_err-tag.ensures in
    rw (p.1, p.2, e.0) (save-number _ _ _ _ e.1)

pub returns-then-body-ne-SIZE : goal.returns-then-body-ne-SIZE
returns-then-body-ne-SIZE c = save-size _ _ _ _ c.in_ok-tag.ensures.1 c.if-body-ne-SIZE.true

pub returns-in_err-txn : goal.returns-in_err-txn
returns-in_err-txn c =
    let p = err_from_is_err_and c.from_residual-in_err-txn.result c.from_residual-in_err-txn.ensures.1 in
    rw (p.1, p.2) (save-unbegun _ _ _ _ c.in_ok-tag.ensures.1 c.if-body-ne-SIZE.false c.in_err-txn.field-0.0 c.in_err-txn.ensures)

pub returns-in_err-find : goal.returns-in_err-find
returns-in_err-find c =
    let p = err_from_is_err_and c.from_residual-in_err-find.result c.from_residual-in_err-find.ensures.1 in
    let t = c.in_ok-tag.ensures in
    rw (p.1, p.2)
    (save-spot-refused _ _ _ _ t.1 c.if-body-ne-SIZE.false c.in_ok-txn.txn c.in_ok-txn.ensures c.in_err-find.field-0.0 (ap (spot c.args.pool.now) (sym t.0) ∙ sym c.in_err-find.ensures.0))

pub returns-in-None : goal.returns-in-None
returns-in-None c =
    let t = c.in_ok-tag.ensures in
    let i = ap (spot c.args.pool.now) (sym t.0) ∙ sym c.in_ok-find.ensures.0 ∙ ap (λ x. spot_of (Ok x)) c.in-None.is in
    save-anew _ _ _ _ t.1 c.if-body-ne-SIZE.false c.in_ok-txn.txn c.in_ok-txn.ensures _ _ c.accepted.ensures i (rw t.0 at c.allocate.ensures)

pub returns-in-Some : goal.returns-in-Some
returns-in-Some c =
    let t = c.in_ok-tag.ensures in
    let i = ap (spot c.args.pool.now) (sym t.0) ∙ sym c.in_ok-find.ensures.0 ∙ ap (λ x. spot_of (Ok x)) c.in-Some.is in
    save-over _ _ _ _ t.1 c.if-body-ne-SIZE.false c.in_ok-txn.txn c.in_ok-txn.ensures _ _ c.accepted-in-Some.ensures _ _ i c.write.ensures
