-- `setups::recall_for` meets its contract. Assumes nothing.
use mathlib.Core.Path.{◌≡◌, sym, ap, ◌∙◌}
use Rattle.std.proofs.Common.{Ok}
use Rattle.std.proofs.lemmas.Result.{err_from_is_err_and}
use Rattle.refusals.specs.declared.Refusal.TheVariants.{NoSetup}
use Rattle.setups.specs.Found.{spot, spot_of}
use Rattle.setups.proofs.Saving.{recall-absent, recall-found, recall-number, recall-refused}
use Rattle.setups.proofs.recall_for.Goals as goal

pub returns-in_err-tag_of : goal.returns-in_err-tag_of
returns-in_err-tag_of c =
    let p = err_from_is_err_and c.from_residual.result c.from_residual.ensures.1 in
    let e = c.in_err-tag_of.ensures in
    rw (p.1, p.2, e.0) (recall-number _ _ e.1, tt)

pub returns-in_err-find : goal.returns-in_err-find
returns-in_err-find c =
    let p = err_from_is_err_and c.from_residual-in_err-find.result c.from_residual-in_err-find.ensures.1 in
    let t = c.in_ok-tag_of.ensures in
    rw (p.1, p.2) (recall-refused _ _ t.1 _ (ap (spot c.args.pool.now) (sym t.0) ∙ sym c.in_err-find.ensures.0), tt)

pub returns-in_err-setup : goal.returns-in_err-setup
returns-in_err-setup c =
    let p = err_from_is_err_and c.from_residual-in_err-setup.result c.from_residual-in_err-setup.ensures.1 in
    let t = c.in_ok-tag_of.ensures in
    let i = c.in_ok-find.ensures in
    let o = c.in_err-setup.ensures.ok_part in
    let v = rw o at c.in_err-setup.ensures.value in
    let e : c.in_err-setup.field-0.0 ≡ NoSetup = cc in
    rw (p.1, p.2, e) (recall-absent _ _ t.1 (ap (spot c.args.pool.now) (sym t.0) ∙ sym i.0 ∙ ap (λ x. spot_of (Ok x)) o), tt)

pub returns : goal.returns
returns c =
    let t = c.in_ok-tag_of.ensures in
    let i = c.in_ok-find.ensures in
    let o = c.in_ok-setup.ensures.ok_part in
    (recall-found _ _ t.1 _ _ (ap (spot c.args.pool.now) (sym t.0) ∙ sym i.0 ∙ ap (λ x. spot_of (Ok x)) o), rw o at i.1)
