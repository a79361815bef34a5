-- `setups::find` meets its contract. Assumes nothing.
use mathlib.Core.Path.{sym, ap, ◌∙◌}
use native.Mathlib.Omega.{arith}
use Rattle.std.proofs.Common.{Ok}
use Rattle.std.proofs.lemmas.Result.{err_from_is_err_and}
use Rattle.pool.specs.Meaning.{look_up_of}
use Rattle.setups.proofs.Finding.{spot-absent, spot-damaged, spot-found, spot-refused, spot-size}
use Rattle.setups.proofs.find.Goals as goal

pub returns-in_err-address : goal.returns-in_err-address
returns-in_err-address c =
    let p = err_from_is_err_and c.from_residual.result c.from_residual.ensures.1 in
    rw (p.1, p.2) (spot-refused _ _ _ (sym c.in_err-address.ensures), tt)

pub returns-in_default : goal.returns-in_default
returns-in_default c = (spot-absent _ _ (sym c.in_ok-address.ensures ∙ ap (λ o. look_up_of (Ok o)) c.in_default.is), tt)

pub returns-in_err-body : goal.returns-in_err-body
returns-in_err-body c =
    let p = err_from_is_err_and c.from_residual-in_err-body.result c.from_residual-in_err-body.ensures.1 in
    let e = sym c.in_ok-address.ensures ∙ ap (λ o. look_up_of (Ok o)) c.in-Some.is in
    rw (p.1, p.2) (spot-damaged _ _ (λ i. omega (arith, c.type_inv.pool i)) _ e _ (sym c.in_err-body.ensures.0), tt)

pub returns-then-body-ne-SIZE : goal.returns-then-body-ne-SIZE
returns-then-body-ne-SIZE c =
    let e = sym c.in_ok-address.ensures ∙ ap (λ o. look_up_of (Ok o)) c.in-Some.is in
    (spot-size _ _ (λ i. omega (arith, c.type_inv.pool i)) _ e _ _ (sym c.in_ok-body.ensures.0) c.if-body-ne-SIZE.true, tt)

pub returns : goal.returns
returns c =
    let e = sym c.in_ok-address.ensures ∙ ap (λ o. look_up_of (Ok o)) c.in-Some.is in (
      spot-found _ _ (λ i. omega (arith, c.type_inv.pool i)) _ e _ _ (sym c.in_ok-body.ensures.0) (omega (arith, c.if-body-ne-SIZE.false)),
      omega (arith, c.in_ok-body.ensures.1, c.if-body-ne-SIZE.false),
    )
