-- `recovery::make_step` meets its contract. Assumes nothing.
use mathlib.Core.Path.{sym}
use native.Mathlib.Omega.{arith}
use Rattle.std.proofs.lemmas.Result.{err_from_is_err_and}
use Rattle.recovery.proofs.Stepping.{judged_same, on-possible, place-few, pool-refused, possible, record-refused, step-made, step-refused}
use Rattle.recovery.proofs.make_step.Goals as goal

pub returns-in_err-opened : goal.returns-in_err-opened
returns-in_err-opened c =
    let p = err_from_is_err_and c.from_residual.result c.from_residual.ensures.1 in
    rw (p.1, p.2) (step-refused _ c.args.recovery _ (pool-refused _ c.args.recovery _ (sym c.in_err-opened.ensures.shape)))

pub returns-in_err-k : goal.returns-in_err-k
returns-in_err-k c =
    let p = err_from_is_err_and c.from_residual-in_err-k.result c.from_residual-in_err-k.ensures.1 in
    let o = c.in_ok-opened in
    let j = judged_same o.opened.shape c.args.recovery o.ensures.bytes c.in_err-k.ensures.refusal in
    rw (p.1, p.2) (step-refused _ c.args.recovery _ (record-refused _ c.args.recovery o.opened.shape (sym o.ensures.shape) _ j))

pub action_at-action-requires : goal.action_at-action-requires
action_at-action-requires c = on-possible c.in_ok-opened.opened.shape _ c.args.recovery c.in_ok-k.ensures.refusal c.in_ok-k.ensures.place

pub overflow_add-k : goal.overflow_add-k
overflow_add-k c =
    let s = c.in_ok-opened.opened.shape in
    let m = place-few s _ _ _ (on-possible s _ c.args.recovery c.in_ok-k.ensures.refusal c.in_ok-k.ensures.place) in omega arith

pub told-requires : goal.told-requires
told-requires c =
    let s = c.in_ok-opened.opened.shape in
    (possible s _ _ _ (on-possible s _ c.args.recovery c.in_ok-k.ensures.refusal c.in_ok-k.ensures.place)).count

pub returns : goal.returns
returns c =
    let o = c.in_ok-opened in
    let j = judged_same o.opened.shape c.args.recovery o.ensures.bytes c.in_ok-k.ensures.refusal in
    step-made o.opened.shape _ c.args.recovery (sym o.ensures.shape) j c.in_ok-k.ensures.place o.ensures.bytes _ _ _ c.action_at-action.ensures c.apply.ensures c.told.ensures
