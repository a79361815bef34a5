-- `recovery::make_part` meets its contract. Assumes nothing.
use mathlib.Core.Path.{sym}
use native.Mathlib.Omega.{arith}
use Rattle.std.proofs.lemmas.Result.{err_from_is_err_and}
use Rattle.layout.proofs.Opening.{open-shaped}
use Rattle.recovery.proofs.Stepping.{advance-made, advance-refused, judged_same, on-possible, pool-refused, possible, record-refused}
use Rattle.recovery.proofs.make_part.Goals as goal

pub returns-in_err-opened : goal.returns-in_err-opened
returns-in_err-opened c =
    let p = err_from_is_err_and c.from_residual.result c.from_residual.ensures.1 in
    rw (p.1, p.2) (advance-refused _ c.args.recovery _ (pool-refused _ c.args.recovery _ (sym c.in_err-opened.ensures.shape)))

pub returns-in_err-k : goal.returns-in_err-k
returns-in_err-k c =
    let p = err_from_is_err_and c.from_residual-in_err-k.result c.from_residual-in_err-k.ensures.1 in
    let o = c.in_ok-opened in
    let j = judged_same o.opened.shape c.args.recovery o.ensures.bytes c.in_err-k.ensures.refusal in
    rw (p.1, p.2) (advance-refused _ c.args.recovery _ (record-refused _ c.args.recovery o.opened.shape (sym o.ensures.shape) _ j))

pub part_at-made-requires : goal.part_at-made-requires
part_at-made-requires c =
    let o = c.in_ok-opened in
    let j = judged_same o.opened.shape c.args.recovery o.ensures.bytes c.in_ok-k.ensures.refusal in
    (open-shaped _ _ (sym o.ensures.shape), on-possible o.opened.shape _ c.args.recovery j c.in_ok-k.ensures.place)

pub told-requires : goal.told-requires
told-requires c =
    let s = c.in_ok-opened.opened.shape in
    (possible s _ _ _ (on-possible s _ c.args.recovery c.in_ok-k.ensures.refusal c.in_ok-k.ensures.place)).count

pub returns : goal.returns
returns c =
    let o = c.in_ok-opened in
    let j = judged_same o.opened.shape c.args.recovery o.ensures.bytes c.in_ok-k.ensures.refusal in
    advance-made o.opened.shape _ c.args.recovery (sym o.ensures.shape) j c.in_ok-k.ensures.place _ _ _ _ c.part_at-made.ensures c.told.ensures (omega arith)
