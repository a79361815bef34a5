-- `pool::repair` meets its contract. Assumes nothing.
use mathlib.Core.Path.{sym, ◌∙◌}
use native.Mathlib.Omega.{arith}
use Rattle.std.proofs.lemmas.Result.{err_from_is_err_and}
use Rattle.pool_log.proofs.Opening.{read-shaped}
use Rattle.pool.proofs.Repairing.{columns-small, repair-above, repair-altered, repair-length, repair-refused, repair-two}
use Rattle.pool.proofs.repair.Goals as goal
use Rattle.pool.proofs.repair.Goals.{then-lost-s-via-then-lost-s, then-lost-s-via-else-lost-s+then-any_above}

pub returns-in_err-opened : goal.returns-in_err-opened
returns-in_err-opened c =
    let p = err_from_is_err_and c.from_residual.result c.from_residual.ensures.1 in
    rw (p.1, p.2) (repair-refused _ _ c.in_err-opened.field-0.0 (sym c.in_err-opened.ensures.shape))

pub overflow_mul-s : goal.overflow_mul-s
overflow_mul-s c = omega (arith, columns-small c.args.pool.now c.in_ok-opened.opened.shape)

pub returns-then-lost-s : goal.returns-then-lost-s
returns-then-lost-s c =
    let o = sym c.in_ok-opened.ensures.shape in
    elim c.then-lost-s.branch [
      | then-lost-s-via-then-lost-s w ↦ repair-length _ _ c.in_ok-opened.opened.shape o w.if-lost-s.true
      | then-lost-s-via-else-lost-s+then-any_above w ↦ repair-above _ _ c.in_ok-opened.opened.shape o w.if-lost-s.false w.any_above.ensures w.if-any_above.true
    ]

pub returns-then-any_two : goal.returns-then-any_two
returns-then-any_two c =
    repair-two _ _ c.in_ok-opened.opened.shape (sym c.in_ok-opened.ensures.shape) c.if-lost-s.false c.any_above.ensures c.if-any_above.false c.any_two.ensures c.if-any_two.true

pub repair_pages-requires : goal.repair_pages-requires
repair_pages-requires c =
    ((read-shaped _ (sym c.in_ok-opened.ensures.shape)).size, c.if-lost-s.false, sym c.any_above.ensures ∙ c.if-any_above.false, sym c.any_two.ensures ∙ c.if-any_two.false)

pub returns : goal.returns
returns c =
    let r = c.repair_pages.ensures in
    repair-altered _ _ c.in_ok-opened.opened.shape (sym c.in_ok-opened.ensures.shape) c.if-lost-s.false c.any_above.ensures c.if-any_above.false c.any_two.ensures c.if-any_two.false r.0 r.1
