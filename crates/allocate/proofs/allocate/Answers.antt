-- `allocate::allocate` meets its contract. Assumes nothing.
use Rattle.std.proofs.Common.{refl}
use Prim.Native.Nat.{◌+◌, ◌*◌}
use Rattle.rules.specs.Words.{Bytes}
use Rattle.rules.specs.Shape.{zone_cells}
use Rattle.rules.specs.Answer.{address}
use Rattle.std.proofs.lemmas.Result.{err_from_is_err_and}
use Rattle.stage.proofs.Index.{blank-zeros}
use Rattle.layout.specs.Meaning.{shape_of}
use Rattle.allocate.proofs.Fitting.{address-small, allocate-placed, allocate-refused, fit_small}
use Rattle.allocate.proofs.Placed.{place-many, place-stored}
use native.Mathlib.Omega.{arith}
use Rattle.allocate.proofs.allocate.Goals as goal

pub fill_index-requires : goal.fill_index-requires
fill_index-requires c = (blank-zeros, c.requires.few, c.requires.staged.room)

pub returns-in_err-fit : goal.returns-in_err-fit
returns-in_err-fit c =
    let a = c.args in
    let p = err_from_is_err_and c.from_residual.result c.from_residual.ensures.1 in
    rw (p.1, p.2) (allocate-refused (shape_of a.pool.now.shape) a.pool.now.bytes.now a.staging.now a.count a.tag a.body.now c.in_err-fit.ensures)

pub overflow_mul-at : goal.overflow_mul-at
overflow_mul-at c = omega (arith, fit_small c.args.pool.now.shape c.in_ok-fit.ensures)

pub overflow_add-at : goal.overflow_add-at
overflow_add-at c = omega (arith, fit_small c.args.pool.now.shape c.in_ok-fit.ensures, c.zone_at.ensures.1)

pub count_fresh-requires : goal.count_fresh-requires
count_fresh-requires c = (c.in_ok-fit.ensures.small, omega (arith, fit_small c.args.pool.now.shape c.in_ok-fit.ensures, c.zone_at.ensures.1))

pub returns-in_err-fresh : goal.returns-in_err-fresh
returns-in_err-fresh c =
    let a = c.args in
    let f = c.in_ok-fit.fit in
    let e = c.in_err-fresh.ensures in
    let p = err_from_is_err_and c.from_residual-in_err-fresh.result c.from_residual-in_err-fresh.ensures.1 in
    rw (p.1, p.2)
    (allocate-placed (shape_of a.pool.now.shape) a.pool.now.bytes.now a.staging.now a.count a.tag a.body.now c.in_ok-fit.ensures (place-many a.staging.now a.count _ _ a.tag a.body.now (address (f.zone * zone_cells (shape_of a.pool.now.shape) + f.cell)) e.0 e.1) refl refl c.zone_at.ensures.0 refl c.cells_for.ensures.0 refl)

pub overflow_mul-address : goal.overflow_mul-address
overflow_mul-address c = omega (arith, address-small c.args.pool.now.shape c.in_ok-fit.ensures c.cells.ensures.0)

pub overflow_add-address : goal.overflow_add-address
overflow_add-address c = omega (arith, address-small c.args.pool.now.shape c.in_ok-fit.ensures c.cells.ensures.0, fit_small c.args.pool.now.shape c.in_ok-fit.ensures)

pub returns : goal.returns
returns c =
    let a = c.args in
    let b : Bytes c.place-n.new.staging = λ i. omega (arith, c.type_inv.staging i) in
    allocate-placed (shape_of a.pool.now.shape) a.pool.now.bytes.now a.staging.now a.count a.tag a.body.now c.in_ok-fit.ensures (place-stored a.staging.now a.count _ _ a.tag a.body.now (address _) c.in_ok-fresh.ensures c.requires.room b c.place-n.ensures) c.cells.ensures.0 refl c.zone_at.ensures.0 refl c.cells_for.ensures.0 refl
