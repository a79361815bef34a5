-- `free::free` meets its contract. Assumes nothing.
use Rattle.std.proofs.lemmas.Result.{err_from_is_err_and}
use Rattle.rules.specs.Words.{Bytes}
use Rattle.stage.proofs.Index.{blank-zeros}
use Rattle.free.proofs.Freeing.{free-many, free-refused, free-stored, free-taken}
use native.Mathlib.Omega.{arith}
use Rattle.free.proofs.free.Goals as goal

pub fill_index-requires : goal.fill_index-requires
fill_index-requires c = (blank-zeros, c.requires.few, c.requires.staged.room)

pub returns-in_err-free : goal.returns-in_err-free
returns-in_err-free c =
    let a = c.args in
    let p = err_from_is_err_and c.from_residual.result c.from_residual.ensures.1 in
    rw (p.1, p.2) (free-refused a.pool.now.shape a.pool.now.bytes.now a.staging.now a.count a.a c.in_err-free.ensures)

pub returns-then-count-added-gt-ENTRIES : goal.returns-then-count-added-gt-ENTRIES
returns-then-count-added-gt-ENTRIES c =
    let a = c.args in
    free-taken a.pool.now.shape a.pool.now.bytes.now a.staging.now a.count a.a c.in_ok-free.ensures (free-many a.staging.now a.count _ _ c.fresh_words-added.ensures.0 (omega (arith, c.if-count-added-gt-ENTRIES.true)))

pub returns : goal.returns
returns c =
    let a = c.args in
    let b : Bytes c.touch_head-n.new.staging = λ i. omega (arith, c.type_inv.staging i) in
    free-taken a.pool.now.shape a.pool.now.bytes.now a.staging.now a.count a.a c.in_ok-free.ensures
    (free-stored a.staging.now a.count _ _ c.fresh_words-added.ensures.0 _ _ b c.requires.room (omega (arith, c.if-count-added-gt-ENTRIES.false)) c.free_head-h.ensures c.touch_head-n.ensures)
