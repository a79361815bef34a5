-- `write::write` meets its contract. Assumes nothing.
use Prim.Native.Nat.{◌%◌}
use mathlib.Core.Path.{◌≡◌}
use Rattle.std.proofs.lemmas.Result.{err_from_is_err_and}
use Rattle.rules.specs.Words.{Bytes}
use Rattle.stage.proofs.Index.{blank-zeros}
use Rattle.stage.proofs.Seen.{bytes-seen}
use Rattle.stage.specs.View.{seen}
use Rattle.layout.specs.Meaning.{shape_of}
use Rattle.zones.proofs.Shaped.{cells-some}
use Rattle.zones.proofs.NamedAt.{named-below}
use Rattle.write.proofs.Planned.{head-even, write-many, write-outside, write-passed, write-range, write-refused, write-stored}
use native.Mathlib.Omega.{arith}
use Rattle.write.proofs.write.Goals as goal

pub fill_index-requires : goal.fill_index-requires
fill_index-requires c = (blank-zeros, c.requires.few, c.requires.staged.room)

pub returns-in_err-object : goal.returns-in_err-object
returns-in_err-object c =
    let a = c.args in
    let p = err_from_is_err_and c.from_residual.result c.from_residual.ensures.1 in
    rw (p.1, p.2) (write-refused (shape_of a.pool.now.shape) a.pool.now.bytes.now a.staging.now a.count a.a a.at a.bytes.now c.in_err-object.ensures)

pub returns-then-outside : goal.returns-then-outside
returns-then-outside c =
    let a = c.args in
    write-outside (shape_of a.pool.now.shape) a.pool.now.bytes.now a.staging.now a.count a.a a.at a.bytes.now c.in_ok-object.ensures c.outside.ensures c.if-outside.true

pub head_at-requires : goal.head_at-requires
head_at-requires c = named-below c.in_ok-object.ensures

pub count_fresh-requires : goal.count_fresh-requires
count_fresh-requires c =
    let a = c.args in
    write-range (shape_of a.pool.now.shape) a.pool.now.bytes.now a.staging.now a.count a.a a.at a.bytes.now c.in_ok-object.ensures c.outside.ensures c.if-outside.false c.head_at.ensures (cells-some a.pool.now.shape) (head-even a.pool.now.shape a.a)

pub returns-in_err-fresh : goal.returns-in_err-fresh
returns-in_err-fresh c =
    let a = c.args in
    let m = c.in_ok-object.object.length in
    let h : c.head_at.result % 8 ≡ 0 = rw c.head_at.ensures (head-even a.pool.now.shape a.a) in
    let p = err_from_is_err_and c.from_residual-in_err-fresh.result c.from_residual-in_err-fresh.ensures.1 in
    rw (p.1, p.2)
    (write-passed (shape_of a.pool.now.shape) a.pool.now.bytes.now a.staging.now a.count a.a a.at a.bytes.now c.in_ok-object.ensures c.outside.ensures c.if-outside.false c.head_at.ensures
    (write-many (seen a.pool.now.bytes.now a.staging.now a.count) a.staging.now a.count (record { head = c.head_at.result; length = m; at = a.at; bytes = a.bytes }) h c.in_err-fresh.ensures.0 c.in_err-fresh.ensures.1))

pub check_word-word-requires : goal.check_word-word-requires
check_word-word-requires c =
    let a = c.args in
    let x : Bytes a.bytes.now = λ i. omega (arith, c.type_inv.bytes i) in
    let r = write-range (shape_of a.pool.now.shape) a.pool.now.bytes.now a.staging.now a.count a.a a.at a.bytes.now c.in_ok-object.ensures c.outside.ensures c.if-outside.false c.head_at.ensures (cells-some a.pool.now.shape) (head-even a.pool.now.shape a.a) in
    (r, bytes-seen a.pool.now.bytes.now a.staging.now a.count a.pool.now.octets, x)

pub touch_write-n-requires : goal.touch_write-n-requires
touch_write-n-requires c =
    let a = c.args in
    let r = write-range (shape_of a.pool.now.shape) a.pool.now.bytes.now a.staging.now a.count a.a a.at a.bytes.now c.in_ok-object.ensures c.outside.ensures c.if-outside.false c.head_at.ensures (cells-some a.pool.now.shape) (head-even a.pool.now.shape a.a) in
    (c.requires.staged, r, c.in_ok-fresh.ensures, c.check_word-word.ensures, c.requires.room)

pub returns : goal.returns
returns c =
    let a = c.args in
    let m = c.in_ok-object.object.length in
    let h : c.head_at.result % 8 ≡ 0 = rw c.head_at.ensures (head-even a.pool.now.shape a.a) in
    let b : Bytes c.touch_write-n.new.staging = λ i. omega (arith, c.type_inv.staging i) in
    write-passed (shape_of a.pool.now.shape) a.pool.now.bytes.now a.staging.now a.count a.a a.at a.bytes.now c.in_ok-object.ensures c.outside.ensures c.if-outside.false c.head_at.ensures
    (write-stored (seen a.pool.now.bytes.now a.staging.now a.count) a.staging.now a.count (record { head = c.head_at.result; length = m; at = a.at; bytes = a.bytes }) h b c.requires.room c.in_ok-fresh.ensures.room c.touch_write-n.ensures)
