-- `header::pages_same` meets its contract. The invariant: the bits passed are zero, and the pages the same from there on, exactly where they are the same.
-- Assumes nothing.
use Rattle.std.proofs.Common.{◌≡◌, ◌&&◌, eqb, length}
use Rattle.std.specs.Iterator.Adapters.{zip_first, zip_second}
use Rattle.std.specs.Slice.Iter.{iter_rest}
use Rattle.rules.specs.Header.{same}
use Rattle.header.proofs.pages_same.Given as goal

abbrev pub invariant-loop-x : goal.invariant-loop-x
invariant-loop-x l =
    let xs = iter_rest (zip_first l.x-iterator) in
    let ys = iter_rest (zip_second l.x-iterator) in
    (length ys ≡ length xs) × ((eqb l.bits 0 && same xs ys) ≡ same l.a l.b)
