-- `header::rest_ok` meets its contract. The invariant: the bits passed are zero, and what is left, exactly where the page is from 20 on. Assumes nothing.
use Rattle.std.proofs.Common.{◌≡◌, ◌%◌, ◌&&◌, eqb, length}
use Rattle.std.specs.Slice.Iter.{chunks_exact_rest, chunks_exact_size}
use Rattle.rules.specs.Shape.{page_size}
use Rattle.rules.specs.Words.{all_zero}
use Rattle.rules.proofs.Zeros.{zeros_to}
use Rattle.header.proofs.rest_ok.Given as goal

abbrev pub invariant-loop-word : goal.invariant-loop-word
invariant-loop-word l =
    let left = chunks_exact_rest l.word-iterator in
    (chunks_exact_size l.word-iterator ≡ 8) × (length left % 8 ≡ 0) × ((eqb l.bits 0 && all_zero left) ≡ zeros_to page_size l.h 0 20)
