-- `header::rest_ok` meets its contract. Assumes nothing.
use Prim.Native.Nat.{ℕ}
use mathlib.Core.Path.{refl, sym, ap, ◌∙◌}
use native.Mathlib.Omega.{arith}
use lib.ListN.{length, length-append}
use Rattle.rules.specs.Shape.{page_size}
use Rattle.rules.proofs.Parts.{part_length}
use Rattle.rules.proofs.Zeros.{zeros-join}
use Rattle.header.proofs.Rest.{rest-zeros, zeros_none, zeros_word}
use Rattle.header.proofs.rest_ok.Goals as goal

pub loop-word-init : goal.loop-word-init
loop-word-init c =
    let h = c.args.h.now in
    let i = c.chunks_exact-word-items.ensures in
    rw (c.into_iter-word-iterator.ensures.into_iter_gives, i.rest, i.size)
    (refl, omega (arith, part_length h 24 232 (omega arith)), zeros-join page_size 4 0 h 20 (omega arith) c.load32-bits.ensures.value)

pub loop-word-preserved : goal.loop-word-preserved
loop-word-preserved c =
    let l = c.loop-word.invariant in
    let s = c.in-Some.ensures.steps in
    (s.0 ∙ l.0, omega (arith, ap length s.1.0, length-append {A = ℕ}), zeros_word c.loop-word.bits c.load64-bits.result _ c.in-Some.word.now _ s.1.0 (s.1.1 ∙ l.0) c.load64-bits.ensures.value ∙ l.2)

pub returns : goal.returns
returns c =
    let l = c.loop-word.invariant in
    sym (zeros_none c.loop-word.bits _ l.1 (omega (arith, c.in-None.ensures.steps.1.0, l.0))) ∙ l.2 ∙ rest-zeros c.args.h.now c.requires
