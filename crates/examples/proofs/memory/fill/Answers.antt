-- `memory::fill` meets its contract. Assumes nothing.
use mathlib.Core.Path.{◌∙◌, ap, sym}
use native.Mathlib.Omega.{arith}
use Rattle.std.proofs.Common.{◌≡◌, ◌-◌, length, take, drop, replicate, length-take, length-drop}
use Rattle.std.proofs.lemmas.List.{length-replicate}
use Rattle.examples.proofs.Stored.{part-stored}
use Rattle.examples.proofs.memory.fill.Goals as goal

pub returns-then-range-p : goal.returns-then-range-p
returns-then-range-p c =
    let a = c.args in
    let n = a.range.end - a.range.start in
    let long : length (take n (drop a.range.start a.p.now)) ≡ n = omega (arith, length-take n (drop a.range.start a.p.now), length-drop a.range.start a.p.now) in
    let size = length-replicate n a.b in
    part-stored a.p.now a.range.start n a.range.end _ (replicate n a.b)
    (c.fill.ensures.after (λ y e. e) ∙ ap (λ k. replicate k a.b) long) (omega arith) (sym size) (omega arith)
