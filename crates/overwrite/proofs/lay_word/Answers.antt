-- `overwrite::lay_word` meets its contract. Assumes nothing.
use mathlib.Core.Path.{ap, ◌∙◌}
use Prim.Native.Nat.{ℕ}
use mathlib.Core.List.{List}
use lib.Seq.{sets}
use Rattle.rules.specs.Words.{word}
use Rattle.heads.proofs.Digits.{le-digits, le-word}
use Rattle.overwrite.proofs.lay_word.Goals as goal

pub returns : goal.returns
returns c =
    let a = c.args in
    c.from_le_bytes.ensures ∙ le-word _
    ∙ ap (λ (x : List ℕ). word x 0) (c.lay_part.ensures ∙ ap (λ (x : List ℕ). sets x a.skip a.new.now) (c.to_le_bytes-bytes.ensures ∙ le-digits a.word))
