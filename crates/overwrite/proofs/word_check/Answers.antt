-- `overwrite::word_check` meets its contract. Assumes nothing.
use mathlib.Core.Path.{◌∙◌}
use Rattle.heads.proofs.Digits.{le-digits}
use Rattle.overwrite.proofs.word_check.Goals as goal

pub returns : goal.returns
returns c = rw (c.to_le_bytes.ensures ∙ le-digits c.args.word) at c.part_check.ensures
