-- `texts::Text::put_between` meets its contract. Assumes nothing.
use mathlib.Core.Path.{refl}
use native.Mathlib.Omega.{arith}
use Rattle.texts.specs.Put.{between_text}
use Rattle.texts.proofs.Adds.{adds_as, adds_then}
use Rattle.texts.proofs.Text.put_between.Goals as goal

pub returns : goal.returns
unfolding between_text
returns c = adds_as (adds_then c.put_bytes.ensures (adds_then c.put_number.ensures c.put_bytes-2.ensures)) refl (omega arith)
