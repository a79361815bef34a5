-- `texts::Text::put_pair` meets its contract. Assumes nothing.
use mathlib.Core.Path.{refl}
use native.Mathlib.Omega.{arith}
use Rattle.texts.specs.Put.{pair_text}
use Rattle.texts.proofs.Adds.{adds_as, adds_then}
use Rattle.texts.proofs.Text.put_pair.Goals as goal

pub returns : goal.returns
unfolding pair_text
returns c =
    adds_as (adds_then c.put_bytes.ensures (adds_then c.put_number.ensures (adds_then c.put_bytes-2.ensures c.put_number-2.ensures))) refl (omega arith)
