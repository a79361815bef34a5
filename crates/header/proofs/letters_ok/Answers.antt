-- `header::letters_ok` meets its contract. Assumes nothing.
use mathlib.Core.Path.{sym}
use lib.Seq.{length-take-le}
use Rattle.rules.proofs.Header.{same-is}
use native.Mathlib.Omega.{arith}
use Rattle.header.proofs.letters_ok.Goals as goal

pub slice_bounds-same-end : goal.slice_bounds-same-end
slice_bounds-same-end c = sym (length-take-le 4 c.args.h.now (omega arith))

pub returns : goal.returns
returns c = same-is c.same.result _ _ c.same.ensures.0 c.same.ensures.1
