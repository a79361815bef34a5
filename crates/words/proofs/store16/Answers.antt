-- `words::store16` meets its contract. Assumes nothing.
use native.Mathlib.Numerals.{add-one}
use lib.ListN.{length-set}
use Rattle.rules.specs.Words.{digits}
use native.Mathlib.Omega.{arith}
use Rattle.words.proofs.store16.Goals as goal

pub bounds-s-at-2 : goal.bounds-s-at-2
bounds-s-at-2 c = simp length-set (omega arith)

pub returns : goal.returns
unfolding digits
returns c = simp add-one
