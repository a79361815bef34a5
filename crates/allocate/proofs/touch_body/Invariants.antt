-- `allocate::touch_body` meets its contract. Assumes nothing.
use Rattle.stage.specs.Touched.{TouchedWords}
use Rattle.allocate.proofs.touch_body.Given as goal

abbrev pub invariant-loop-i : goal.invariant-loop-i
invariant-loop-i l = TouchedWords l.initial.staging l.count l.i l.target l.body l.staging l.n
