-- `stage::View::find` meets its contract. Assumes nothing.
use Rattle.stage.proofs.Index.{Chase}
use Rattle.stage.proofs.View.find.Given as goal

abbrev pub invariant-loop-p : goal.invariant-loop-p
invariant-loop-p l = Chase l.self.staging.now l.self.count l.target l.p

abbrev pub decreases-loop-p : goal.decreases-loop-p
decreases-loop-p l = l.p
