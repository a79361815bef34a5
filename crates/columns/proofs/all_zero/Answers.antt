-- `columns::all_zero` meets its contract. Assumes nothing.
use mathlib.Core.Path.{refl}
use Rattle.rules.specs.Scrub.{all_to}
use Rattle.columns.specs.Column.{zeros}
use Rattle.columns.proofs.Pages.{zeros-more}
use Rattle.columns.proofs.all_zero.Goals as goal

pub loop-byte-init : goal.loop-byte-init
unfolding zeros all_to
loop-byte-init c = refl

pub loop-byte-preserved : goal.loop-byte-preserved
loop-byte-preserved c = let l = c.loop-byte in zeros-more c.args.s.now l.byte-index l.any l.invariant
