-- `actions::log_action` meets its contract. Assumes nothing.
use mathlib.Core.Path.{◌∙◌}
use Rattle.actions.proofs.Actions.{log-first, log-second}
use Rattle.actions.proofs.log_action.Goals as goal
use Rattle.actions.proofs.log_action.Goals.{then-k-lt2, else-k-lt2}

pub returns : goal.returns
returns c =
    let s = c.args.s in
    let first = log-first s _ _ _ _ c.requires.0 c.requires.1 c.load64.ensures in
    let second = log-second s _ _ _ _ c.requires.0 c.requires.1 c.load64.ensures in
    elim c.if-k-lt2.branch [
      | then-k-lt2 w ↦ first _ w.if-k-lt2.true (w.log-is ∙ w.log_a-log.ensures)
      | else-k-lt2 w ↦ second _ w.if-k-lt2.false (w.log-is ∙ w.log_b-log.ensures)
    ]
