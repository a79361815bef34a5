-- `commands::carry_out` meets its contract. Assumes nothing.
use mathlib.Core.Path.{refl, ◌∙◌}
use Rattle.std.proofs.lemmas.Result.{err_from_is_err_and}
use Rattle.commands.specs.Obey.{carried_out, idle}
use Rattle.commands.specs.Meaning.{left_by}
use Rattle.commands.proofs.Handing.{command-hands}
use Rattle.commands.proofs.carry_out.Goals as goal

pub returns-in_err-read : goal.returns-in_err-read
unfolding carried_out
returns-in_err-read c =
    let p = err_from_is_err_and c.from_residual.result c.from_residual.ensures.1 in
    rw (p.1, p.2) (command-hands _ _ _ _ _ _ c.in_err-read.ensures refl)

pub returns-in-Nothing : goal.returns-in-Nothing
unfolding carried_out idle
returns-in-Nothing c = c.without_error.ensures _ _ ∙ command-hands _ _ _ _ _ _ (rw c.in-Nothing.is at c.in_ok-read.ensures) refl

pub returns-in_err-save-in-Save : goal.returns-in_err-save-in-Save
unfolding carried_out left_by
returns-in_err-save-in-Save c =
    let p = err_from_is_err_and c.from_residual-in_err-save-in-Save.result c.from_residual-in_err-save-in-Save.ensures.1 in
    rw (p.1, p.2) (command-hands _ _ _ _ _ _ (rw c.in-Save.is at c.in_ok-read.ensures) (c.in_err-save-in-Save.ensures _ _))

pub returns-in_ok-save-in-Save : goal.returns-in_ok-save-in-Save
unfolding carried_out left_by
returns-in_ok-save-in-Save c =
    c.without_error-in-Save.ensures _ _ ∙ command-hands _ _ _ _ _ _ (rw c.in-Save.is at c.in_ok-read.ensures) (c.in_ok-save-in-Save.ensures _ _)

pub returns-in_err-recall-in-Recall : goal.returns-in_err-recall-in-Recall
unfolding carried_out left_by
returns-in_err-recall-in-Recall c =
    let p = err_from_is_err_and c.from_residual-in_err-recall-in-Recall.result c.from_residual-in_err-recall-in-Recall.ensures.1 in
    rw (p.1, p.2) (command-hands _ _ _ _ _ _ (rw c.in-Recall.is at c.in_ok-read.ensures) (c.in_err-recall-in-Recall.ensures _ _ _))

pub returns-in_ok-recall-in-Recall : goal.returns-in_ok-recall-in-Recall
unfolding carried_out left_by
returns-in_ok-recall-in-Recall c =
    c.without_error-in-Recall.ensures _ _ ∙ command-hands _ _ _ _ _ _ (rw c.in-Recall.is at c.in_ok-read.ensures) (c.in_ok-recall-in-Recall.ensures _ _ _)

pub returns-in-Query : goal.returns-in-Query
unfolding carried_out
returns-in-Query c = c.ask.ensures _ ∙ command-hands _ _ _ _ _ _ (rw c.in-Query.is at c.in_ok-read.ensures) refl
