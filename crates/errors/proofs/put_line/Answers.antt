-- `errors::put_line` meets its contract. Assumes nothing.
use mathlib.Core.Path.{◌≡◌, refl}
use mathlib.Core.Bool.{false}
use mathlib.Core.List.{[]}
use native.Mathlib.Omega.{arith}
use Rattle.errors.specs.Errors.{is_error, line}
use Rattle.errors.proofs.Lines.{line-none}
use Rattle.std.proofs.lemmas.Grind.{common_steps}
use Rattle.errors.proofs.put_line.Goals as goal

pub returns-then-is_none : goal.returns-then-is_none
returns-then-is_none c =
    let b : is_error c.args.e ≡ false = grind (arith, common_steps) in
    let l : line c.args.e ≡ [] = line-none c.args.e (omega arith) b in
    rw l (refl, refl)
