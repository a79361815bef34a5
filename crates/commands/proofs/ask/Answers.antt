-- `commands::ask` meets its contract. Assumes nothing.
use borrow.Author.Rules.{rules}
use Rattle.commands.proofs.Handing.{ask-hands}
use Rattle.commands.proofs.ask.Goals as goal

pub returns : goal.returns
returns c =
    let t = c.take-taken.ensures in
    let p = c.put_error.ensures in
    λ staging. ask-hands _ _ staging _ t.error p.0 p.1 (search rules)
