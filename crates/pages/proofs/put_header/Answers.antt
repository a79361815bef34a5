-- `pages::put_header` meets its contract. Assumes nothing.
use mathlib.Core.Path.{◌∙◌}
use Rattle.rules.specs.Shape.{shape}
use Rattle.pages.proofs.Header.{header-stored}
use Rattle.pages.proofs.put_header.Goals as goal

pub returns : goal.returns
returns c =
    let a = c.args in
    header-stored a.s.now a.at (shape a.rows a.cols a.zones) a.id c.requires.page-le c.put_front.ensures (c.from.ensures ∙ c.check-check.ensures) c.store32.ensures
