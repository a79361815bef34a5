-- `lines::Verb::behind` meets its contract. Assumes nothing.
use mathlib.Core.Path.{◌≡◌, ap, ◌∙◌}
use lib.ListN.{length}
use Rattle.lines.proofs.Words.{begins-same, begins-short, header-length, stripped}
use Rattle.lines.specs.Meaning.{verb_of}
use Rattle.lines.proofs.Verb.behind.Goals as goal

pub returns-in_err-front : goal.returns-in_err-front
returns-in_err-front c = rw c.from_residual.ensures (begins-short _ _ (rw c.header-header.ensures at c.in_err-front.ensures.cases))

pub returns : goal.returns
returns c =
    let n : length c.header-header.result.now ≡ 4 = ap length c.header-header.ensures ∙ header-length (verb_of c.args.self) in
    let m = rw n at c.in_ok-front.ensures.cases in
    let e = rw (c.header-header.ensures, m.1) at c.eq_ignore_ascii_case.ensures.test in
    rw c.then_some.ensures (stripped _ _ _ _ (begins-same _ _ c.eq_ignore_ascii_case.result e) m.2)
