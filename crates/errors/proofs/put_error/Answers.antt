-- `errors::put_error` meets its contract. Assumes nothing.
use mathlib.Core.Path.{◌≡◌}
use native.Mathlib.Omega.{arith}
use borrow.Author.Rules.{rules}
use Rattle.texts.proofs.Adds.{put_whole}
use Rattle.errors.specs.Errors.{line}
use Rattle.errors.specs.Number.{number_in}
use Rattle.errors.proofs.Errors.{number-short}
use Rattle.errors.proofs.put_error.Goals.{in-Some, in-None}
use Rattle.errors.proofs.put_error.Goals as goal

pub put_bytes-requires : goal.put_bytes-requires
unfolding line
put_bytes-requires c =
    elim c.match-e.branch [
      | in-Some w ↦ rw (w.line-is, w.line-line.ensures) (omega (arith, c.new-text.ensures.place, number-short w.in-Some.e))
      | in-None w ↦ rw w.line-is (omega (arith, c.new-text.ensures.place))
    ]

pub returns : goal.returns
unfolding line
returns c =
    let l : c.match-e.line.now ≡ line (number_in c.args.e) =
    elim c.match-e.branch [ in-Some w ↦ rw (w.line-is, w.in-Some.is) w.line-line.ensures | in-None w ↦ rw (w.line-is, w.in-None.is) ] in
    search (rules, put_whole)
