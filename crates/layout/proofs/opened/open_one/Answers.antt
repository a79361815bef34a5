-- `layout::opened::open_one` meets its contract. Assumes nothing.
use Rattle.std.proofs.Common.{ap, not}
use mathlib.Core.Path.{sym, ◌∙◌}
use Rattle.rules.specs.Header.{page_at, valid_header}
use Rattle.layout.proofs.Opening.{open-equal, open-letters, open_none}
use borrow.Author.Rules.{rules}
use Rattle.layout.proofs.opened.open_one.Goals as goal

pub returns-then-not-letters_ok : goal.returns-then-not-letters_ok
unfolding page_at
returns-then-not-letters_ok c =
    open-letters c.args.pool.now _ c.requires.0 c.requires.1 c.letters_ok.ensures (ap not c.if-not-letters_ok.true)

pub returns-then-not-valid : goal.returns-then-not-valid
unfolding valid_header page_at
returns-then-not-valid c =
    open_none c.args.pool.now _ c.requires.0 c.requires.1 c.valid.ensures c.if-not-valid.true

pub open_by-requires : goal.open_by-requires
open_by-requires c = (search rules, sym c.valid.ensures ∙ c.if-not-valid.false)

pub returns : goal.returns
unfolding valid_header page_at
returns c =
    open-equal c.args.pool.now _ c.requires.0 c.requires.1 c.valid.ensures _ c.if-not-valid.false c.open_by.ensures
