-- `layout::opened::open_two` meets its contract. Assumes nothing.
use mathlib.Core.Path.{sym, ◌∙◌}
use Rattle.rules.specs.Header.{page_at, valid_header}
use Rattle.layout.proofs.Opening.{open-copy, open-differing, open-header, open-neither}
use borrow.Author.Rules.{rules}
use Rattle.layout.proofs.opened.open_two.Goals as goal

pub returns-then-valid-2 : goal.returns-then-valid-2
unfolding valid_header page_at
returns-then-valid-2 c =
    open-differing c.args.pool.now _ _ c.requires.0 c.requires.1 c.valid.ensures c.valid-then-valid.ensures c.if-valid.true c.if-valid-2.true

pub open_by-requires : goal.open_by-requires
open_by-requires c = (search rules, sym c.valid.ensures ∙ c.if-valid.true)

pub returns-then-valid : goal.returns-then-valid
unfolding valid_header page_at
returns-then-valid c =
    open-header c.args.pool.now _ _ c.requires.0 c.requires.1 c.valid.ensures c.valid-then-valid.ensures _ c.if-valid.true c.if-valid-2.false c.open_by.ensures

pub open_by-requires-then-valid-3 : goal.open_by-requires-then-valid-3
open_by-requires-then-valid-3 c = (search rules, sym c.valid-2.ensures ∙ c.if-valid-3.true)

pub returns-then-valid-3 : goal.returns-then-valid-3
unfolding valid_header page_at
returns-then-valid-3 c =
    open-copy c.args.pool.now _ _ c.requires.0 c.requires.1 c.valid.ensures c.valid-2.ensures _ c.if-valid.false c.if-valid-3.true c.open_by-then-valid-3.ensures

pub returns : goal.returns
unfolding valid_header page_at
returns c =
    open-neither c.args.pool.now _ _ c.requires.0 c.requires.1 c.valid.ensures c.valid-2.ensures c.if-valid.false c.if-valid-3.false
