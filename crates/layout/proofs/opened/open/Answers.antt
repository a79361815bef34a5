-- `layout::opened::open` meets its contract. Assumes nothing.
use mathlib.Core.Path.{sym, ◌∙◌}
use Rattle.rules.specs.Header.{page_at}
use Rattle.layout.proofs.Opening.{open-short}
use borrow.Author.Rules.{rules}
use Rattle.layout.proofs.opened.open.Goals as goal

pub returns-then-pool : goal.returns-then-pool
returns-then-pool c = open-short c.args.pool.now c.if-pool.true

pub open_one-requires : goal.open_one-requires
unfolding page_at
open_one-requires c = (search rules, sym c.pages_same.ensures ∙ c.if-pages_same.true)

pub open_two-requires : goal.open_two-requires
unfolding page_at
open_two-requires c = (search rules, sym c.pages_same.ensures ∙ c.if-pages_same.false)
