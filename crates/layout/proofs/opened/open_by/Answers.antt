-- `layout::opened::open_by` meets its contract. Assumes nothing.
use mathlib.Core.Path.{sym, ap, ◌∙◌}
use Rattle.layout.specs.Meaning.{checked_of}
use Rattle.layout.proofs.Range.{header_made, header-some}
use Rattle.layout.proofs.Opening.{opened-by-refused, opened-by-good}
use Rattle.layout.proofs.opened.open_by.Goals as goal

pub unwrap-s-requires : goal.unwrap-s-requires
unwrap-s-requires c = header-some c.args.h.now _ _ _ c.byte.ensures.0 c.byte-2.ensures.0 c.byte-3.ensures.0 c.requires.1 _ c.new.ensures.result_value

pub returns-then-n-size : goal.returns-then-n-size
returns-then-n-size c =
    opened-by-refused _ _ _ _ (header_made c.args.h.now _ _ _ c.byte.ensures.0 c.byte-2.ensures.0 c.byte-3.ensures.0 _ (sym (ap checked_of c.unwrap-s.ensures) ∙ c.new.ensures.result_value)) c.size.ensures c.if-n-size.true

pub returns : goal.returns
returns c =
    opened-by-good _ _ _ _ (header_made c.args.h.now _ _ _ c.byte.ensures.0 c.byte-2.ensures.0 c.byte-3.ensures.0 _ (sym (ap checked_of c.unwrap-s.ensures) ∙ c.new.ensures.result_value)) c.size.ensures c.if-n-size.false
