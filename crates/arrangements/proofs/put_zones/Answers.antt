-- `arrangements::put_zones` meets its contract. Assumes nothing.
use borrow.Author.Rules.{rules}
use Rattle.arrangements.proofs.Listing.{text-listed, text-refused, text-room}
use Rattle.arrangements.proofs.put_zones.Goals as goal

pub returns-in_default : goal.returns-in_default
returns-in_default c = text-refused _ (search rules) c.put_bytes.ensures

pub put_rest-requires : goal.put_rest-requires
put_rest-requires c = text-room c.new-line.ensures.stored c.new-line.ensures.place c.put_bytes-2.ensures _ c.in-Some.ensures.most c.requires

pub returns : goal.returns
returns c = text-listed c.new-line.ensures.stored c.new-line.ensures.place c.put_bytes-2.ensures _ c.in-Some.ensures.most _ c.in-Some.ensures.value c.put_rest.ensures
