-- `pages::put_front` meets its contract. Assumes nothing.
use Rattle.pages.proofs.Header.{front-stored}
use borrow.Author.Rules.{rules}
use Rattle.pages.proofs.put_front.Goals as goal

pub returns : goal.returns
returns c = search (rules, front-stored)
