-- `heads::read_head` meets its contract. Assumes nothing.
use native.Mathlib.Omega.{arith}
use Rattle.stage.proofs.Views.{staged-by}
use Rattle.heads.proofs.HeadWords.{head-alone, head-reads, none-fresh, none-staged}
use Rattle.heads.proofs.read_head.Goals as goal

pub known_word-first-requires : goal.known_word-first-requires
known_word-first-requires c = (none-staged (staged-by c.args.view.now), c.requires.0, omega (arith, c.requires.1), λ e. none-fresh _ _)

pub known_word-second-requires : goal.known_word-second-requires
known_word-second-requires c = (none-staged (staged-by c.args.view.now), omega (arith, c.requires.0), omega (arith, c.requires.1), λ e. none-fresh _ _)

pub returns-then-view-eq0 : goal.returns-then-view-eq0
returns-then-view-eq0 c = head-alone _ _ c.if-view-eq0.true c.known_word-first.ensures c.known_word-second.ensures

pub returns : goal.returns
returns c = head-reads c.word-first.ensures c.word-second.ensures
