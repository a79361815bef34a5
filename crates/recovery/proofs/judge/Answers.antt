-- `recovery::judge` meets its contract. Assumes nothing.
use mathlib.Core.Path.{ap}
use Rattle.recovery.specs.Meaning.{progress_of}
use Rattle.recovery.proofs.Starting.{headers-room}
use Rattle.recovery.proofs.Stepping.{judged-finished, judged-impossible, judged-on, judged-other}
use borrow.Author.Rules.{rules}
use Rattle.recovery.proofs.judge.Goals as goal

-- one set for both tests: only their order decides which law serves where
ruleset tests = (judged-impossible, judged-other)

pub id-requires : goal.id-requires
id-requires c = headers-room c.args.pool.now

pub returns-then-impossible : goal.returns-then-impossible
returns-then-impossible c = record { refusal = search (rules, tests); place = tt }

pub returns-then-recovery-id : goal.returns-then-recovery-id
returns-then-recovery-id c = record { refusal = search (rules, tests); place = tt }

pub returns-in-Recovering : goal.returns-in-Recovering
returns-in-Recovering c = record { refusal = let e = c.in-Recovering.is in search (rules, judged-on); place = ap progress_of c.in-Recovering.is }

pub returns-in-Finished : goal.returns-in-Finished
returns-in-Finished c = record { refusal = let e = c.in-Finished.is in search (rules, judged-finished); place = tt }
