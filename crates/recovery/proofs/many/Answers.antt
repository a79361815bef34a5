-- `recovery::many` meets its contract. Assumes nothing.
use mathlib.Core.Logic.{inl, inr}
use Rattle.powercut.specs.Recovery.{count_above}
use Rattle.recovery.proofs.many.Goals as goal

pub returns-in-Replay : goal.returns-in-Replay
unfolding count_above
returns-in-Replay c = rw c.in-Replay.is

pub returns-in-Clear : goal.returns-in-Clear
unfolding count_above
returns-in-Clear c = elim c.in-Clear.is [ inl e ↦ rw e | inr f ↦ elim f [ inl e ↦ rw e | inr e ↦ rw e ] ]
