-- `saving::make_calls` meets its contract: what is left to do gives the whole. Assumes nothing.
use Rattle.std.proofs.Common.{◌≡◌, ℕ, List, ◌-◌, ◌≤◌}
use Rattle.rules.specs.Answer.{After, Given}
use Rattle.transaction.specs.Meaning.{after_of, given_of}
use Rattle.saving.specs.Saving.{calls_from}
use Rattle.saving.proofs.make_calls.Given as goal

abbrev pub invariant-loop : goal.invariant-loop
invariant-loop g l =
    (l.counter ≤ l.n)
    × ((f : Given → After) (staging : List ℕ)
    → ((t : _) (p : _) (r : _) (q : _) → goal.F-post g l.fn.next t p r q → after_of r q.now staging ≡ f (given_of t p.now staging))
    → calls_from f (l.n - l.counter) (after_of l.r l.pool staging) ≡ calls_from f l.n (after_of l.initial.r l.initial.pool staging))
