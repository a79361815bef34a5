-- What the code's answers mean in 01's terms: this paper's number and values for each case; and an answer as two numbers. Assumes nothing.
use Rattle.std.specs.Prelude.{ℕ}
use Rattle.rules.specs.Answer as Paper
use Rattle.refusals.specs.Number.{number_of}
use Rattle.answers.specs.declared.Answer.{Answer}
use Rattle.answers.specs.declared.Answer.TheVariants.{Address, Barrier, Done, Refused, Started, Stored, Taken}

abbrev pub answer_of : Answer → Paper.Answer
answer_of (Address a) = Paper.address a
answer_of Taken = Paper.taken
answer_of Started = Paper.started
answer_of (Stored k) = Paper.stored k
answer_of (Barrier k) = Paper.passed k
answer_of (Done k) = Paper.done k
answer_of (Refused r) = Paper.refused (number_of r)

-- The kind, as include/pool.h numbers them.
abbrev pub kind_of : Paper.Answer → ℕ
kind_of (Paper.refused n) = 0
kind_of (Paper.address a) = 1
kind_of Paper.taken = 2
kind_of Paper.started = 3
kind_of (Paper.stored k) = 4
kind_of (Paper.passed k) = 5
kind_of (Paper.done k) = 6

-- The value: the refusal, the address or the number of the step; 0 where there is none.
abbrev pub value_of : Paper.Answer → ℕ
value_of (Paper.refused n) = n
value_of (Paper.address a) = a
value_of Paper.taken = 0
value_of Paper.started = 0
value_of (Paper.stored k) = k
value_of (Paper.passed k) = k
value_of (Paper.done k) = k
