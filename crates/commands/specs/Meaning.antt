-- What the code hands back: the queue's struct, what was done in the terms of Obey, and the bytes. Assumes nothing.
use Rattle.std.specs.Prelude.{ℕ, List, Result, Ok, Err}
use Rattle.errors.specs.Errors as Errors
use Rattle.errors.specs.declared.Queue.{Queue}
use Rattle.errors.specs.declared.Error.{Error}
use Rattle.errors.specs.Number.{number_of}
use Rattle.errors.specs.Meaning.{queue_out}
use Rattle.transaction.specs.Meaning.{transaction_of}
use Rattle.commands.specs.Obey as Obey
use Rattle.commands.specs.Obey.{failed}
use Rattle.commands.specs.declared.Done.{Done}
use Rattle.commands.specs.declared.Obeyed.{Obeyed}
use Rattle.commands.specs.declared.Done.TheVariants.{Nothing, Printed, Recalled, Saving}

abbrev pub done_of : Done → Obey.Done
done_of Nothing = Obey.nothing
done_of (Saving t) = Obey.saving (transaction_of t)
done_of (Recalled b) = Obey.recalled b.at b.length
done_of (Printed n) = Obey.printed n

-- The queue's struct, what was done, staging memory and the buffer.
abbrev pub Handed : Type 0
Handed = Queue × Obey.Done × List ℕ × List ℕ

abbrev pub handed : Obey.Obeyed → Handed
handed x = (queue_out x.queue, x.done, x.staging, x.out)

-- What saving or recalling leaves, with this queue, staging memory and buffer; or its error entered.
unfoldable pub left_by : Result Done Error → Errors.Queue → List ℕ → List ℕ → Obey.Obeyed
left_by (Ok d) queue staging out = record { queue = queue; done = done_of d; staging = staging; out = out }
left_by (Err e) queue staging out = failed queue staging out (number_of e)

-- What a line carried out hands back, beside staging memory and the buffer; or its error entered into this queue.
abbrev pub handed_by : Result Obeyed Error → Errors.Queue → List ℕ → List ℕ → Handed
handed_by (Ok x) queue staging out = (x.queue, done_of x.done, staging, out)
handed_by (Err e) queue staging out = handed (failed queue staging out (number_of e))
