-- What the code's queue means: the errors that wait; and the one struct of a queue, with its unused places zero. Assumes nothing.
use Rattle.std.specs.Prelude.{◌-◌, ◌++◌, length, replicate}
use Rattle.errors.specs.Errors as Errors
use Rattle.errors.specs.Errors.{judged, queue_limit}
use Rattle.errors.specs.declared.Queue.{Queue}

unfoldable pub queue_in : Queue → Errors.Queue
queue_in q = judged q.count q.errors

unfoldable pub queue_out : Errors.Queue → Queue
queue_out q = record { errors = q ++ replicate (queue_limit - length q) 0; count = length q }
