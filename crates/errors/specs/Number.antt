-- The six errors by their numbers, without the minus; 0 stands for none. Assumes nothing.
use Rattle.std.specs.Prelude.{ℕ, Option, Some, None}
use Rattle.errors.specs.Errors.{data_out_of_range, data_type_error, execution_error, missing_parameter, queue_overflow, undefined_header}
use Rattle.errors.specs.declared.Error.{Error}
use Rattle.errors.specs.declared.Error.TheVariants.{DataType, Execution, MissingParameter, OutOfRange, QueueOverflow, UndefinedHeader}

abbrev pub number_of : Error → ℕ
number_of DataType = data_type_error
number_of MissingParameter = missing_parameter
number_of UndefinedHeader = undefined_header
number_of Execution = execution_error
number_of OutOfRange = data_out_of_range
number_of QueueOverflow = queue_overflow

abbrev pub number_in : Option Error → ℕ
number_in (Some e) = number_of e
number_in None = 0
