-- What the code's commands and errors mean. Assumes nothing.
use Rattle.std.specs.Prelude.{Result, Ok, Err}
use Rattle.errors.specs.Number.{number_of}
use Rattle.errors.specs.declared.Error.{Error}
use Rattle.lines.specs.Line as Line
use Rattle.lines.specs.declared.Command.{Command}
use Rattle.lines.specs.declared.Command.TheVariants.{Nothing, Query, Recall, Save}
use Rattle.lines.specs.declared.Verb.{Verb}
use Rattle.lines.specs.declared.Verb.TheVariants.{Rcl, Sav}

abbrev pub asked_by : Command → Line.Command
asked_by Nothing = Line.nothing
asked_by (Save n) = Line.save n
asked_by (Recall n) = Line.recall n
asked_by Query = Line.query

abbrev pub command_of : Result Command Error → Line.Command
command_of (Ok c) = asked_by c
command_of (Err e) = Line.fault (number_of e)

abbrev pub verb_of : Verb → Line.Verb
verb_of Sav = Line.sav
verb_of Rcl = Line.rcl
