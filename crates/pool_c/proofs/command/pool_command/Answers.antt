-- `pool_c::command::pool_command` meets its contract. Assumes nothing.
use Rattle.pool_c.proofs.Obeyed.{handed-fits, handed_out, obeyed-fits}
use Rattle.pool_c.proofs.command.pool_command.Goals as goal

pub told-requires : goal.told-requires
told-requires c = handed-fits _ _ _ _ _ c.obey-obeyed.ensures (obeyed-fits _ _ _ _ _ _)

pub returns : goal.returns
returns c = rw (← c.from.ensures) (handed_out _ _ _ _ _ c.obey-obeyed.ensures c.from-2.ensures c.told.ensures)
