-- `terminal::typed::read_line` is safe and ends. Assumes nothing.
use Rattle.std.proofs.Common.{◌≡◌, ◌≤◌, length}
use Rattle.terminal.proofs.typed.read_line.Given as goal

abbrev pub invariant-loop : goal.invariant-loop
invariant-loop g l = (l.at ≤ length l.buf) × (length l.buf ≡ length l.initial.buf)
