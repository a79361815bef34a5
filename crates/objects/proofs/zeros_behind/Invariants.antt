-- `objects::zeros_behind` meets its contract. The invariant: the bits passed are zero, and the bytes from word `i` of the run to its end,
-- exactly where those from the body's end on are. Assumes nothing.
use Prim.Native.Nat.{◌+◌, ◌*◌}
use mathlib.Core.Path.{◌≡◌}
use Rattle.rules.proofs.Zeros.{zeros_to}
use Rattle.stage.specs.Seen.{seen_by}
use Rattle.objects.proofs.zeros_behind.Given as goal

abbrev pub invariant-loop-i : goal.invariant-loop-i
invariant-loop-i l =
    zeros_to (l.at + 8 * l.end) (seen_by l.view) l.bits (l.at + 8 * l.i) ≡ zeros_to (l.at + 8 * l.end) (seen_by l.view) 0 (l.at + 16 + l.m)
