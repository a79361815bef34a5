-- `memory::ramp`: the bytes so far, and the next one. Assumes nothing.
use Rattle.std.proofs.Common.{◌≡◌, ℕ, ◌+◌, ◌*◌, ◌%◌, ◌^◌, ◌<◌, get_or}
use Rattle.examples.proofs.memory.ramp.Given as goal

abbrev pub invariant-loop-byte : goal.invariant-loop-byte
invariant-loop-byte l =
    (l.b ≡ (l.first + 7 * l.byte-index) % 2 ^ 8)
    × ((k : ℕ) → k < l.byte-index → get_or l.s k 0 ≡ (l.first + 7 * k) % 2 ^ 8)
