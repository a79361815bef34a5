-- The exclusive or of the words of rows, one more row at a time. Assumes nothing.
use Prim.Native.Nat.{ℕ, ◌+◌, ◌*◌, ◌^◌, ◌≤◌, ◌<◌}
use mathlib.Core.Path.{◌≡◌, refl}
use native.Mathlib.Nat.{suc-mul, mul-le-mul_right}
use native.Mathlib.Numerals.{add-one}
use native.Mathlib.Omega.{arith}
use lib.Bits.{bit_xor, xor_lt}
use Rattle.rules.specs.Parity.{xor_to}
use Rattle.columns.specs.Column.{Word}

pub row_room : (k n s : ℕ) → k < n → k * s + s ≤ n * s
row_room k n s h = rw (← suc-mul k s) (mul-le-mul_right s h)

pub rows_none : (f : ℕ → ℕ) → Word (xor_to 0 f) 0
unfolding xor_to
rows_none f = record { value = refl; small = omega arith }

pub rows_row : (f : ℕ → ℕ) (k acc w : ℕ) → Word (xor_to k f) acc → w ≡ f k → w < 2 ^ 64 → Word (xor_to (k + 1) f) (bit_xor acc w)
unfolding xor_to
rows_row f k acc w h e b = rw add-one (record { value = rw (h.value, e); small = xor_lt 64 acc w h.small b })
