-- Laws of numbers that loops count with. Assumes nothing.
use Prim.Native.Nat.{ℕ, suc, ◌+◌, ◌-◌, ◌<◌}
use mathlib.Core.Path.{◌≡◌}
use native.Mathlib.Omega.{arith}

-- of n, one more is left with k passed than with k + 1
pub less : (n k : ℕ) → k < n → n - k ≡ suc (n - (k + 1))
less n k h = omega arith
