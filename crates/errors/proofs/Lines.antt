-- The printed line of an error, as the code puts it. Assumes nothing.
use Prim.Native.Nat.{ℕ}
use mathlib.Core.Path.{◌≡◌}
use mathlib.Core.Logic.{◌≢◌}
use mathlib.Core.Bool.{false}
use mathlib.Core.List.{[]}
use borrow.Author.Tests.{ne_eqb}
use Rattle.errors.specs.Errors.{is_error, line}

-- neither 0 nor one of the six
pub line-none : (e : ℕ) → e ≢ 0 → is_error e ≡ false → line e ≡ []
unfolding line
line-none e z b = rw (ne_eqb e 0 z, b)
