-- Tests made one after the other, as code makes them: what each way out says. `r` is what the code found by which it goes on, or not.
-- Assumes nothing.
use Prim.Native.Nat.{ℕ}
use mathlib.Core.Path.{◌≡◌}
use mathlib.Core.Bool.{Bool, true, false, not, ◌&&◌}
use lib.Dec.{eqb}
use borrow.Author.Tests.{eq-eqb, ne_eqb, not-true, not-false}

-- a test that another function answers
pub and-stop : (r a b : Bool) → not r ≡ true → r ≡ a → false ≡ (a && b)
and-stop r a b h e = rw (← e, not-true r h)

pub and-go : (r a b x : Bool) → not r ≡ false → r ≡ a → x ≡ b → x ≡ (a && b)
and-go r a b x h e p = rw (← e, not-false r h) p

-- a number that is to be n
pub eq-stop : (r m n : ℕ) (b : Bool) → (r ≡ n → ⊥) → r ≡ m → false ≡ (eqb m n && b)
eq-stop r m n b h e = rw (← e, ne_eqb r n h)

pub eq-go : (r m n : ℕ) (b x : Bool) → r ≡ n → r ≡ m → x ≡ b → x ≡ (eqb m n && b)
eq-go r m n b x h e p = rw (← e, eq-eqb r n h) p

-- a number that is not to be n
pub ne-stop : (r m n : ℕ) (b : Bool) → r ≡ n → r ≡ m → false ≡ (not (eqb m n) && b)
ne-stop r m n b h e = rw (← e, eq-eqb r n h)

pub ne-go : (r m n : ℕ) (b x : Bool) → (r ≡ n → ⊥) → r ≡ m → x ≡ b → x ≡ (not (eqb m n) && b)
ne-go r m n b x h e p = rw (← e, ne_eqb r n h) p
