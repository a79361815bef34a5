-- Laws of tests: going by a test's two outcomes, and what `&&` and `||` say. Assumes nothing.
use Prim.Native.Nat.{ℕ}
use mathlib.Core.Path.{◌≡◌, refl}
use mathlib.Core.Bool.{Bool, true, false, ◌&&◌, ◌||◌}
use native.Mathlib.Omega.{arith}

pub split : {A : Type 0} (b : Bool) → (b ≡ true → A) → (b ≡ false → A) → A
split true f g = f refl
split false f g = g refl

pub and_split : (a b : Bool) → (a && b) ≡ true → (a ≡ true) × (b ≡ true)
and_split true b e = (refl, e)
and_split false b e = (e, cc)

pub and-join : (a b : Bool) → a ≡ true → b ≡ true → (a && b) ≡ true
and-join a b p q = rw (p, q)

pub and-false : (a b : Bool) → (a && b) ≡ false → b ≡ true → a ≡ false
and-false true b e h = absurd (let z : ◌≡◌ {A = ℕ} 0 1 = cc in omega arith)
and-false false b e h = refl

pub or-false : (a b : Bool) → (a || b) ≡ false → (a ≡ false) × (b ≡ false)
or-false true b e = absurd (let z : ◌≡◌ {A = ℕ} 0 1 = cc in omega arith)
or-false false b e = (refl, e)

pub and-true : (a b : Bool) → b ≡ true → (a && b) ≡ a
and-true true b z = z
and-true false b z = refl
