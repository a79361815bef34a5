-- Laws of a list of tests: no refusal is given exactly where all tests are passed. Assumes nothing.
use Prim.Native.Nat.{ℕ}
use mathlib.Core.Path.{◌≡◌, refl, sym}
use mathlib.Core.Bool.{Bool, true, false, not}
use mathlib.Core.Option.{none, some}
use mathlib.Core.List.{List, [], ◌∷◌, ◌++◌}
use native.Mathlib.Omega.{arith}
use Rattle.rules.specs.Test.{Test, first, when}

-- no test applies
abbrev pub Passed : List Test → Type 0
Passed [] = Unit {0}
Passed (when b n ∷ ts) = (b ≡ false) × Passed ts

pub not-not : (b : Bool) → not b ≡ false → b ≡ true
not-not true e = refl
not-not false e = sym e

pub passed-left : (ts us : List Test) → Passed (ts ++ us) → Passed ts
passed-left [] us p = tt
passed-left (when b n ∷ ts) us p = (p.0, passed-left ts us p.1)

pub passed-right : (ts us : List Test) → Passed (ts ++ us) → Passed us
passed-right [] us p = p
passed-right (when b n ∷ ts) us p = passed-right ts us p.1

pub passed-join : (ts us : List Test) → Passed ts → Passed us → Passed (ts ++ us)
passed-join [] us p q = q
passed-join (when b n ∷ ts) us p q = (p.0, passed-join ts us p.1 q)

-- no refusal is given exactly where all tests are passed
pub first-passed : (ts : List Test) → first ts ≡ none → Passed ts
unfolding first
first-passed [] e = tt
first-passed (when true n ∷ ts) e = absurd (let z : ◌≡◌ {A = ℕ} 0 1 = cc in omega arith)
first-passed (when false n ∷ ts) e = (refl, first-passed ts e)

pub passed_first : (ts : List Test) → Passed ts → first ts ≡ none
unfolding first
passed_first [] p = refl
passed_first (when b n ∷ ts) p = rw (p.0, first) (passed_first ts p.1)

-- the first refusal of two lists of tests
pub first-left : (ts us : List Test) (n : ℕ) → first ts ≡ some n → first (ts ++ us) ≡ some n
unfolding first
first-left [] us n e = absurd (let z : ◌≡◌ {A = ℕ} 0 1 = cc in omega arith)
first-left (when true m ∷ ts) us n e = e
first-left (when false m ∷ ts) us n e = first-left ts us n e

pub first-right : (ts us : List Test) → Passed ts → first (ts ++ us) ≡ first us
unfolding first
first-right [] us p = refl
first-right (when b m ∷ ts) us p = rw p.0 (first-right ts us p.1)
