-- A number that 01 lists is one refusal's alone. Assumes nothing.
use mathlib.Core.Path.{◌≡◌, refl, sym, ap, ◌∙◌}
use mathlib.Core.Bool.{true, cond}
use Prim.Native.Nat.{ℕ}
use lib.Dec.{eqb}
use Rattle.refusals.specs.declared.Refusal.{Refusal}
use Rattle.refusals.specs.declared.Refusal.TheVariants as R
use Rattle.refusals.specs.Listed.{is_listed}
use Rattle.refusals.specs.Number.{number_of}

-- the refusal that has a number by name; d where none has
abbrev case_of : ℕ → Refusal → Refusal
case_of n d =
    cond (eqb n 1) R.Shape
    (cond (eqb n 2) R.Length
    (cond (eqb n 3) R.NoHeader
    (cond (eqb n 4) R.HeadersDiffer
    (cond (eqb n 5) R.Address
    (cond (eqb n 6) R.Body
    (cond (eqb n 7) R.Range
    (cond (eqb n 8) R.LossList
    (cond (eqb n 9) R.Staging
    (cond (eqb n 10) R.Record
    (cond (eqb n 11) R.Pool
    (cond (eqb n 21) R.Sealed
    (cond (eqb n 22) R.NoLog
    (cond (eqb n 23) R.Broken
    (cond (eqb n 24) R.NoObject
    (cond (eqb n 25) R.Damaged
    (cond (eqb n 26) R.NoRoom
    (cond (eqb n 27) R.TooMany
    (cond (eqb n 28) R.TwoLost
    (cond (eqb n 29) R.Phase
    (cond (eqb n 31) R.NoSetup
    (cond (eqb n 32) R.SetupNumber
    (cond (eqb n 33) R.SetupSize d))))))))))))))))))))))

case-own : (r d : Refusal) → is_listed (number_of r) ≡ true → case_of (number_of r) d ≡ r
case-own R.Shape d h = refl
case-own R.Length d h = refl
case-own R.NoHeader d h = refl
case-own R.HeadersDiffer d h = refl
case-own R.Address d h = refl
case-own R.Body d h = refl
case-own R.Range d h = refl
case-own R.LossList d h = refl
case-own R.Staging d h = refl
case-own R.Record d h = refl
case-own R.Pool d h = refl
case-own R.Sealed d h = refl
case-own R.NoLog d h = refl
case-own R.Broken d h = refl
case-own R.NoObject d h = refl
case-own R.Damaged d h = refl
case-own R.NoRoom d h = refl
case-own R.TooMany d h = refl
case-own R.TwoLost d h = refl
case-own R.Phase d h = refl
case-own R.NoSetup d h = refl
case-own R.SetupNumber d h = refl
case-own R.SetupSize d h = refl
case-own (R.Other o) d h = cc (o.unlisted)

-- two refusals with the same listed number are the same
pub listed_own : (r s : Refusal) → is_listed (number_of r) ≡ true → number_of s ≡ number_of r → s ≡ r
listed_own r s h e = sym (case-own s r (rw e h)) ∙ ap (λ n. case_of n r) e ∙ case-own r r h
