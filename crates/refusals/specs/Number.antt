-- The refusals by 01's numbers, and the refusal that a result is. Assumes nothing.
use Rattle.std.specs.Prelude.{ℕ, Result, Ok, Err}
use Rattle.std.proofs.Math.Option.{Option, none, some}
use Rattle.refusals.specs.declared.Refusal.{Refusal}
use Rattle.refusals.specs.declared.Refusal.TheVariants as R

abbrev pub number_of : Refusal → ℕ
number_of R.Shape = 1
number_of R.Length = 2
number_of R.NoHeader = 3
number_of R.HeadersDiffer = 4
number_of R.Address = 5
number_of R.Body = 6
number_of R.Range = 7
number_of R.LossList = 8
number_of R.Staging = 9
number_of R.Record = 10
number_of R.Pool = 11
number_of R.Sealed = 21
number_of R.NoLog = 22
number_of R.Broken = 23
number_of R.NoObject = 24
number_of R.Damaged = 25
number_of R.NoRoom = 26
number_of R.TooMany = 27
number_of R.TwoLost = 28
number_of R.Phase = 29
number_of R.NoSetup = 31
number_of R.SetupNumber = 32
number_of R.SetupSize = 33
number_of (R.Other o) = o.number

-- The number of the refusal that a result is; none where the call is carried out.
abbrev pub refusal_in : {T : Type 0} → Result T Refusal → Option ℕ
refusal_in (Ok x) = none
refusal_in (Err r) = some (number_of r)

-- The same with 0 where the call is carried out.
abbrev pub number_or_0 : {T : Type 0} → Result T Refusal → ℕ
number_or_0 (Ok x) = 0
number_or_0 (Err r) = number_of r
