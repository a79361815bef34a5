-- The numbers of include/pool.h: a number that goes in comes out again. Assumes nothing.
use Prim.Native.Nat.{ℕ, zero, suc, ◌/◌, ◌%◌}
use mathlib.Core.Path.{◌≡◌, refl}
use native.Mathlib.Omega.{arith}
use Rattle.powercut.specs.Steps.{replay}
use Rattle.pool_c.specs.Meaning.{log_in, phase_in, phase_out, progress_in, progress_out, work_in, work_out}

pub phase-out-in : (n : ℕ) → phase_out (phase_in n) ≡ n
phase-out-in zero = refl
phase-out-in (suc zero) = refl
phase-out-in (suc (suc k)) = omega arith

pub progress-out-in : (n : ℕ) → progress_out (progress_in n) ≡ n
progress-out-in zero = refl
progress-out-in (suc k) = omega arith

pub work-out-in : (n : ℕ) → work_out (work_in n) ≡ n
work-out-in zero = refl
work-out-in (suc zero) = refl
work-out-in (suc (suc zero)) = refl
work-out-in (suc (suc (suc m))) = replayed (m % 2) refl
  where
    replayed : (r : ℕ) → m % 2 ≡ r → work_out (replay (log_in r) (m / 2)) ≡ suc (suc (suc m))
    replayed zero e = omega arith
    replayed (suc r) e = omega arith
