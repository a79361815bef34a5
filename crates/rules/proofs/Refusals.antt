-- A refused call on the pool alone leaves it as given (`pool-kept`, `repair-kept`); for calls on a transaction see `call-refused` in
-- proofs/Transaction. Assumes nothing.
use Prim.Native.Nat.{ℕ}
use mathlib.Core.Path.{◌≡◌, refl}
use mathlib.Core.Bool.{true}
use mathlib.Core.Option.{Option, none, some}
use mathlib.Core.List.{List}
use native.Mathlib.Omega.{arith}
use Rattle.rules.specs.Test.{first}
use Rattle.rules.specs.Answer.{conclude_pool, is_refused}
use Rattle.rules.specs.Header.{shape_in}
use Rattle.rules.specs.Repair.{conclude_repair, refused, repair, repair_tests, repaired}

pub pool-kept : (p : List ℕ) (r : Option ℕ) (new : List ℕ) → is_refused (conclude_pool p r new).answer ≡ true → (conclude_pool p r new).pool ≡ p
unfolding conclude_pool is_refused
pool-kept p none new e = absurd (let z : ◌≡◌ {A = ℕ} 0 1 = cc in omega arith)
pool-kept p (some n) new e = refl

pub repair-kept : (p ms : List ℕ) (n : ℕ) → (repair p ms).answer ≡ refused n → (repair p ms).pool ≡ p
unfolding repair conclude_repair
repair-kept p ms n = go (first (repair_tests p ms))
  where
    go : (r : Option ℕ) → (conclude_repair p r (repaired (shape_in p) ms p)).answer ≡ refused n → (conclude_repair p r (repaired (shape_in p) ms p)).pool ≡ p
    go none e = absurd (let z : ◌≡◌ {A = ℕ} 0 1 = cc in omega arith)
    go (some m) e = refl
