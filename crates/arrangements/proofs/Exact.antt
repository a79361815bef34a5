-- The list of arrangements is exact: it has the arrangement of every unbroken zone, and each one that it has is a zone's; it ascends. So it is
-- the only list that `Lists` holds of (`lists-unique`). Assumes nothing.
use Prim.Native.Nat.{ℕ, suc, ◌≤◌}
use mathlib.Core.Bool.{false}
use native.Mathlib.Omega.{arith}
use Rattle.arrangements.specs.Arrangements.{Lists, arrangement_of, arrangements}
use Rattle.arrangements.proofs.Arranged.{arranged-listed, listed-arranged}
use Rattle.arrangements.proofs.Zones.{arranged-zone, walk-arranged}
use Rattle.arrangements.proofs.Ascending.{arrangements-ascend}

pub arrangements-exact : (n : ℕ) → n ≤ 8 → Lists n (arrangements n)
unfolding arrangements
arrangements-exact n h =
    record {
      every = λ bs e w. arranged-listed (suc n) false n (arrangement_of bs) (omega arith) (walk-arranged n bs e w);
      only = λ a m. arranged-zone n a h (listed-arranged (suc n) false n a m);
      order = arrangements-ascend (suc n) false n;
    }
