-- What the running sums are, and the check brought up to date over a range of bytes (01, "The pool's bytes"). Assumes nothing.
use Rattle.std.specs.Prelude.{ℕ, ◌-◌, ◌<◌, ◌≡◌, List, [], ◌∷◌}
use Rattle.rules.specs.Check.{high as high_sum, low as low_sum, modulus, updated}

-- Each sum is below 65521.
pub record Below (low high : ℕ) : Type 0 where
  pub low-lt : low < modulus
  pub high_lt : high < modulus

-- The low sum starts at 1, the high one at 0.
pub record Started (low high : ℕ) : Type 0 where
  pub low-is : low ≡ 1
  pub high_is : high ≡ 0

-- The sums low and high, after the bytes bs.
pub record Fed (low high : ℕ) (bs : List ℕ) (low' high' : ℕ) : Type 0 where
  pub low-is : low' ≡ low_sum low bs
  pub high_is : high' ≡ high_sum low high bs
  pub below : Below low' high'

-- The bytes us become vs, one after the other; n bytes stand from the first of them on.
unfoldable pub updated_range : ℕ → ℕ → List ℕ → List ℕ → ℕ
updated_range chk n [] vs = chk
updated_range chk n (u ∷ us) [] = chk
updated_range chk n (u ∷ us) (v ∷ vs) = updated_range (updated chk n u v) (n - 1) us vs
