-- The numbers that 01's tables of refusals list: 1 to 11 from the input, 21 to 29 from the state, 31 to 33 from the set-ups. Assumes nothing.
use Rattle.std.specs.Prelude.{ℕ, Bool, ◌||◌, ◌&&◌, leb}

unfoldable pub is_listed : ℕ → Bool
is_listed n = (leb 1 n && leb n 11) || ((leb 21 n && leb n 29) || (leb 31 n && leb n 33))
