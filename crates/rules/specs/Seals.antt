-- The seals of the two logs (01, "Commit, cut, recovery"), as the calls that change no log judge them; refusal 21. Assumes nothing.
use Rattle.std.specs.Prelude.{ℕ, Bool, not, ◌&&◌, List, [], ◌∷◌, ◌++◌, eqb}
use Rattle.rules.specs.Words.{word}
use Rattle.rules.specs.Shape.{Shape, log_a, log_b}
use Rattle.rules.specs.Test.{Test, when}
use Rattle.rules.specs.Header.{open_tests, shape_in}

-- Both seals are zero. A log begins with its seal word.
unfoldable pub unsealed : Shape → List ℕ → Bool
unsealed sh p = eqb (word p (log_a sh)) 0 && eqb (word p (log_b sh)) 0

-- 21 a seal is not zero.
abbrev pub seal_test : List ℕ → Test
seal_test p = when (not (unsealed (shape_in p) p)) 21

-- What look, scrub, poolscan and repair meet first: 2, 3, 4, 2, 21.
unfoldable pub read_tests : List ℕ → List Test
read_tests p = open_tests p ++ (seal_test p ∷ [])
