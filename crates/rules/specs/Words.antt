-- Bytes, the numbers that they spell, and aligned words. 01: integers are unsigned and little-endian. Assumes nothing.
use Rattle.std.specs.Prelude.{ℕ, zero, suc, ◌+◌, ◌*◌, ◌/◌, ◌%◌, ◌<◌, Bool, true, ◌&&◌, List, [], ◌∷◌, eqb, get_or}
use Prim.Native.Char.{code}
use Prim.Native.String.{String, [] as empty, ◌∷◌ as ◌then◌}
use Rattle.std.proofs.lemmas.List.Edits.{sets}

-- The number of k digits to base 256, the lowest first.
unfoldable pub number : ℕ → (ℕ → ℕ) → ℕ
number zero f = 0
number (suc k) f = number k (λ i. f (suc i)) * 256 + f 0

-- The k low digits of w, the lowest first.
unfoldable pub digits : ℕ → ℕ → List ℕ
digits zero w = []
digits (suc k) w = w % 256 ∷ digits k (w / 256)

-- The field of k bytes at place a.
unfoldable pub field : ℕ → List ℕ → ℕ → ℕ
field k p a = number k (λ i. get_or p (a + i) 0)

-- A word is 8 bytes: the one at place a, and a store of one there.
unfoldable pub word : List ℕ → ℕ → ℕ
word p a = field 8 p a

unfoldable pub put : List ℕ → ℕ → ℕ → List ℕ
put p a w = sets p a (digits 8 w)

-- Each element is a byte.
abbrev pub Bytes : List ℕ → Type 0
Bytes p = (i : ℕ) → get_or p i 0 < 256

-- All bytes are zero.
unfoldable pub all_zero : List ℕ → Bool
all_zero [] = true
all_zero (b ∷ bs) = eqb b 0 && all_zero bs

-- The bytes of a text.
abbrev pub ascii : String → List ℕ
ascii empty = []
ascii (c then s) = code c ∷ ascii s
