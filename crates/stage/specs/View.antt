-- The staged view: the pool's bytes with staged entries laid over them (01, "Transactions": later calls see earlier staged words). With no
-- entries it is the pool itself. Assumes nothing.
use Rattle.std.specs.Prelude.{ℕ, ◌+◌, ◌*◌, ◌%◌, ◌^◌, ◌≤◌, ◌<◌, ◌≡◌, ◌⊎◌, List, [], ◌∷◌, length, take, drop}
use Rattle.rules.specs.Words.{digits, word}
use Rattle.rules.specs.Staging.{Store, Tidy, entries_at, lay}

-- The n entries of staging memory, and the pool as staged.
unfoldable pub entries_of : List ℕ → ℕ → List Store
entries_of staging n = entries_at staging 0 n

unfoldable pub seen : List ℕ → List ℕ → ℕ → List ℕ
seen pool staging n = lay pool (entries_of staging n)

-- n bytes from place a on. Shut, so that its arguments are found.
unfoldable pub part : ℕ → ℕ → List ℕ → List ℕ
part n a v = take n (drop a v)

-- What reading a staged view asks: room for the entries, each at a multiple of 8 and none twice, and a pool of whole words.
pub record Staged (pool staging : List ℕ) (n : ℕ) : Type 0 where
  pub room : 16 * n ≤ length staging
  pub tidy : Tidy (entries_of staging n)
  pub words : length pool % 8 ≡ 0

-- No store is to one of the n bytes from place a on.
abbrev pub Clear : ℕ → ℕ → List Store → Type 0
Clear a n [] = Unit {0}
Clear a n (x ∷ xs) = (a ≤ x.at → a + n ≤ x.at) × Clear a n xs

-- r of m entries are to be asked for the n bytes from place a on: all, or none where no target lies there.
pub record Asked (staging : List ℕ) (m a n r : ℕ) : Type 0 where
  pub some : (r ≡ m) ⊎ ((r ≡ 0) × Clear a n (entries_of staging m))

-- The word of v at place a: its number, and its bytes.
pub record Reads (v : List ℕ) (a r : ℕ) : Type 0 where
  pub value : r ≡ word v a
  pub bytes : digits 8 r ≡ part 8 a v
  pub small : r < 2 ^ 64
