-- The lines of arrangements that begin alike: what the crate's own functions say of each other. Assumes nothing.
use Rattle.std.specs.Prelude.{ℕ, suc, ◌+◌, ◌-◌, ◌*◌, ◌≤◌, ◌<◌, ◌≡◌, Bool, true, false, length}
use Rattle.std.specs.Prelude.{Option as Asked, None, Some}
use Rattle.std.proofs.Math.Option.{Option, none, some}
use mathlib.Core.List.{List, ◌++◌, flat_map}
use Rattle.rules.specs.Words.{ascii}
use Rattle.texts.specs.declared.Text.{Text}
use Rattle.texts.specs.Adds.{Adds, held}
use Rattle.arrangements.specs.Arrangements.{Extent, arrangements_to, cells, free, is_free, object}
use Rattle.arrangements.specs.Listing.{extent_text}

-- An extent by its kind and its cells.
abbrev pub extent : Bool → ℕ → Extent
extent true = free
extent false = object

-- The lines that begin with the text p and go on as each arrangement of m cells behind a free run or not.
unfoldable pub rest_lines : List ℕ → Bool → ℕ → List ℕ
rest_lines p after m = flat_map (λ a. p ++ (flat_map extent_text a ++ ascii ")\n")) (arrangements_to (suc m) after m)

-- Those that go on with one of the extents es, m cells being left.
unfoldable pub next_lines : List ℕ → ℕ → List Extent → List ℕ
next_lines p m es = flat_map (λ e. rest_lines (p ++ extent_text e) (is_free e) (m - cells e)) es

-- What is asked, by the code's answer.
abbrev pub answered : Asked ℕ → Option ℕ
answered None = none
answered (Some n) = some n

-- A run takes at most 11 bytes: the buffer of 93 bytes has room for (zone and eight runs. So has it for m runs behind the line so far; and the
-- places from b on, for the text t.
pub record Room (line : Text) (m b : ℕ) (t : List ℕ) : Type 0 where
  pub size : length line.out.now ≡ 93
  pub runs : line.at + 11 * m ≤ 93
  pub text : b + length t < 4294967296

-- The line so far is as it was.
pub record Kept (line line' : Text) : Type 0 where
  pub text : held line' ≡ held line
  pub place : line'.at ≡ line.at
  pub size : length line'.out.now ≡ length line.out.now

-- The text t is put behind what out has; the line so far is as it was.
pub record Printed (line line' out : Text) (t : List ℕ) (out' : Text) : Type 0 where
  pub kept : Kept line line'
  pub adds : Adds (length t) out t out'
