-- A sound pool (01, "The pool's bytes"): both headers valid and equal, both seals zero, no zone broken, no object damaged, all parity right;
-- and the header's length, as every entry point asks. 01's sound is consistent. Assumes nothing.
use Rattle.std.specs.Prelude.{◌≡◌, true, List, length, ℕ}
use Rattle.rules.specs.Words.{Bytes}
use Rattle.rules.specs.Shape.{page_size, pool_size}
use Rattle.rules.specs.Header.{page_at, shape_in, valid_header}
use Rattle.rules.specs.Book.{Listed}
use Rattle.rules.specs.Zones.{good_from, pool_book}
use Rattle.rules.specs.Seals.{unsealed}
use Rattle.rules.specs.Parity.{Parity}

pub record Sound (p : List ℕ) : Type 0 where
  pub bytes : Bytes p
  pub header : valid_header p 0 ≡ true
  pub copy : valid_header p page_size ≡ true
  pub equal : page_at p 0 ≡ page_at p page_size
  pub length-is : length p ≡ pool_size (shape_in p)
  pub seals : unsealed (shape_in p) p ≡ true
  pub zones : good_from (shape_in p) p 0 (shape_in p).zones ≡ true
  pub parity : Parity (shape_in p) p

-- The book of a pool, as its runs give it.
unfoldable pub book_of : List ℕ → List Listed
book_of p = pool_book (shape_in p) p
