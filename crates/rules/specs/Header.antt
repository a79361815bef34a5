-- The header and its copy, and whether a pool opens (01, "The pool's bytes"; refusals 2, 3, 4, 2). Assumes nothing.
--
--   0  S G P L      4 letters             7  version      1, a byte               16  check  4 bytes, over bytes 0 to 15
--   4  R, C, Z      a byte each           8  pool id      8 bytes, not 0          20  zeros to the page's end
use Rattle.std.specs.Prelude.{ℕ, ◌-◌, ◌*◌, Bool, true, false, not, cond, ◌&&◌, ◌||◌, List, [], ◌∷◌, ◌++◌, leb, ltb, eqb, length, take, drop, get_or, replicate}
use Rattle.rules.specs.Words.{ascii, digits, field}
use Rattle.rules.specs.Check.{check}
use Rattle.rules.specs.Shape.{Shape, page_size, pool_size, shape}
use Rattle.rules.specs.Test.{Test, when}

-- The same bytes.
unfoldable pub same : List ℕ → List ℕ → Bool
same [] [] = true
same [] (y ∷ ys) = false
same (x ∷ xs) [] = false
same (x ∷ xs) (y ∷ ys) = eqb x y && same xs ys

-- n is lo to hi.
unfoldable pub within : ℕ → ℕ → ℕ → Bool
within lo n hi = leb lo n && leb n hi

-- R is 1 to 15, C 1 to 64, Z 1 to 16.
unfoldable pub in_range : Shape → Bool
in_range sh = within 1 sh.rows 15 && (within 1 sh.cols 64 && within 1 sh.zones 16)

-- The four letters SGPL stand at the front of each header.
abbrev pub letters : List ℕ
letters = ascii "SGPL"

-- Version 1.
abbrev pub version : ℕ
version = 1

-- The letters; R, C, Z and the version, a byte each; the pool id, 8 bytes.
unfoldable pub header_front : Shape → ℕ → List ℕ
header_front sh id = letters ++ (sh.rows ∷ sh.cols ∷ sh.zones ∷ version ∷ digits 8 id)

-- Then the check, 4 bytes, over bytes 0 to 15; the rest of the page zero.
unfoldable pub header_bytes : Shape → ℕ → List ℕ
header_bytes sh id = header_front sh id ++ (digits 4 (check (header_front sh id)) ++ replicate (page_size - 20) 0)

-- The page at place a: page 0 is the header, page 1 its copy.
unfoldable pub page_at : List ℕ → ℕ → List ℕ
page_at p a = take page_size (drop a p)

-- What a header page says.
unfoldable pub header_shape : List ℕ → Shape
header_shape h = shape (get_or h 4 0) (get_or h 5 0) (get_or h 6 0)

unfoldable pub header_id : List ℕ → ℕ
header_id h = field 8 h 8

-- A copy is valid: letters, ranges, version 1, id not 0, right check over bytes 0 to 15, the rest zero.
unfoldable pub header_ok : List ℕ → Bool
header_ok h =
    same (take 4 h) letters && (in_range (header_shape h) && (eqb (get_or h 7 0) version && (not (eqb (header_id h) 0)
    && (eqb (field 4 h 16) (check (take 16 h)) && same (drop 20 h) (replicate (page_size - 20) 0)))))

unfoldable pub valid_header : List ℕ → ℕ → Bool
valid_header p a = header_ok (page_at p a)

-- One valid copy is enough: the header by which a pool is read is the first valid one.
abbrev pub header_in : List ℕ → List ℕ
header_in p = cond (valid_header p 0) (page_at p 0) (page_at p page_size)

-- The pool's shape and its id.
unfoldable pub shape_in : List ℕ → Shape
shape_in p = header_shape (header_in p)

unfoldable pub id_in : List ℕ → ℕ
id_in p = header_id (header_in p)

-- Both valid and different.
unfoldable pub differing : List ℕ → Bool
differing p = valid_header p 0 && (valid_header p page_size && not (same (page_at p 0) (page_at p page_size)))

-- 2 under 512 bytes; 3 neither valid; 4 both valid and different; 2 not the header's length.
unfoldable pub open_tests : List ℕ → List Test
open_tests p =
    when (ltb (length p) (2 * page_size)) 2
    ∷ when (not (valid_header p 0 || valid_header p page_size)) 3
    ∷ when (differing p) 4
    ∷ when (not (eqb (length p) (pool_size (shape_in p)))) 2
    ∷ []

-- 11 a record's id is not the pool's.
abbrev pub id_test : ℕ → List ℕ → Test
id_test id p = when (not (eqb id (id_in p))) 11
