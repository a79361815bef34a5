-- Cells and runs (01, "Cells and runs"): what the data bytes of a zone say. 01's cell and run are an allocation unit and an extent.
-- Assumes nothing.
--
--   a run's head   0 kind 2 bytes   2 run length in cells 2   4 body length 4   8 check 4   12 tag 4   16 the body
use Rattle.std.specs.Prelude.{ℕ, zero, suc, ◌+◌, ◌-◌, ◌*◌, ◌/◌, Bool, true, false, not, cond, ◌&&◌, List, [], ◌∷◌, ◌++◌, length, take, drop, replicate, leb, eqb}
use Rattle.std.proofs.Math.Option.{Option, none, some}
use Rattle.rules.specs.Words.{all_zero, digits, field}
use Rattle.rules.specs.Check.{check}
use Rattle.rules.specs.Shape.{body_limit, cell_size, head_size}

-- A run, by its cells: free; or an object with its tag, its body, and whether it is good, that is not damaged.
pub data Run : Type 0 where
  free : ℕ → Run
  object : ℕ → ℕ → List ℕ → Bool → Run

abbrev pub cells : Run → ℕ
cells (free n) = n
cells (object n t b g) = n

abbrev pub is_free : Run → Bool
is_free (free n) = true
is_free (object n t b g) = false

abbrev pub is_good : Run → Bool
is_good (free n) = true
is_good (object n t b g) = g

-- The fewest cells that hold the head and a body of m bytes.
unfoldable pub cells_for : ℕ → ℕ
cells_for m = (head_size + m + (cell_size - 1)) / cell_size

-- ---- The head: kind, 2 bytes; run length in cells, 2; body length, 4; check, 4; tag, 4.

-- Kind: 1 free, 2 object.
abbrev pub free_kind : ℕ
free_kind = 1

abbrev pub object_kind : ℕ
object_kind = 2

abbrev pub head_kind : List ℕ → ℕ
head_kind h = field 2 h 0

abbrev pub head_cells : List ℕ → ℕ
head_cells h = field 2 h 2

abbrev pub head_length : List ℕ → ℕ
head_length h = field 4 h 4

abbrev pub head_check : List ℕ → ℕ
head_check h = field 4 h 8

abbrev pub head_tag : List ℕ → ℕ
head_tag h = field 4 h 12

-- The check covers head bytes 0 to 7 and 12 to 15, then the body.
abbrev pub covered : List ℕ → List ℕ → List ℕ
covered h body = take 8 h ++ (take 4 (drop 12 h) ++ body)

-- Free: body length 0, tag 0, right check; its other bytes are not read. A run length of 0 is no run.
unfoldable pub free_ok : List ℕ → Bool
free_ok h =
    eqb (head_kind h) free_kind && (leb 1 (head_cells h) && (eqb (head_length h) 0 && (eqb (head_tag h) 0 && eqb (head_check h) (check (covered h [])))))

-- Object: body 1 to 496 bytes, run the fewest cells that hold 16 + body.
unfoldable pub object_ok : List ℕ → Bool
object_ok h =
    eqb (head_kind h) object_kind && (leb 1 (head_length h) && (leb (head_length h) body_limit && eqb (head_cells h) (cells_for (head_length h))))

-- An object with the head h and the bytes rest behind it: its body; and the bytes behind the body, up to its last cell's end.
abbrev pub body_in : List ℕ → List ℕ → List ℕ
body_in h rest = take (head_length h) rest

abbrev pub behind_body : List ℕ → List ℕ → List ℕ
behind_body h rest = take (cell_size * head_cells h - (head_size + head_length h)) (drop (head_length h) rest)

-- It is good where its check is right and the bytes behind its body are zero; else it is damaged.
unfoldable pub good_in : List ℕ → List ℕ → Bool
good_in h rest = eqb (head_check h) (check (covered h (body_in h rest))) && all_zero (behind_body h rest)

-- The run with the head h and the bytes rest behind it; none for any other head.
unfoldable pub run_of : List ℕ → List ℕ → Option Run
run_of h rest =
    cond (free_ok h) (some (free (head_cells h)))
    (cond (object_ok h) (some (object (head_cells h) (head_tag h) (body_in h rest) (good_in h rest))) none)

unfoldable pub read_run : List ℕ → Option Run
read_run bs = run_of (take head_size bs) (drop head_size bs)

-- ---- The walk: runs cover a zone from its first cell to its last.

-- What the rest of a zone begins with, behind a free run or not: its end, a break, or one more run.
pub data Next : Type 0 where
  ended broken : Next
  run : Run → Next

-- A run may stand here: it does not go past the zone's end, and is no free run right after a free run.
unfoldable pub fits : Bool → List ℕ → Run → Bool
fits after bs r = leb (cell_size * cells r) (length bs) && not (after && is_free r)

unfoldable pub check_run : Bool → List ℕ → Option Run → Next
check_run after bs none = broken
check_run after bs (some r) = cond (fits after bs r) (run r) broken

unfoldable pub next_run : Bool → List ℕ → Next
next_run after [] = ended
next_run after (b ∷ bs) = check_run after (b ∷ bs) (read_run (b ∷ bs))

-- The runs up to the zone's end (whole) or up to the first break; the break stands at the cell behind these runs.
pub record Walk : Type 0 where
  pub runs : List Run
  pub whole : Bool

-- What a walk finds that begins so, and goes on behind a run as `further` says.
unfoldable pub onward : Next → (Run → Walk) → Walk
onward ended further = record { runs = []; whole = true }
onward broken further = record { runs = []; whole = false }
onward (run r) further = record { runs = r ∷ (further r).runs; whole = (further r).whole }

-- The walk of at most f runs over the bytes bs.
unfoldable pub walk : ℕ → Bool → List ℕ → Walk
walk zero after bs = record { runs = []; whole = false }
walk (suc f) after bs = onward (next_run after bs) (λ r. walk f (is_free r) (drop (cell_size * cells r) bs))

-- Each run has a byte at least, so that more runs than bytes are never met (law `walk-fuel`).
unfoldable pub zone_walk : List ℕ → Walk
zone_walk bs = walk (suc (length bs)) false bs

unfoldable pub cell_count : List Run → ℕ
cell_count [] = 0
cell_count (r ∷ rs) = cells r + cell_count rs

-- ---- What is written.

-- A head with the right check over itself and a body.
unfoldable pub head_bytes : ℕ → ℕ → ℕ → ℕ → List ℕ → List ℕ
head_bytes kind len blen tag body =
    digits 2 kind ++ digits 2 len ++ digits 4 blen ++ digits 4 (check (digits 2 kind ++ digits 2 len ++ digits 4 blen ++ (digits 4 tag ++ body))) ++ digits 4 tag

unfoldable pub free_head : ℕ → List ℕ
free_head n = head_bytes free_kind n 0 0 []

-- All bytes of a new object's cells: head, body, zeros after it.
unfoldable pub object_bytes : ℕ → List ℕ → List ℕ
object_bytes tag body =
    head_bytes object_kind (cells_for (length body)) (length body) tag body
    ++ (body ++ replicate (cell_size * cells_for (length body) - (head_size + length body)) 0)

-- Head bytes 8 to 15 of an object with the head h, when its body becomes b.
unfoldable pub check_word : List ℕ → List ℕ → List ℕ
check_word h b = digits 4 (check (covered h b)) ++ take 4 (drop 12 h)
