-- What allocate, write and free stage (01, "Transactions"): the tests of each, its answer, and the words that it touches, over the pool v
-- as staged. Assumes nothing.
use Rattle.std.specs.Prelude.{ℕ, zero, suc, ◌+◌, ◌-◌, ◌*◌, ◌/◌, ◌%◌, true, false, not, cond, ◌&&◌, List, [], ◌∷◌, ◌++◌, length, take, drop, leb}
use Rattle.std.proofs.Math.Option.{Option, none, some}
use Rattle.std.proofs.lemmas.List.Edits.{sets}
use Rattle.rules.specs.Shape.{Shape, body_limit, cell_size, head_size, zone_at, zone_cells}
use Rattle.rules.specs.Test.{Test, when}
use Rattle.rules.specs.Header.{within}
use Rattle.rules.specs.Runs.{cells_for, check_word, free_head, object_bytes}
use Rattle.rules.specs.Search.{Place, fit, joined}
use Rattle.rules.specs.Zones.{body_of, head_at, object_tests, run_there, walk_in}
use Rattle.rules.specs.Staging.{Store, touch_range, touch_words}
use Rattle.rules.specs.Answer.{Answer, address, taken}

pub data Call : Type 0 where
  allocate : ℕ → List ℕ → Call  -- tag, body
  write : ℕ → ℕ → List ℕ → Call  -- address, first byte of the range, its new bytes
  release : ℕ → Call  -- address; 01's free

-- ---- Allocate takes the lowest zone's lowest free run that is long enough.

-- A run in a zone that fits, or the refusal.
pub data Fit : Type 0 where
  fitted : ℕ → Place → Fit
  failed : ℕ → Fit

-- What a zone gives, and the search behind it if nothing in it fits. Each zone is first judged whole: 23 it is broken.
unfoldable pub fit_in : ℕ → Option Place → Fit → Fit
fit_in z (some p) further = fitted z p
fit_in z none further = further

-- A run of k cells in n zones from zone z on: 23 or a fit in zone order. 26 no zone broken and no free run long enough.
unfoldable pub search : Shape → List ℕ → ℕ → ℕ → ℕ → Fit
search s v k z zero = failed 26
search s v k z (suc n) =
    cond (walk_in s v z).whole (fit_in z (fit k 0 (walk_in s v z).runs) (search s v k (suc z) n)) (failed 23)

unfoldable pub fit_test : Fit → Test
fit_test (fitted z p) = when false 26
fit_test (failed n) = when true n

-- It answers the address of the run's first cell.
unfoldable pub fit_address : Shape → Fit → ℕ
fit_address s (fitted z p) = z * zone_cells s + p.cell
fit_address s (failed n) = 0

-- Both head words of a free run at offset o; none where no cell is left.
unfoldable pub touch_free : ℕ → ℕ → List Store → List Store
touch_free o zero es = es
touch_free o (suc n) es = touch_words 2 o (free_head (suc n)) es

-- All words of the object's cells and, if cells remain, both head words of the remainder.
unfoldable pub touch_object : Shape → Fit → ℕ → List ℕ → List Store → List Store
touch_object s (failed n) t b es = es
touch_object s (fitted z p) t b es =
    touch_free (zone_at s z + cell_size * (p.cell + cells_for (length b))) (p.count - cells_for (length b))
    (touch_words (8 * cells_for (length b)) (zone_at s z + cell_size * p.cell) (object_bytes t b) es)

-- ---- Write touches the words that hold the given range, and head bytes 8 to 15; h is the head's offset, b the body before.

unfoldable pub touch_write : List ℕ → ℕ → List ℕ → ℕ → List ℕ → List Store → List Store
touch_write v h b o xs es =
    let w : List ℕ = check_word (take head_size (drop h v)) (sets b o xs) in
    touch_range (h + (head_size + o)) (length xs) (sets (sets v (h + 8) w) (h + (head_size + o)) xs) (touch_words 1 (h + 8) w es)

-- ---- Free joins the run with free neighbours and touches the two head words of the joined run.

unfoldable pub joined_at : Shape → List ℕ → ℕ → Place
joined_at s v a = joined (a % zone_cells s) 0 0 (walk_in s v (a / zone_cells s)).runs

unfoldable pub touch_joined : Shape → ℕ → Place → List Store → List Store
touch_joined s z j es = touch_words 2 (zone_at s z + cell_size * j.cell) (free_head j.count) es

-- ---- The tests of a call before 27, its answer and the entries then if none applies. 6 body 0 or above 496; 7 range empty or past the body.

pub record Plan : Type 0 where
  pub tests : List Test
  pub answer : Answer
  pub entries : List Store

unfoldable pub plan : Shape → List ℕ → List Store → Call → Plan
plan s v es (allocate t b) =
    let f : Fit = search s v (cells_for (length b)) 0 s.zones in
    record {
      tests = when (not (within 1 (length b) body_limit)) 6 ∷ fit_test f ∷ [];
      answer = address (fit_address s f);
      entries = touch_object s f t b es;
    }
plan s v es (write a o xs) =
    let b : List ℕ = body_of (run_there s v a) in
    record {
      tests = object_tests s v a ++ (when (not (leb 1 (length xs) && leb (o + length xs) (length b))) 7 ∷ []);
      answer = taken;
      entries = touch_write v (head_at s a) b o xs es;
    }
plan s v es (release a) = record {
  tests = object_tests s v a;
  answer = taken;
  entries = touch_joined s (a / zone_cells s) (joined_at s v a) es;
}
