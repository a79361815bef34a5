-- The errors of the command lines, by the SCPI numbers, and the queue of ten in which they wait (A.3). Assumes nothing.
use Rattle.std.specs.Prelude.{ℕ, zero, suc, ◌≤◌, ◌-◌, ◌≡◌, Bool, true, cond, ◌&&◌, ◌||◌, List, [], ◌∷◌, ◌++◌, length, replicate, take, eqb, leb, ltb}
use Rattle.rules.specs.Words.{ascii}
use Rattle.rules.specs.Scan.{decimal}

-- ---- The six errors. All their numbers are negative: they stand here, and in a queue, without the minus.

abbrev pub data_type_error : ℕ
data_type_error = 104

abbrev pub missing_parameter : ℕ
missing_parameter = 109

abbrev pub undefined_header : ℕ
undefined_header = 113

abbrev pub execution_error : ℕ
execution_error = 200

abbrev pub data_out_of_range : ℕ
data_out_of_range = 222

abbrev pub queue_overflow : ℕ
queue_overflow = 350

unfoldable pub is_error : ℕ → Bool
is_error e =
    eqb e data_type_error || (eqb e missing_parameter || (eqb e undefined_header || (eqb e execution_error || (eqb e data_out_of_range || eqb e queue_overflow))))

-- The text of an error.
unfoldable pub text : ℕ → List ℕ
text e =
    cond (eqb e data_type_error) (ascii "Data type error")
    (cond (eqb e missing_parameter) (ascii "Missing parameter")
    (cond (eqb e undefined_header) (ascii "Undefined header")
    (cond (eqb e execution_error) (ascii "Execution error")
    (cond (eqb e data_out_of_range) (ascii "Data out of range")
    (cond (eqb e queue_overflow) (ascii "Queue overflow") [])))))

-- The printed line: number, comma, quoted text; 0 stands for no error. Of any other number nothing is printed.
unfoldable pub line : ℕ → List ℕ
line e =
    cond (eqb e 0) (ascii "0,\"No error\"\n")
    (cond (is_error e) (ascii "-" ++ (decimal e ++ (ascii ",\"" ++ (text e ++ ascii "\"\n")))) [])

-- ---- The queue: the errors that wait, the oldest first.

abbrev pub Queue : Type 0
Queue = List ℕ

abbrev pub queue_limit : ℕ
queue_limit = 10

unfoldable pub all_errors : Queue → Bool
all_errors [] = true
all_errors (e ∷ q) = is_error e && all_errors q

-- At most ten, each of the six.
unfoldable pub fit : Queue → Bool
fit q = leb (length q) queue_limit && all_errors q

-- A queue handed in as n errors in some places: with more than ten, or one not of the six, it counts as empty. Unused places are not judged.
unfoldable pub judged : ℕ → List ℕ → Queue
judged n places = cond (leb n queue_limit && all_errors (take n places)) (take n places) []

-- A further error: behind the others; when ten wait, it is lost, and the newest is replaced by the queue's overflow.
unfoldable pub entered : ℕ → Queue → Queue
entered e q = cond (ltb (length q) queue_limit) (q ++ (e ∷ [])) (take (queue_limit - 1) q ++ (queue_overflow ∷ []))

-- The oldest error, 0 if none waits; and the queue without it.
unfoldable pub oldest : Queue → ℕ
oldest [] = 0
oldest (e ∷ q) = e

unfoldable pub behind_oldest : Queue → Queue
behind_oldest [] = []
behind_oldest (e ∷ q) = q

-- ---- Many errors, and many queries.

unfoldable pub entered_all : List ℕ → Queue → Queue
entered_all [] q = q
entered_all (e ∷ es) q = entered_all es (entered e q)

-- What k queries in turn take out.
unfoldable pub asked : ℕ → Queue → List ℕ
asked zero q = []
asked (suc k) q = oldest q ∷ asked k (behind_oldest q)

-- THE QUEUE
pub record QueueOrder : Type 0 where
  -- What a queue handed in counts as is fit, and a fit one counts as it is.
  pub judges : (n : ℕ) (places : List ℕ) → fit (judged n places) ≡ true
  pub fits : (n : ℕ) (places : List ℕ) → n ≤ length places → fit (take n places) ≡ true → judged n places ≡ take n places
  -- It stays fit.
  pub enters : (e : ℕ) (q : Queue) → is_error e ≡ true → fit q ≡ true → fit (entered e q) ≡ true
  pub takes : (q : Queue) → fit q ≡ true → fit (behind_oldest q) ≡ true
  -- Errors into an empty queue: in order, up to ten; of more, the first nine and the overflow.
  pub holds : (es : List ℕ) → entered_all es [] ≡ cond (leb (length es) queue_limit) es (take (queue_limit - 1) es ++ (queue_overflow ∷ []))
  -- Queries give them oldest first, and then no error.
  pub asks : (k : ℕ) (q : Queue) → asked k q ≡ take k q ++ replicate (k - length q) 0
  -- Each printed line has at most 25 bytes.
  pub short : (q : Queue) → fit q ≡ true → length (line (oldest q)) ≤ 25
