-- The command lines (A.3): the grammar, a sentence each, and the one reading of every line. A line is given without its line end. Assumes nothing.
use Rattle.std.specs.Prelude.{ℕ, ◌+◌, ◌-◌, ◌*◌, ◌≤◌, ◌<◌, ◌≡◌, ◌⊎◌, Bool, true, false, cond, ◌&&◌, ◌||◌, List, [], ◌∷◌, ◌++◌, length, take, drop, eqb, ltb}
use Rattle.rules.specs.Words.{ascii}
use Rattle.rules.specs.Header.{within}
use Rattle.errors.specs.Errors.{data_out_of_range, data_type_error, missing_parameter, undefined_header}

-- What a line asks for: nothing; set-up n saved or recalled; the oldest error; or it is an error itself.
pub data Command : Type 0 where
  nothing : Command
  save : ℕ → Command
  recall : ℕ → Command
  query : Command
  fault : ℕ → Command

-- A line has at most 80 bytes, and a number is at most 9.
abbrev pub line_limit : ℕ
line_limit = 80

abbrev pub last_number : ℕ
last_number = 9

-- ---- Words: letters in either case; any other character stands as it is.

abbrev pub is_letter : ℕ → Bool
is_letter c = within 65 c 90

-- The byte b stands for the character c of a word.
abbrev pub Stands : ℕ → ℕ → Type 0
Stands c b = (b ≡ c) ⊎ ((is_letter c ≡ true) × (b ≡ c + 32))

abbrev pub Spells : List ℕ → List ℕ → Type 0
Spells [] [] = Unit {0}
Spells [] (b ∷ bs) = ⊥
Spells (c ∷ cs) [] = ⊥
Spells (c ∷ cs) (b ∷ bs) = Stands c b × Spells cs bs

-- ---- Numbers: digits, of any length.

unfoldable pub is_digit : ℕ → Bool
is_digit b = within 48 b 57

unfoldable pub all_digits : List ℕ → Bool
all_digits [] = true
all_digits (b ∷ bs) = is_digit b && all_digits bs

-- The number that digits spell behind others that spell v.
unfoldable pub value_from : ℕ → List ℕ → ℕ
value_from v [] = v
value_from v (b ∷ bs) = value_from (10 * v + (b - 48)) bs

abbrev pub value : List ℕ → ℕ
value bs = value_from 0 bs

-- ---- The grammar.

-- The two commands with a number.
pub data Verb : Type 0 where
  sav : Verb
  rcl : Verb

abbrev pub header : Verb → List ℕ
header sav = ascii "*SAV"
header rcl = ascii "*RCL"

abbrev pub asks : Verb → ℕ → Command
asks sav n = save n
asks rcl n = recall n

abbrev pub blank : ℕ
blank = 32

pub data Form : List ℕ → Command → Type 0 where
  -- An empty line does nothing.
  empty : Form [] nothing
  -- Missing parameter when nothing or only the blank follows.
  alone : (v : Verb) (w : List ℕ) → Spells (header v) w → Form w (fault missing_parameter)
  unfilled : (v : Verb) (w : List ℕ) → Spells (header v) w → Form (w ++ (blank ∷ [])) (fault missing_parameter)
  -- Data type error when n, which runs to the line's end, is not all digits.
  untyped : (v : Verb) (w n : List ℕ) → Spells (header v) w → all_digits n ≡ false → Form (w ++ (blank ∷ n)) (fault data_type_error)
  -- Data out of range when n is above 9.
  above : (v : Verb) (w n : List ℕ) → Spells (header v) w → all_digits n ≡ true → last_number < value n → Form (w ++ (blank ∷ n)) (fault data_out_of_range)
  -- Else the number of a set-up.
  good : (v : Verb) (w : List ℕ) (d : ℕ) (n : List ℕ) → Spells (header v) w → all_digits (d ∷ n) ≡ true → value (d ∷ n) ≤ last_number
      → Form (w ++ (blank ∷ d ∷ n)) (asks v (value (d ∷ n)))
  -- SYSTem:ERRor?, each of its two words short or long.
  ask : (s e : List ℕ) → Spells (ascii "SYST") s ⊎ Spells (ascii "SYSTEM") s → Spells (ascii "ERR") e ⊎ Spells (ascii "ERROR") e
      → Form (s ++ (ascii ":" ++ (e ++ ascii "?"))) query

-- What a line means: above 80 bytes an undefined header; else as its form says; any other line is an undefined header.
pub data Reads (l : List ℕ) : Command → Type 0 where
  long : line_limit < length l → Reads l (fault undefined_header)
  formed : {c : Command} → length l ≤ line_limit → Form l c → Reads l c
  other : length l ≤ line_limit → ((c : Command) → Form l c → ⊥) → Reads l (fault undefined_header)

-- ---- The reading, as a function.

unfoldable pub stands : ℕ → ℕ → Bool
stands c b = eqb b c || (is_letter c && eqb b (c + 32))

unfoldable pub spells : List ℕ → List ℕ → Bool
spells [] [] = true
spells [] (b ∷ bs) = false
spells (c ∷ cs) [] = false
spells (c ∷ cs) (b ∷ bs) = stands c b && spells cs bs

-- The line begins with the word.
unfoldable pub begins : List ℕ → List ℕ → Bool
begins w l = spells w (take (length w) l)

-- What follows the header and its blank.
unfoldable pub numbered : Verb → List ℕ → Command
numbered v [] = fault missing_parameter
numbered v (d ∷ n) =
    cond (all_digits (d ∷ n)) (cond (ltb last_number (value (d ∷ n))) (fault data_out_of_range) (asks v (value (d ∷ n)))) (fault data_type_error)

-- What follows the header.
unfoldable pub parameter : Verb → List ℕ → Command
parameter v [] = fault missing_parameter
parameter v (b ∷ n) = cond (eqb b blank) (numbered v n) (fault undefined_header)

unfoldable pub is_query : List ℕ → Bool
is_query l = spells (ascii "SYST:ERR?") l || (spells (ascii "SYST:ERROR?") l || (spells (ascii "SYSTEM:ERR?") l || spells (ascii "SYSTEM:ERROR?") l))

unfoldable pub command : List ℕ → Command
command l =
    cond (eqb (length l) 0) nothing
    (cond (begins (header sav) l) (parameter sav (drop 4 l))
    (cond (begins (header rcl) l) (parameter rcl (drop 4 l))
    (cond (is_query l) query (fault undefined_header))))

unfoldable pub reading : List ℕ → Command
reading l = cond (ltb line_limit (length l)) (fault undefined_header) (command l)

-- EVERY LINE HAS ONE READING
pub record OneReading : Type 0 where
  pub reads : (l : List ℕ) → Reads l (reading l)
  pub only : (l : List ℕ) (c : Command) → Reads l c → c ≡ reading l
