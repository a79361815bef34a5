-- Numbers and what follows a header: digits one by one, the number capped, each way out. Assumes nothing.
use Prim.Native.Nat.{ℕ, ◌+◌, ◌-◌, ◌*◌, ◌≤◌, ◌<◌}
use mathlib.Core.Path.{◌≡◌, refl}
use mathlib.Core.Logic.{◌≢◌}
use mathlib.Core.Bool.{true, false}
use mathlib.Core.List.{List, [], ◌∷◌}
use native.Mathlib.Numerals.{add-one}
use native.Mathlib.Omega.{arith}
use lib.ListN.{length, drop, drop_of_length-le, get_or}
use lib.Seq.{drop-cons}
use borrow.Author.Tests.{eq-eqb, le-ltb, lt-ltb, ne_eqb}
use Rattle.errors.specs.Errors.{data_out_of_range, data_type_error, missing_parameter, undefined_header}
use Rattle.errors.specs.Number.{number_of}
use Rattle.errors.specs.declared.Error.{Error}
use Rattle.std.specs.Prelude.{Result, Err, Option, Some, None}
use Rattle.std.specs.Option.{ok_or}
use Rattle.lines.specs.declared.Command.{Command}
use Rattle.lines.specs.Meaning.{command_of}
use Rattle.lines.specs.Line.{Verb, all_digits, asks, blank, fault, is_digit, last_number, numbered, parameter, value, value_from}
use Rattle.std.specs.List.{list_all}
use Rattle.std.specs.Char.{is_ascii_digit}
use Rattle.rules.specs.Header.{within}

-- ---- All digits, as std tests them.

pub all_digits-list_all : (s : List ℕ) → all_digits s ≡ list_all is_ascii_digit s
unfolding all_digits is_digit within
all_digits-list_all [] = refl
all_digits-list_all (b ∷ s) = rw (all_digits-list_all s)

-- ---- The number, digit by digit: it never falls.

pub value-least : (s : List ℕ) (v : ℕ) → v ≤ value_from v s
unfolding value_from
value-least [] v = omega arith
value-least (b ∷ s) v = let h = value-least s (10 * v + (b - 48)) in omega arith

pub value-step : (s : List ℕ) (v i d : ℕ) → i < length s → d ≡ get_or s i 0 - 48 → value_from v (drop i s) ≡ value_from (10 * v + d) (drop (i + 1) s)
unfolding value_from
value-step s v i d h e = rw (drop-cons s i 0 h, add-one, e)

pub value-end : (s : List ℕ) (v i : ℕ) → length s ≤ i → value_from v (drop i s) ≡ v
unfolding value_from
value-end s v i h = rw (drop_of_length-le s h)

-- ---- What follows the header and its blank.

pub numbered-none : (v : Verb) (n : List ℕ) → length n ≡ 0 → numbered v n ≡ fault missing_parameter
unfolding numbered
numbered-none v [] e = refl
numbered-none v (d ∷ n) e = absurd (omega arith)

pub numbered-untyped : (v : Verb) (n : List ℕ) → all_digits n ≡ false → numbered v n ≡ fault data_type_error
unfolding numbered all_digits
numbered-untyped v [] e = cc
numbered-untyped v (d ∷ n) e = rw e

pub numbered-above : (v : Verb) (n : List ℕ) → all_digits n ≡ true → last_number < value n → numbered v n ≡ fault data_out_of_range
unfolding numbered value_from
numbered-above v [] e h = absurd (omega arith)
numbered-above v (d ∷ n) e h = rw (e, lt-ltb last_number (value (d ∷ n)) h)

pub numbered-good : (v : Verb) (n : List ℕ) → length n ≢ 0 → all_digits n ≡ true → value n ≤ last_number → numbered v n ≡ asks v (value n)
unfolding numbered
numbered-good v [] z e h = absurd (z refl)
numbered-good v (d ∷ n) z e h = rw (e, le-ltb last_number (value (d ∷ n)) h)

-- ---- What follows the header.

pub parameter-none : (v : Verb) (s : List ℕ) → length s ≡ 0 → parameter v s ≡ fault missing_parameter
unfolding parameter
parameter-none v [] e = refl
parameter-none v (b ∷ n) e = absurd (omega arith)

pub parameter-other : (v : Verb) {s : List ℕ} (b : ℕ) (n : List ℕ) → s ≡ b ∷ n → b ≢ blank → parameter v s ≡ fault undefined_header
unfolding parameter
parameter-other v b n e h = rw (e, ne_eqb b blank h)

pub parameter-blank : (v : Verb) {s : List ℕ} (b : ℕ) (n : List ℕ) → s ≡ b ∷ n → b ≡ blank → parameter v s ≡ numbered v n
unfolding parameter
parameter-blank v b n e h = rw (e, eq-eqb b blank h)

-- ---- The exit of a `?` behind an `ok_or`.

pub error-given : {X : Type 0} {r : Result Command Error} {y e : Error} (o : Option X) (d : Error) → r ≡ Err y → y ≡ e → ◌≡◌ {A = Result X Error} (Err e) (ok_or o d) → command_of r ≡ fault (number_of d)
error-given {e = e} (Some x) d h i k = cc
error-given {e = e} None d h i k = let j : e ≡ d = cc in rw (h, i, j)
