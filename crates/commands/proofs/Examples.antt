-- Worked lines, obeyed with no pool, no staging memory and a buffer of 25 bytes, computed from the definitions. Assumes nothing.
use Prim.Native.Nat.{ℕ}
use mathlib.Core.Path.{◌≡◌, refl}
use mathlib.Core.List.{List, [], ◌∷◌, ◌++◌}
use lib.ListN.{replicate, take}
use Rattle.rules.specs.Words.{ascii}
use Rattle.rules.specs.Test.{first}
use Rattle.rules.specs.Header.{open_tests, within}
use Rattle.rules.specs.Scan.{decimal, decimal_to}
use Rattle.rules.specs.Answer.{is_refused}
use Rattle.rules.specs.Look.{conclude_look}
use Rattle.rules.specs.Seals.{read_tests}
use Rattle.rules.specs.Tag.{look_up_tests}
use Rattle.setups.specs.Setups.{conclude_save, number_test, recall_tests, recalled, save_tests, saved, size_test, unsaved}
use Rattle.lines.specs.Line.{all_digits, begins, command, is_digit, is_query, numbered, parameter, reading, spells, stands, value_from}
use Rattle.errors.specs.Errors.{Queue, behind_oldest, entered, is_error, line, oldest, text}
use Rattle.commands.specs.Obey as Obey
use Rattle.commands.specs.Obey.{Done, Obeyed, after_recall, after_save, answered, carried_out, failed, idle, obeyed, printed, saving}

abbrev setup : List ℕ
setup = replicate 120 7

abbrev buffer : List ℕ
buffer = replicate 25 0

-- A line obeyed while these errors wait.
abbrev obeys : List ℕ → Queue → Obeyed
obeys l e = obeyed l setup e [] [] buffer

-- The line that was printed, if any.
abbrev print : Done → List ℕ → List (List ℕ)
print Obey.nothing out = []
print (saving t) out = []
print (Obey.recalled at n) out = []
print (printed n) out = take n out ∷ []

-- Lines one after the other, and what they print.
abbrev prints : List (List ℕ) → Queue → List (List ℕ)
prints [] e = []
prints (l ∷ ls) e = print (obeys l e).done (obeys l e).out ++ prints ls (obeys l e).queue

-- The errors that wait then.
abbrev waiting : List (List ℕ) → Queue → Queue
waiting [] e = e
waiting (l ∷ ls) e = waiting ls (obeys l e).queue

pub examples :
    -- eleven lines that are no command, and eleven queries
    (waiting (replicate 11 (ascii "*IDN?")) [] ≡ replicate 9 113 ++ (350 ∷ []))
    × (prints (replicate 11 (ascii "*IDN?") ++ replicate 11 (ascii "SYST:ERR?")) []
    ≡ replicate 9 (ascii "-113,\"Undefined header\"\n") ++ (ascii "-350,\"Queue overflow\"\n" ∷ ascii "0,\"No error\"\n" ∷ []))
    -- each error by its line, oldest first
    × (prints (ascii "*SAV 3" ∷ ascii "*RCL" ∷ ascii "*sav x" ∷ ascii "*rcl 10" ∷ ascii "syst:err?" ∷ ascii "System:Err?" ∷ ascii "SYST:ERROR?" ∷ ascii "SYSTEM:ERROR?" ∷ []) []
    ≡ ascii "-200,\"Execution error\"\n" ∷ ascii "-109,\"Missing parameter\"\n" ∷ ascii "-104,\"Data type error\"\n" ∷ ascii "-222,\"Data out of range\"\n" ∷ [])
    -- no set-up is saved or recalled where there is no pool; an empty line does nothing
    × (obeys (ascii "*SAV 3") (113 ∷ []) ≡ record { queue = 113 ∷ 200 ∷ []; done = Obey.nothing; staging = []; out = buffer })
    × (obeys (ascii "*RCL 2") (113 ∷ []) ≡ record { queue = 113 ∷ 200 ∷ []; done = Obey.nothing; staging = []; out = buffer })
    × (obeys [] (113 ∷ []) ≡ record { queue = 113 ∷ []; done = Obey.nothing; staging = []; out = buffer })
unfolding obeyed carried_out idle failed answered after_save after_recall line is_error text decimal decimal_to entered oldest behind_oldest within is_digit all_digits value_from stands spells begins numbered parameter is_query command reading saved conclude_save unsaved save_tests number_test size_test open_tests first is_refused recalled recall_tests look_up_tests read_tests conclude_look
examples = (refl, refl, refl, refl, refl, refl)
