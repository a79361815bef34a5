-- Lines and their readings, computed from the definitions. Assumes nothing.
use mathlib.Core.Path.{◌≡◌, refl}
use mathlib.Core.List.{[], ◌∷◌, ◌++◌}
use lib.ListN.{replicate}
use Rattle.rules.specs.Words.{ascii}
use Rattle.rules.specs.Header.{within}
use Rattle.lines.specs.Line.{all_digits, begins, command, fault, is_digit, is_query, nothing, numbered, parameter, query, reading, recall, save, spells, stands, value_from}

pub examples :
    -- an empty line
    (reading [] ≡ nothing)
    -- letters in either case, leading zeros
    × (reading (ascii "*SAV 3") ≡ save 3) × (reading (ascii "*sAv 003") ≡ save 3)
    × (reading (ascii "*rcl 0") ≡ recall 0) × (reading (ascii "*RCL 9") ≡ recall 9)
    -- 80 bytes, and 81
    × (reading (ascii "*RCL " ++ (replicate 74 48 ++ ascii "5")) ≡ recall 5)
    × (reading (ascii "*RCL " ++ (replicate 75 48 ++ ascii "5")) ≡ fault 113)
    -- no number
    × (reading (ascii "*SAV") ≡ fault 109) × (reading (ascii "*SAV ") ≡ fault 109)
    -- not all digits; the last ends with CR
    × (reading (ascii "*SAV  3") ≡ fault 104) × (reading (ascii "*SAV 3 ") ≡ fault 104)
    × (reading (ascii "*SAV -1") ≡ fault 104) × (reading (ascii "*SAV 12a") ≡ fault 104)
    × (reading (ascii "*SAV 3" ++ (13 ∷ [])) ≡ fault 104)
    -- above 9
    × (reading (ascii "*RCL 10") ≡ fault 222) × (reading (ascii "*SAV 99999999999999999999") ≡ fault 222)
    -- any other line; one has a tab behind *SAV
    × (reading (ascii "*SAV3") ≡ fault 113) × (reading (ascii "*SAVE 3") ≡ fault 113)
    × (reading (ascii " *SAV 3") ≡ fault 113) × (reading (ascii " ") ≡ fault 113)
    × (reading (ascii "JSAV 3") ≡ fault 113) × (reading (ascii "*SAV" ++ (9 ∷ ascii "3")) ≡ fault 113)
    × (reading (ascii "SYSTZERR_") ≡ fault 113) × (reading (ascii "SYSTE:ERR?") ≡ fault 113)
    × (reading (ascii ":SYST:ERR?") ≡ fault 113) × (reading (ascii "SYST:ERR") ≡ fault 113)
    × (reading (ascii "SYST:ERR? ") ≡ fault 113)
    -- the query, each word short or long
    × (reading (ascii "SYST:ERR?") ≡ query) × (reading (ascii "system:error?") ≡ query)
    × (reading (ascii "SYSTem:ERR?") ≡ query) × (reading (ascii "SYST:ERROR?") ≡ query)
unfolding within is_digit all_digits value_from stands spells begins numbered parameter is_query command reading
examples =
    (refl, refl, refl, refl, refl, refl, refl, refl, refl, refl, refl, refl, refl, refl, refl, refl, refl, refl, refl, refl, refl, refl, refl, refl, refl, refl, refl, refl, refl, refl, refl)
