-- Worked lines and queues (A.3), one list proved from the definitions. Assumes nothing.
use Prim.Native.Nat.{ℕ}
use mathlib.Core.Path.{◌≡◌, refl}
use mathlib.Core.List.{List, [], ◌∷◌, ◌++◌}
use lib.ListN.{replicate}
use Rattle.rules.specs.Words.{ascii}
use Rattle.rules.specs.Scan.{decimal, decimal_to}
use Rattle.errors.specs.Errors.{all_errors, asked, behind_oldest, entered, entered_all, is_error, judged, line, oldest, text}

-- Eleven times error 113 into an empty queue.
abbrev eleven : List ℕ
eleven = entered_all (replicate 11 113) []

pub examples :
    -- the six lines, and that of no error
    (line 104 ≡ ascii "-104,\"Data type error\"\n") × (line 109 ≡ ascii "-109,\"Missing parameter\"\n")
    × (line 113 ≡ ascii "-113,\"Undefined header\"\n") × (line 200 ≡ ascii "-200,\"Execution error\"\n")
    × (line 222 ≡ ascii "-222,\"Data out of range\"\n") × (line 350 ≡ ascii "-350,\"Queue overflow\"\n")
    × (line 0 ≡ ascii "0,\"No error\"\n")
    -- ten errors wait as they came; of eleven the first nine, and the overflow; a twelfth changes nothing
    × (entered_all (replicate 10 113) [] ≡ replicate 10 113)
    × (eleven ≡ replicate 9 113 ++ (350 ∷ [])) × (entered 104 eleven ≡ eleven)
    -- eleven queries then
    × (asked 11 eleven ≡ replicate 9 113 ++ (350 ∷ 0 ∷ []))
    -- errors of several kinds, the oldest first; one more when the oldest was asked for stands last
    × (entered_all (104 ∷ 200 ∷ []) (109 ∷ []) ≡ 109 ∷ 104 ∷ 200 ∷ [])
    × (oldest (109 ∷ 104 ∷ []) ≡ 109) × (entered 222 (behind_oldest (109 ∷ 104 ∷ [])) ≡ 104 ∷ 222 ∷ [])
    -- handed in: ten errors count; eleven, or one that is not of the six, as none; unused places are not judged
    × (judged 10 (replicate 10 113) ≡ replicate 10 113) × (judged 11 (replicate 11 113) ≡ [])
    × (judged 2 (113 ∷ 999 ∷ []) ≡ []) × (judged 1 (113 ∷ 999 ∷ []) ≡ 113 ∷ []) × (judged 0 (999 ∷ []) ≡ [])
unfolding line text decimal decimal_to entered entered_all asked oldest behind_oldest judged all_errors is_error
examples = (refl, refl, refl, refl, refl, refl, refl, refl, refl, refl, refl, refl, refl, refl, refl, refl, refl, refl, refl)
