-- Worked numbers: the counts, the lines of 2 cells, the first and the last of 4, the length and the check of texts, and inputs that are refused. They
-- were worked out apart from the definitions. Assumes nothing.
use mathlib.Core.Path.{◌≡◌, refl}
use mathlib.Core.List.{[], ◌∷◌, flat_map, map}
use lib.ListN.{length, get_or}
use Rattle.rules.specs.Words.{ascii}
use Rattle.rules.specs.Check.{check, high, low, reduced}
use Rattle.rules.specs.Scan.{decimal, decimal_to}
use Rattle.arrangements.specs.Arrangements.{arrangements, arrangements_to, lengths, next_extents}
use Rattle.arrangements.specs.Listing.{asked, digit, extent_text, listing, zone_line, zones_listing}

counts : (length (arrangements 1) ≡ 2) × (length (arrangements 2) ≡ 5) × (length (arrangements 3) ≡ 13) × (length (arrangements 4) ≡ 34)
unfolding arrangements arrangements_to lengths next_extents flat_map
counts = (refl, refl, refl, refl)

two_cells : zones_listing (ascii "2\n") ≡ ascii "(zone (free 1) (object 1))\n(zone (free 2))\n(zone (object 1) (free 1))\n(zone (object 1) (object 1))\n(zone (object 2))\n"
unfolding zones_listing listing asked digit arrangements arrangements_to lengths next_extents flat_map zone_line extent_text decimal decimal_to
two_cells = refl

four-cells : (get_or (map zone_line (arrangements 4)) 0 [] ≡ ascii "(zone (free 1) (object 1) (free 1) (object 1))\n")
    × (get_or (map zone_line (arrangements 4)) 33 [] ≡ ascii "(zone (object 4))\n")
unfolding arrangements arrangements_to lengths next_extents flat_map zone_line extent_text decimal decimal_to
four-cells = (refl, refl)

four-text : (length (zones_listing (ascii "4\n")) ≡ 1241) × (check (zones_listing (ascii "4\n")) ≡ 2622514494)
unfolding zones_listing listing asked digit arrangements arrangements_to lengths next_extents flat_map zone_line extent_text decimal decimal_to check high low reduced
four-text = (refl, refl)

refusals : (zones_listing [] ≡ ascii "(refused 42)\n") × (zones_listing (ascii "0\n") ≡ ascii "(refused 42)\n") × (zones_listing (ascii "9\n") ≡ ascii "(refused 42)\n")
    × (zones_listing (ascii "4") ≡ ascii "(refused 42)\n") × (zones_listing (52 ∷ 13 ∷ 10 ∷ []) ≡ ascii "(refused 42)\n") × (zones_listing (ascii "44") ≡ ascii "(refused 42)\n")
unfolding zones_listing listing asked digit
refusals = (refl, refl, refl, refl, refl, refl)
