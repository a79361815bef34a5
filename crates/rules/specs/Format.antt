-- Format (01, "Cells and runs"): each zone one free run, all other bytes zero, parity right. Assumes nothing.
use Rattle.std.specs.Prelude.{ℕ, zero, suc, ◌-◌, ◌*◌, not, ◌||◌, List, [], ◌∷◌, ◌++◌, eqb, ltb, length, replicate}
use Rattle.rules.specs.Shape.{Shape, cell_size, head_size, page_size, pool_size, row_size, shape, zone_cells}
use Rattle.rules.specs.Test.{Test, first, when}
use Rattle.rules.specs.Header.{header_bytes, in_range}
use Rattle.rules.specs.Runs.{free_head}
use Rattle.rules.specs.Answer.{Changed, conclude_pool}

-- The head of one free run in the first data row, and so in the parity row.
unfoldable pub fresh_zone : Shape → List ℕ
fresh_zone sh =
    (free_head (zone_cells sh) ++ replicate (cell_size * zone_cells sh - head_size) 0)
    ++ (free_head (zone_cells sh) ++ replicate (row_size sh - head_size) 0)

unfoldable pub fresh_zones : Shape → ℕ → List ℕ
fresh_zones sh zero = []
fresh_zones sh (suc n) = fresh_zone sh ++ fresh_zones sh n

-- The header, its copy, both logs zero, the zones.
unfoldable pub fresh_pool : Shape → ℕ → List ℕ
fresh_pool sh id = header_bytes sh id ++ (header_bytes sh id ++ (replicate (16 * sh.page) 0 ++ fresh_zones sh sh.zones))

-- 1 R, C or Z outside its range, or id 0; 2 pool under 512 bytes, or not the given shape's length.
unfoldable pub format_tests : List ℕ → Shape → ℕ → List Test
format_tests p sh id =
    when (not (in_range sh) || eqb id 0) 1 ∷ when (ltb (length p) (2 * page_size) || not (eqb (length p) (pool_size sh))) 2 ∷ []

unfoldable pub formatted : List ℕ → ℕ → ℕ → ℕ → ℕ → Changed
formatted p R C Z id =
    conclude_pool p (first (format_tests p (shape R C Z) id)) (fresh_pool (shape R C Z) id)
