-- What format stores into the zones of a pool of zeros; no promise speaks of it. Assumes nothing.
use Rattle.std.specs.Prelude.{ℕ, zero, suc, ◌+◌, ◌*◌, List}
use Rattle.std.proofs.lemmas.List.Edits.{sets}
use Rattle.rules.specs.Shape.{Shape, cell_size, zone_at, zone_cells}
use Rattle.rules.specs.Runs.{free_head}

-- In n zones from zone z on: the head of one free run, and the same at the front of the parity row.
unfoldable pub heads_from : Shape → ℕ → ℕ → List ℕ → List ℕ
heads_from sh z zero p = p
heads_from sh z (suc n) p =
    heads_from sh (suc z) n (sets (sets p (zone_at sh z) (free_head (zone_cells sh))) (zone_at sh z + cell_size * zone_cells sh) (free_head (zone_cells sh)))
