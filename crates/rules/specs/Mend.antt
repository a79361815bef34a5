-- Header mending (01, "Repair and scrub"). 01's mending restores a header. Assumes nothing.
use Rattle.std.specs.Prelude.{cond, List, ℕ}
use Rattle.std.proofs.lemmas.List.Edits.{sets}
use Rattle.rules.specs.Shape.{page_size}
use Rattle.rules.specs.Test.{first}
use Rattle.rules.specs.Header.{open_tests, page_at, valid_header}
use Rattle.rules.specs.Answer.{Changed, conclude_pool}

-- Header mending copies the valid header over an invalid one.
unfoldable pub mended : List ℕ → List ℕ
mended p =
    cond (valid_header p 0) (cond (valid_header p page_size) p (sets p page_size (page_at p 0))) (sets p 0 (page_at p page_size))

unfoldable pub mend_header : List ℕ → Changed
mend_header p = conclude_pool p (first (open_tests p)) (mended p)
