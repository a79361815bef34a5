-- The lines of a zone, run by run; no promise of a public function speaks of them. Assumes nothing.
use Rattle.std.specs.Prelude.{ℕ, ◌+◌, ◌*◌, ◌<◌, Bool, cond, List, ◌++◌}
use Rattle.rules.specs.Words.{ascii}
use Rattle.rules.specs.Shape.{Shape}
use Rattle.rules.specs.Runs.{Run, Walk, free}
use Rattle.rules.specs.Scrub.{wrong_columns}
use Rattle.rules.specs.Scan.{columns_line, quality, scan_lines, total_line, zone_lines}
use Rattle.stage.specs.Seen.{seen_by}
use Rattle.stage.specs.View.{part}
use Rattle.runs.specs.declared.Run.{Run as MetRun}
use Rattle.runs.specs.declared.Zone.{Zone}
use Rattle.objects.specs.Named.{object_run}
use Rattle.texts.specs.Put.{between_text, pair_text}

-- Room for a line that begins at place a, and numbers to print in it.
pub record Room (a z c : ℕ) : Type 0 where
  pub place : a + 64 < 4294967296
  pub zone : z < 65536
  pub cell : c < 65536

-- The line of a refusal with the number n.
unfoldable pub refused_text : ℕ → List ℕ
refused_text n = between_text (ascii "(refused ") n (ascii ")\n")

-- The line of an object with the tag t and a body of m bytes.
unfoldable pub object_line : ℕ → ℕ → ℕ → ℕ → Bool → List ℕ
object_line z c t m good =
    pair_text (ascii "(run ") z c ++ (pair_text (ascii " (object ") t m ++ (ascii " " ++ (quality good ++ ascii "))\n")))

-- A run that is met in a zone, free or the object with its head there, as 01 has it.
unfoldable pub run_of : Zone → MetRun → Run
run_of z m =
    cond m.free (free m.cells) (object_run (seen_by z.view) (z.from + 64 * m.cell) (part 16 (z.from + 64 * m.cell) (seen_by z.view)))

-- The lines of zone z, which has the walk w.
unfoldable pub zone_text : Walk → ℕ → List ℕ
zone_text w z = zone_lines z 0 w.runs w.whole

-- The lines behind the zones.
unfoldable pub count_lines : Shape → List ℕ → List ℕ
count_lines s v = columns_line (wrong_columns s v) ++ total_line (scan_lines s v)
