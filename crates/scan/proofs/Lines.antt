-- The lines of 01's listing, as they are put piece by piece. Assumes nothing.
use Prim.Native.Nat.{ℕ}
use mathlib.Core.Path.{◌≡◌, refl}
use mathlib.Core.Bool.{Bool}
use mathlib.Core.List.{List, ◌++◌, append_assoc}
use lib.ListN.{length}
use Rattle.rules.specs.Words.{ascii}
use Rattle.rules.specs.Shape.{Shape}
use Rattle.rules.specs.Runs.{free, object}
use Rattle.rules.specs.Scan.{broken_line, columns_line, pool_line, run_line, run_text, total_text}
use Rattle.texts.specs.Put.{between_text, pair_text}
use Rattle.scan.specs.Lined.{object_line}

pub free-line : (z c n : ℕ) → pair_text (ascii "(run ") z c ++ between_text (ascii " (free ") n (ascii "))\n") ≡ run_line z c (free n)
unfolding pair_text between_text run_line run_text
free-line z c n = simp append_assoc

pub object-line : (z c n t : ℕ) (b : List ℕ) (g : Bool) → object_line z c t (length b) g ≡ run_line z c (object n t b g)
unfolding pair_text object_line run_line run_text
object-line z c n t b g = simp append_assoc

pub broken-line : (z c : ℕ) → pair_text (ascii "(broken ") z c ++ ascii ")\n" ≡ broken_line z c
unfolding pair_text broken_line
broken-line z c = simp append_assoc

pub pool-line : (sh : Shape) → pair_text (ascii "(pool ") sh.rows sh.cols ++ between_text (ascii " ") sh.zones (ascii ")\n") ≡ pool_line sh
unfolding pair_text between_text pool_line
pool-line sh = simp append_assoc

pub columns-line : (n : ℕ) → between_text (ascii "(columns (off ") n (ascii "))\n") ≡ columns_line n
unfolding between_text columns_line
columns-line n = refl

pub total-line : (n b f : ℕ) → between_text (ascii "(total (objects ") n (ascii ")") ++ (between_text (ascii " (bytes ") b (ascii ")") ++ between_text (ascii " (free ") f (ascii "))\n")) ≡ total_text n b f
unfolding between_text total_text
total-line n b f = simp append_assoc
