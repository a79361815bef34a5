-- The ways out of the scan, and the text of a pool put part by part. Assumes nothing.
use Prim.Native.Nat.{ℕ, zero, suc, ◌*◌, ◌≤◌, ◌<◌}
use mathlib.Core.Path.{◌≡◌}
use mathlib.Core.Bool.{Bool, not}
use mathlib.Core.List.{List}
use native.Mathlib.Nat.{mul-le-mul}
use native.Mathlib.Omega.{arith}
use lib.ListN.{length}
use borrow.Author.Tests.{le-ltb, lt-ltb}
use Rattle.rules.specs.Words.{ascii}
use Rattle.rules.specs.Shape.{Shape as PoolShape}
use Rattle.rules.specs.Test.{first}
use Rattle.rules.specs.Header.{shape_in}
use Rattle.rules.specs.Seals.{read_tests}
use Rattle.rules.specs.Scrub.{column_right, count_to, wrong_columns}
use Rattle.rules.specs.Scan.{conclude_scan, pool_text, poolscan, scan_tests, total_line, total_text, zones_text}
use Rattle.rules.proofs.Bool.{split}
use Rattle.rules.proofs.Sums.{sum-le}
use Rattle.rules.proofs.Scan.{lines-text}
use Rattle.layout.specs.declared.Shape.{Shape}
use Rattle.layout.specs.Meaning.{answer, good, refused, shape_of}
use Rattle.layout.proofs.Range.{bounds}
use Rattle.layout.proofs.Opening.{answer-refused, open-good}
use Rattle.pool_log.proofs.Opening.{read_none, read_opened}
use Rattle.totals.specs.Totalled.{LinesTotalled}
use Rattle.texts.specs.declared.Text.{Text}
use Rattle.texts.specs.Put.{between_text, pair_text}
use Rattle.texts.specs.Adds.{Adds}
use Rattle.texts.proofs.Adds.{adds_as, adds_then}
use Rattle.scan.specs.Lined.{count_lines, refused_text}
use Rattle.scan.proofs.Lines.{columns-line, pool-line}

-- ---- the ways out

module _ (p : List ℕ) where
  pub scan-long : 65536 < length p → refused_text 2 ≡ poolscan p
  unfolding poolscan scan_tests first conclude_scan refused_text between_text
  scan-long h = rw (lt-ltb 65536 (length p) h)

  pub scan-refused : length p ≤ 65536 → (n : ℕ) → answer (first (read_tests p)) (shape_in p) ≡ refused n → refused_text n ≡ poolscan p
  unfolding poolscan scan_tests first conclude_scan refused_text between_text
  scan-refused h n e = rw (le-ltb 65536 (length p) h, answer-refused (first (read_tests p)) (shape_in p) n e)

  pub scan_good : (s : Shape) → length p ≤ 65536 → answer (first (read_tests p)) (shape_in p) ≡ good (shape_of s) → pool_text (shape_of s) p ≡ poolscan p
  unfolding poolscan scan_tests first conclude_scan
  scan_good s h e = rw (le-ltb 65536 (length p) h, read_none p e, ← (open-good p (shape_of s) (read_opened p e)).2)

-- ---- zones, and columns with wrong parity, are few

count-le : (n : ℕ) (f : ℕ → Bool) → count_to n f ≤ n
unfolding count_to
count-le zero f = omega arith
count-le (suc n) f = let i = count-le n f in split (f n) (λ e. rw e (omega arith)) (λ e. rw e (omega arith))

columns-few : (s : Shape) (p : List ℕ) → wrong_columns (shape_of s) p ≤ 16 * 64
unfolding wrong_columns
columns-few s p =
    let g = bounds s in
    let a = sum-le s.zones s.cols (λ z. count_to s.cols (λ c. not (column_right (shape_of s) p z c))) (λ z. count-le s.cols (λ c. not (column_right (shape_of s) p z c))) in
    let b : s.zones * s.cols ≤ 16 * 64 = mul-le-mul g.zones-high g.cols-high in
    omega arith

pub zones-low : (s : Shape) → s.zones < 10000000000
zones-low s = omega (arith, (bounds s).zones-high)

pub columns-low : (s : Shape) (p : List ℕ) {n : ℕ} → n ≡ wrong_columns (shape_of s) p → n < 10000000000
columns-low s p e = omega (arith, columns-few s p)

-- ---- the text of a pool, line by line

pub counts-put : (s : PoolShape) (p : List ℕ) {n o b f : ℕ} {t₀ t₁ t₂ : Text} → n ≡ wrong_columns s p → LinesTotalled s p o b f → Adds 27 t₀ (between_text (ascii "(columns (off ") n (ascii "))\n")) t₁
    → Adds 66 t₁ (total_text o b f) t₂ → Adds 93 t₀ (count_lines s p) t₂
unfolding count_lines total_line
counts-put s p {n} e t columns total = adds_as (adds_then columns total) (rw (columns-line n, e, t.objects, t.bytes, t.free)) (omega arith)

pub pool-put : (s : Shape) (p : List ℕ) {t₀ t₁ t₂ t₃ t₄ : Text} → Adds 27 t₀ (pair_text (ascii "(pool ") s.rows s.cols) t₁ → Adds 13 t₁ (between_text (ascii " ") s.zones (ascii ")\n")) t₂
    → Adds 60928 t₂ (zones_text (shape_of s) p 0 s.zones) t₃ → Adds 93 t₃ (count_lines (shape_of s) p) t₄ → Adds 65536 t₀ (pool_text (shape_of s) p) t₄
unfolding pool_text count_lines
pool-put s p size zone zones counts =
    adds_as (adds_then (adds_then size zone) (adds_then zones counts)) (rw (pool-line (shape_of s), lines-text (shape_of s) p)) (omega arith)
