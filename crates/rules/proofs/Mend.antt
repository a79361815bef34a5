-- Header mending: afterwards both headers are valid and equal (`mended-headers`); every byte behind them stays (`mended-rest`).
use Prim.Native.Nat.{ℕ, ◌≤◌}
use mathlib.Core.Path.{◌≡◌, refl, sym, ap, ◌∙◌}
use mathlib.Core.Bool.{Bool, true, false, not, cond, ◌&&◌, ◌||◌}
use mathlib.Core.List.{List}
use native.Mathlib.Omega.{arith}
use lib.ListN.{length, take, drop, length-drop}
use lib.Seq.{sets, length-take-le}
use borrow.Author.Tests.{ltb-false}
use Rattle.rules.specs.Header.{differing, header_ok, open_tests, page_at, same, valid_header}
use Rattle.rules.specs.Mend.{mended}
use Rattle.rules.proofs.Test.{Passed, not-not}
use Rattle.rules.proofs.Header.{same-eq}
use Rattle.rules.proofs.Sets.{drop-sets, part-sets-before, part-sets-behind, part-sets-in, sets-all}

page-length : (p : List ℕ) (a : ℕ) → a ≤ 256 → 512 ≤ length p → length (page_at p a) ≡ 256
unfolding page_at
page-length p a h l = length-take-le 256 (drop a p) (rw (length-drop a p) (omega arith))

-- a page stored over the header, and over its copy
over-header : (p x : List ℕ) → 512 ≤ length p → length x ≡ 256 → (page_at (sets p 0 x) 0 ≡ x) × (page_at (sets p 0 x) 256 ≡ page_at p 256)
unfolding page_at
over-header p x l e = (
  part-sets-in p 0 256 0 x (omega arith) (omega arith) ∙ sets-all (take 256 (drop 0 p)) x (length-take-le 256 (drop 0 p) (rw (length-drop 0 p) (omega arith)) ∙ sym e),
  part-sets-before p 256 256 0 x (omega arith),
)

over-copy : (p x : List ℕ) → 512 ≤ length p → length x ≡ 256 → (page_at (sets p 256 x) 0 ≡ page_at p 0) × (page_at (sets p 256 x) 256 ≡ x)
unfolding page_at
over-copy p x l e = (
  part-sets-behind p 0 256 256 x (omega arith),
  part-sets-in p 256 256 0 x (omega arith) (omega arith) ∙ sets-all (take 256 (drop 256 p)) x (length-take-le 256 (drop 256 p) (rw (length-drop 256 p) (omega arith)) ∙ sym e),
)

abbrev Headed : List ℕ → Type 0
Headed q = (valid_header q 0 ≡ true) × (valid_header q 256 ≡ true) × (page_at q 0 ≡ page_at q 256)

headed : (q x : List ℕ) → header_ok x ≡ true → page_at q 0 ≡ x → page_at q 256 ≡ x → Headed q
unfolding valid_header
headed q x h a b = (ap header_ok a ∙ h, ap header_ok b ∙ h, a ∙ sym b)

-- BOTH HEADERS ARE VALID AND EQUAL
pub mended-headers : (p : List ℕ) → Passed (open_tests p) → Headed (mended p)
unfolding open_tests differing mended
mended-headers p o = go (valid_header p 0) (valid_header p 256) refl refl o.1.0 o.1.1.0
  where
    long : 512 ≤ length p
    long = ltb-false (length p) 512 o.0

    go : (a b : Bool) → valid_header p 0 ≡ a → valid_header p 256 ≡ b → not (a || b) ≡ false → (a && (b && not (same (page_at p 0) (page_at p 256)))) ≡ false
        → Headed (cond a (cond b p (sets p 256 (page_at p 0))) (sets p 0 (page_at p 256)))
    go true true h k n d = headed p (page_at p 0) (unfold valid_header in h) refl (sym (same-eq (page_at p 0) (page_at p 256) (not-not (same (page_at p 0) (page_at p 256)) d)))
    go true false h k n d =
        let c = over-copy p (page_at p 0) long (page-length p 0 (omega arith) long) in
        headed (sets p 256 (page_at p 0)) (page_at p 0) (unfold valid_header in h) c.0 c.1
    go false true h k n d =
        let c = over-header p (page_at p 256) long (page-length p 256 (omega arith) long) in
        headed (sets p 0 (page_at p 256)) (page_at p 256) (unfold valid_header in k) c.0 c.1
    go false false h k n d = absurd (let z : ◌≡◌ {A = ℕ} 0 1 = cc in omega arith)

-- every other byte stays
pub mended-rest : (p : List ℕ) → Passed (open_tests p) → drop 512 (mended p) ≡ drop 512 p
unfolding open_tests mended
mended-rest p o = go (valid_header p 0) (valid_header p 256)
  where
    long : 512 ≤ length p
    long = ltb-false (length p) 512 o.0

    go : (a b : Bool) → drop 512 (cond a (cond b p (sets p 256 (page_at p 0))) (sets p 0 (page_at p 256))) ≡ drop 512 p
    go true true = refl
    go true false = drop-sets 512 p 256 (page_at p 0) (rw (page-length p 0 (omega arith) long) (omega arith))
    go false true = drop-sets 512 p 0 (page_at p 256) (rw (page-length p 256 (omega arith) long) (omega arith))
    go false false = drop-sets 512 p 0 (page_at p 256) (rw (page-length p 256 (omega arith) long) (omega arith))
