-- Different arrangements of n cells have different lines (`lines-distinct`): no line of the text stands twice. Assumes nothing.
use Prim.Native.Nat.{ℕ, suc, ◌-◌, ◌≤◌, ◌<◌}
use mathlib.Core.Path.{◌≡◌, refl, ap, ap₂}
use mathlib.Core.Bool.{Bool, false}
use mathlib.Core.List.{List, [], ◌∷◌, ◌++◌, flat_map, append_assoc, append_cancel_left, Memᴰ}
use native.Mathlib.Omega.{arith}
use lib.ListN.{get_or}
use Rattle.rules.specs.Words.{ascii}
use Rattle.rules.proofs.Scan.{decimal-one}
use Rattle.arrangements.specs.Arrangements.{Extent, arrangements, cells, free, is_free, object}
use Rattle.arrangements.specs.Listing.{extent_text, zone_line}
use Rattle.arrangements.proofs.Arranged.{Arranged, listed-arranged}

-- ---- The runs of fewer than 10 cells together have fewer than 10 each, so that each number is one digit.

abbrev Short : List Extent → Type 0
Short [] = Unit {0}
Short (e ∷ a) = (cells e < 10) × Short a

arranged-short : (after : Bool) (m : ℕ) (a : List Extent) → m < 10 → Arranged after m a → Short a
arranged-short after m [] l h = tt
arranged-short after m (e ∷ a) l h = (omega arith, arranged-short (is_free e) (m - cells e) a (omega arith) h.1)

listed-short : (n : ℕ) → n ≤ 8 → (a : List Extent) → Memᴰ a (arrangements n) → Short a
unfolding arrangements
listed-short n h a d = arranged-short false n a (omega arith) (listed-arranged (suc n) false n a d)

-- ---- A text that begins with a run tells the run and what is behind it.

byte-same : {s t : List ℕ} (i : ℕ) → s ≡ t → get_or s i 0 ≡ get_or t i 0
byte-same i e = ap (λ (l : List ℕ). get_or l i 0) e

-- The kind shows at byte 2; the digit is byte 7 of a free run and byte 9 of an object.
extent-front : (x y : Extent) (s t : List ℕ) → cells x < 10 → cells y < 10 → extent_text x ++ s ≡ extent_text y ++ t → (x ≡ y) × (s ≡ t)
unfolding extent_text
extent-front (free j) (free k) s t p q e = let d = rw (decimal-one j p, decimal-one k q) at e in (ap free (omega (arith, byte-same 7 d)), cc)
extent-front (free j) (object k) s t p q e = absurd (omega (arith, byte-same 2 e))
extent-front (object j) (free k) s t p q e = absurd (omega (arith, byte-same 2 e))
extent-front (object j) (object k) s t p q e = let d = rw (decimal-one j p, decimal-one k q) at e in (ap object (omega (arith, byte-same 9 d)), cc)

-- ---- The lines. Each run begins with a blank, and the end of a line does not.

runs-distinct : (a b : List Extent) → Short a → Short b → flat_map extent_text a ++ ascii ")\n" ≡ flat_map extent_text b ++ ascii ")\n" → a ≡ b
unfolding flat_map extent_text
runs-distinct [] [] p q e = refl
runs-distinct [] (free k ∷ b) p q e = cc
runs-distinct [] (object k ∷ b) p q e = cc
runs-distinct (free k ∷ a) [] p q e = cc
runs-distinct (object k ∷ a) [] p q e = cc
runs-distinct (x ∷ a) (y ∷ b) p q e =
    let i = extent-front x y _ _ p.0 q.0 (simp append_assoc at e) in
    ap₂ (λ (z : Extent) (c : List Extent). z ∷ c) i.0 (runs-distinct a b p.1 q.1 i.1)

pub lines-distinct : (n : ℕ) → n ≤ 8 → (a b : List Extent) → Memᴰ a (arrangements n) → Memᴰ b (arrangements n) → zone_line a ≡ zone_line b → a ≡ b
unfolding zone_line
lines-distinct n h a b c d e = runs-distinct a b (listed-short n h a c) (listed-short n h b d) (append_cancel_left (ascii "(zone") _ _ e)
