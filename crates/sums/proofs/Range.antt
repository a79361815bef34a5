-- The check brought up to date over a range of bytes equals the check of the whole new bytes (`updated-range`). Assumes nothing.
use Prim.Native.Nat.{ℕ, suc, ◌+◌, ◌-◌, ◌≤◌}
use mathlib.Core.Path.{◌≡◌, refl, sym, ap, ap₂, ◌∙◌}
use mathlib.Core.List.{List, [], ◌∷◌}
use native.Mathlib.Omega.{arith}
use lib.ListN.{length, take, drop, set, length-set}
use lib.Seq.{sets, drop-cons, drop-set-lt}
use Rattle.rules.specs.Check.{check}
use Rattle.rules.specs.Words.{Bytes}
use Rattle.rules.proofs.Check.{check-updated}
use Rattle.rules.proofs.Words.{bytes-set}
use Rattle.sums.specs.Fed.{updated_range}

-- THE CHECK OF A CHANGED RANGE: the bytes from i on become vs
pub updated-range : (xs : List ℕ) (i : ℕ) (vs : List ℕ) → Bytes xs → Bytes vs → i + length vs ≤ length xs
    → updated_range (check xs) (length xs - i) (take (length vs) (drop i xs)) vs ≡ check (sets xs i vs)
unfolding updated_range
updated-range xs i [] hx hv h = refl
updated-range xs i (v ∷ vs) hx hv h =
    ap (λ (us : List ℕ). updated_range (check xs) (length xs - i) (take (suc (length vs)) us) (v ∷ vs)) (drop-cons xs i 0 (omega arith))
    ∙ ap (λ (k : ℕ). updated_range k (length xs - i - 1) (take (length vs) (drop (suc i) xs)) vs) (sym (check-updated xs i v hx (hv 0) (omega arith)))
    ∙ ap₂ (λ (n : ℕ) (us : List ℕ). updated_range (check (set xs i v)) n (take (length vs) us) vs)
    (rw length-set (omega arith)) (sym (drop-set-lt (suc i) xs i v (omega arith)))
    ∙ updated-range (set xs i v) (suc i) vs (bytes-set xs i v hx (hv 0)) (λ j. hv (suc j)) (rw length-set (omega arith))
