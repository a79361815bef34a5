-- What it is to stand in the list of arrangements, without the list: the runs have a cell each at least and m cells together, and no free run
-- comes right after a free one (`Arranged`). The list has those and no other (`arranged-listed`, `listed-arranged`). Assumes nothing.
use Prim.Native.Nat.{ℕ, zero, suc, ◌-◌, ◌<◌}
use mathlib.Core.Path.{◌≡◌, refl, sym, subst}
use mathlib.Core.Bool.{Bool}
use mathlib.Core.List.Memᴰ
use mathlib.Core.List.{List, [], ◌∷◌, Memᴰ}
use native.Mathlib.Omega.{arith}
use Rattle.arrangements.specs.Arrangements.{Extent, arrangements_to, cells, is_free, next_extents}
use Rattle.arrangements.proofs.Members.{Fits, fits_next, joined-member, member-joined, next_fits}

-- an arrangement of m cells behind a free run or not
abbrev pub Arranged : Bool → ℕ → List Extent → Type 0
Arranged after m [] = m ≡ 0
Arranged after m (e ∷ a) = Fits after m e × Arranged (is_free e) (m - cells e) a

-- more runs than cells are never needed, so that any f above m lists all
pub arranged-listed : (f : ℕ) (after : Bool) (m : ℕ) (a : List Extent) → m < f → Arranged after m a → Memᴰ a (arrangements_to f after m)
unfolding arrangements_to
arranged-listed zero after m a l h = absurd (omega arith)
arranged-listed (suc f) after zero [] l h = Memᴰ.head refl
arranged-listed (suc f) after zero (e ∷ a) l h = absurd (omega arith)
arranged-listed (suc f) after (suc m) [] l h = absurd (omega arith)
arranged-listed (suc f) after (suc m) (e ∷ a) l h =
    joined-member _ (fits_next after (suc m) e h.0) (Memᴰ.map (◌∷◌ e) (arranged-listed f (is_free e) (suc m - cells e) a (omega arith) h.1))

pub listed-arranged : (f : ℕ) (after : Bool) (m : ℕ) (a : List Extent) → Memᴰ a (arrangements_to f after m) → Arranged after m a
unfolding arrangements_to
listed-arranged zero after m a d = absurd (Memᴰ.not-nil d)
listed-arranged (suc f) after zero a d = subst (Arranged after 0) (sym (Memᴰ.eq_of_singleton d)) refl
listed-arranged (suc f) after (suc m) a d =
    let i = member-joined _ (next_extents after (suc m)) d in
    let j = Memᴰ.of_map (◌∷◌ i.0) _ i.2 in
    subst (Arranged after (suc m)) j.2 (next_fits after (suc m) i.1, listed-arranged f (is_free i.0) (suc m - cells i.0) j.0 j.1)
