-- Members of lists that are joined from lists, and of those that may come next (`Fits`). Assumes nothing.
use Prim.Native.Nat.{ℕ, zero, suc, ◌+◌, ◌≤◌, ◌<◌}
use mathlib.Core.Path.{◌≡◌, refl, sym, ap, subst}
use mathlib.Core.Logic.{⊎_elim}
use mathlib.Core.Bool.{Bool, true, false, cond, ◌&&◌}
use mathlib.Core.List.Memᴰ
use mathlib.Core.List.{List, [], ◌∷◌, flat_map, Memᴰ}
use native.Mathlib.Nat.{eq-or-lt_of_le}
use native.Mathlib.Omega.{arith}
use Rattle.arrangements.specs.Arrangements.{Extent, cells, free, is_free, lengths, next_extents, object}

-- ---- a list joined from a list for each element

module _ {A B : Type 0} (f : A → List B) where
  pub joined-member : {b : B} {x : A} {xs : List A} → Memᴰ x xs → Memᴰ b (f x) → Memᴰ b (flat_map f xs)
  unfolding flat_map
  joined-member {b} (Memᴰ.head {xs = xs} e) m = Memᴰ.append_left (flat_map f xs) (subst (λ (y : A). Memᴰ b (f y)) e m)
  joined-member (Memᴰ.tail {x = y} d) m = Memᴰ.append_right (f y) (joined-member d m)

  pub member-joined : {b : B} (xs : List A) → Memᴰ b (flat_map f xs) → (x : A) × Memᴰ x xs × Memᴰ b (f x)
  unfolding flat_map
  member-joined [] m = absurd (Memᴰ.not-nil m)
  member-joined (x ∷ xs) m =
      ⊎_elim (λ d. (x, Memᴰ.head refl, d)) (λ d. let i = member-joined xs d in (i.0, Memᴰ.tail i.1, i.2)) (Memᴰ.append_cases (f x) m)

-- ---- what may come next

-- an extent that may come next where m cells are left, behind a free run or not
abbrev pub Fits : Bool → ℕ → Extent → Type 0
Fits after m e = (1 ≤ cells e) × (cells e ≤ m) × ((after && is_free e) ≡ false)

lengths-member : (kind : ℕ → Extent) (k n j : ℕ) → k ≤ j → j < k + n → Memᴰ (kind j) (lengths kind k n)
unfolding lengths
lengths-member kind k zero j l h = absurd (omega arith)
lengths-member kind k (suc n) j l h =
    ⊎_elim (λ e. Memᴰ.head (ap kind (sym e))) (λ g. Memᴰ.tail (lengths-member kind (suc k) n j g (omega arith))) (eq-or-lt_of_le l)

pub member-lengths : (kind : ℕ → Extent) (k n : ℕ) {e : Extent} → Memᴰ e (lengths kind k n) → (j : ℕ) × (k ≤ j) × (j < k + n) × (e ≡ kind j)
unfolding lengths
member-lengths kind k zero d = absurd (Memᴰ.not-nil d)
member-lengths kind k (suc n) d =
    ⊎_elim (λ e. (k, omega arith, omega arith, e)) (λ d. let i = member-lengths kind (suc k) n d in (i.0, omega arith, omega arith, i.3)) (Memᴰ.cases_cons d)

pub fits_next : (after : Bool) (m : ℕ) (e : Extent) → Fits after m e → Memᴰ e (next_extents after m)
unfolding next_extents
fits_next after m (object k) h = Memᴰ.append_right (cond after [] (lengths free 1 m)) (lengths-member object 1 m k h.0 (omega arith))
fits_next true m (free k) h = absurd (let z : ◌≡◌ {A = ℕ} 0 1 = cc in omega arith)
fits_next false m (free k) h = Memᴰ.append_left (lengths object 1 m) (lengths-member free 1 m k h.0 (omega arith))

-- one law for both kinds
lengths-fit : (kind : ℕ → Extent) (after : Bool) (m : ℕ) {e : Extent} → ((j : ℕ) → (cells (kind j) ≡ j) × ((after && is_free (kind j)) ≡ false))
    → Memᴰ e (lengths kind 1 m) → Fits after m e
lengths-fit kind after m p d =
    let i = member-lengths kind 1 m d in
    let q = p i.0 in
    subst (Fits after m) (sym i.3) (omega arith, omega arith, q.1)

pub next_fits : (after : Bool) (m : ℕ) {e : Extent} → Memᴰ e (next_extents after m) → Fits after m e
unfolding next_extents
next_fits true m d = lengths-fit object true m (λ j. (refl, refl)) d
next_fits false m d = ⊎_elim (lengths-fit free false m (λ j. (refl, refl))) (lengths-fit object false m (λ j. (refl, refl))) (Memᴰ.append_cases (lengths free 1 m) d)
