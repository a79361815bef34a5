-- The lines that go on from a text, by the run that comes next. Assumes nothing.
use Prim.Native.Nat.{ℕ, zero, suc, ◌-◌, ◌<◌}
use mathlib.Core.Path.{◌≡◌, refl, sym, ap, ap₂, ◌∙◌}
use mathlib.Core.Bool.{Bool, true, false}
use mathlib.Core.List.{List, [], ◌∷◌, ◌++◌, map, flat_map, append_assoc, append-nil, Memᴰ}
use native.Mathlib.Omega.{arith}
use Rattle.rules.specs.Words.{ascii}
use Rattle.arrangements.specs.Arrangements.{Extent, arrangements_to, cells, free, is_free, lengths, next_extents, object}
use Rattle.arrangements.specs.Listing.{extent_text}
use Rattle.arrangements.specs.Lined.{next_lines, rest_lines}
use Rattle.arrangements.proofs.Members.{next_fits}

-- ---- lists made of lists

module _ {A B : Type 0} where
  flat_append : (g : A → List B) (xs ys : List A) → flat_map g (xs ++ ys) ≡ flat_map g xs ++ flat_map g ys
  unfolding flat_map
  flat_append g [] ys = refl
  flat_append g (x ∷ xs) ys = rw (flat_append g xs ys) (sym (append_assoc (g x) (flat_map g xs) (flat_map g ys)))

  flat-same : (g h : A → List B) (xs : List A) → ((x : A) → Memᴰ x xs → g x ≡ h x) → flat_map g xs ≡ flat_map h xs
  unfolding flat_map
  flat-same g h [] e = refl
  flat-same g h (x ∷ xs) e = ap₂ (λ (u v : List B). u ++ v) (e x (Memᴰ.head refl)) (flat-same g h xs (λ y m. e y (Memᴰ.tail m)))

flat-flat : {A B C : Type 0} (g : B → List C) (h : A → List B) (xs : List A) → flat_map g (flat_map h xs) ≡ flat_map (λ x. flat_map g (h x)) xs
unfolding flat_map
flat-flat g h [] = refl
flat-flat g h (x ∷ xs) = flat_append g (h x) (flat_map h xs) ∙ ap (λ u. flat_map g (h x) ++ u) (flat-flat g h xs)

-- ---- each run has a cell at least, so that more runs than cells are never met

pub runs-enough : (f g : ℕ) (after : Bool) (m : ℕ) → m < f → m < g → arrangements_to f after m ≡ arrangements_to g after m
unfolding arrangements_to
runs-enough zero g after m h k = absurd (omega arith)
runs-enough (suc f) zero after m h k = absurd (omega arith)
runs-enough (suc f) (suc g) after zero h k = refl
runs-enough (suc f) (suc g) after (suc m) h k =
    flat-same _ _ (next_extents after (suc m)) (λ e i. let s = next_fits after (suc m) i in ap (map (◌∷◌ e)) (runs-enough f g (is_free e) (suc m - cells e) (omega arith) (omega arith)))

-- ---- the lines

abbrev line_after : List ℕ → List Extent → List ℕ
line_after p a = p ++ (flat_map extent_text a ++ ascii ")\n")

-- a run at the front of each arrangement is a run at the end of the text before them
line-run : (p : List ℕ) (e : Extent) (xs : List (List Extent)) → flat_map (line_after p) (map (◌∷◌ e) xs) ≡ flat_map (line_after (p ++ extent_text e)) xs
unfolding flat_map
line-run p e [] = refl
line-run p e (a ∷ xs) = rw (line-run p e xs) (simp append_assoc)

pub rest-none : (p : List ℕ) (after : Bool) → p ++ ascii ")\n" ≡ rest_lines p after 0
unfolding rest_lines arrangements_to flat_map
rest-none p after = sym (append-nil _)

rest-next : (p : List ℕ) (after : Bool) (m : ℕ) → rest_lines p after (suc m) ≡ next_lines p (suc m) (next_extents after (suc m))
unfolding rest_lines next_lines arrangements_to
rest-next p after m =
    flat-flat (line_after p) (λ e. map (◌∷◌ e) (arrangements_to (suc m) (is_free e) (suc m - cells e))) (next_extents after (suc m))
    ∙ flat-same _ _ (next_extents after (suc m)) (λ e i. let s = next_fits after (suc m) i in
    line-run p e (arrangements_to (suc m) (is_free e) (suc m - cells e))
    ∙ ap (flat_map (line_after (p ++ extent_text e))) (runs-enough (suc m) (suc (suc m - cells e)) (is_free e) (suc m - cells e) (omega arith) (omega arith)))

-- behind a free run come objects; else free runs, then objects
pub rest-after : (p : List ℕ) (m : ℕ) → (m ≡ 0 → ⊥) → next_lines p m (lengths object 1 m) ≡ rest_lines p true m
unfolding next_extents
rest-after p zero h = absurd (h refl)
rest-after p (suc m) h = sym (rest-next p true m)

pub rest_both : (p : List ℕ) (m : ℕ) → (m ≡ 0 → ⊥) → next_lines p m (lengths free 1 m) ++ next_lines p m (lengths object 1 m) ≡ rest_lines p false m
unfolding next_extents next_lines
rest_both p zero h = absurd (h refl)
rest_both p (suc m) h = sym (flat_append _ (lengths free 1 (suc m)) (lengths object 1 (suc m))) ∙ sym (rest-next p false m)
