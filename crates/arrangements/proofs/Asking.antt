-- What the input asks for, by its length and its bytes. Assumes nothing.
use Prim.Native.Nat.{ℕ, ◌-◌, ◌≤◌, ◌<◌}
use mathlib.Core.Path.{◌≡◌, refl, ◌∙◌}
use mathlib.Core.Option.{Option, none, some}
use mathlib.Core.List.{List, [], ◌∷◌}
use native.Mathlib.Omega.{arith}
use lib.Dec.{eqb}
use lib.ListN.{length, get_or}
use borrow.Author.Tests.{eq-eqb, eqb-true, le-leb, lt-leb}
use Rattle.rules.proofs.Bool.{split}
use Rattle.arrangements.specs.Listing.{asked, digit}

-- ---- a byte

pub digit_in : (d : ℕ) → 49 ≤ d → d ≤ 56 → some (d - 48) ≡ digit d
unfolding digit
digit_in d a b = rw (le-leb 49 d a, le-leb d 56 b)

pub digit_below : (d : ℕ) → d < 49 → none ≡ digit d
unfolding digit
digit_below d a = rw (lt-leb 49 d a)

pub digit_above : (d : ℕ) → 48 < d → 57 ≤ d → none ≡ digit d
unfolding digit
digit_above d a b = rw (le-leb 49 d (omega arith), lt-leb d 56 (omega arith))

-- ---- the input

pub asked_one : (s : List ℕ) {o : Option ℕ} → length s ≡ 2 → get_or s 1 0 ≡ 10 → o ≡ digit (get_or s 0 0) → o ≡ asked s
unfolding asked
asked_one [] l e q = absurd (omega arith)
asked_one (d ∷ []) l e q = absurd (omega arith)
asked_one (d ∷ x ∷ []) l e q = q ∙ rw (eq-eqb x 10 e)
asked_one (d ∷ x ∷ y ∷ s) l e q = absurd (omega arith)

pub asked_none : (s : List ℕ) → (length s ≡ 2 → get_or s 1 0 ≡ 10 → ⊥) → none ≡ asked s
unfolding asked
asked_none [] n = refl
asked_none (d ∷ []) n = refl
asked_none (d ∷ x ∷ []) n = split (eqb x 10) (λ e. absurd (n refl (eqb-true x 10 e))) (λ e. rw e)
asked_none (d ∷ x ∷ y ∷ s) n = refl
