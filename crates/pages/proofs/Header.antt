-- The header stored in parts is the header (`header-stored`), and on a page of zeros its first 20 bytes make it whole (`header-on-zeros`).
-- Assumes nothing.
use Prim.Native.Nat.{ℕ, ◌+◌, ◌-◌, ◌≤◌}
use mathlib.Core.Path.{◌≡◌, sym, ap, ◌∙◌}
use mathlib.Core.List.{List, [], ◌∷◌, ◌++◌, append_assoc}
use native.Mathlib.Nat.{add-sub_cancel_left}
use native.Mathlib.Omega.{arith}
use lib.ListN.{length, take, drop, replicate, length-append}
use lib.Seq.{sets, length-sets, take_at, drop-drop}
use Rattle.rules.specs.Words.{digits, put}
use Rattle.rules.specs.Check.{check}
use Rattle.rules.specs.Shape.{Shape, page_size, shape}
use Rattle.rules.specs.Header.{header_bytes, header_front, letters, version}
use Rattle.rules.proofs.Words.{length_digits}
use Rattle.rules.proofs.Sets.{part-sets-before, part-take, sets-append}
use Rattle.rules.proofs.Parts.{part-all, sets-own}

length_front : (sh : Shape) (id : ℕ) → length (header_front sh id) ≡ 16
unfolding header_front
length_front sh id = rw (length_digits 8 id)

-- the letters; R, C, Z and the version, a byte each; the pool id
pub front-stored : (l : List ℕ) (a R C Z id : ℕ) {l₁ l₂ l₃ : List ℕ} {r c z : ℕ} → l₁ ≡ sets l a letters → r ≡ R → c ≡ C → z ≡ Z
    → l₂ ≡ sets l₁ (a + 4) (r ∷ c ∷ z ∷ version ∷ []) → l₃ ≡ put l₂ (a + 8) id → l₃ ≡ sets l a (header_front (shape R C Z) id)
unfolding header_front put
front-stored l a R C Z id e p q s f g =
    let four : List ℕ = R ∷ C ∷ Z ∷ version ∷ [] in
    let n : a + 4 + 4 ≡ a + 8 = omega arith in
    g ∙ rw (f, e, p, q, s, ← n) (sym (sets-append l a letters (four ++ digits 8 id) ∙ sets-append (sets l a letters) (a + 4) four (digits 8 id)))

-- the first 20 bytes: the front and its check
unfoldable checked_front : Shape → ℕ → List ℕ
checked_front sh id = header_front sh id ++ digits 4 (check (header_front sh id))

length-checked : (sh : Shape) (id : ℕ) → length (checked_front sh id) ≡ 20
unfolding checked_front
length-checked sh id = length-append (header_front sh id) _ ∙ rw (length_front sh id, length_digits)

header-parts : (sh : Shape) (id : ℕ) → header_bytes sh id ≡ checked_front sh id ++ replicate 236 0
unfolding header_bytes checked_front
header-parts sh id = sym (append_assoc (header_front sh id) _ _)

take-header : (sh : Shape) (id : ℕ) → take 20 (header_bytes sh id) ≡ checked_front sh id
take-header sh id = rw (header-parts sh id) (take_at (checked_front sh id) (replicate 236 0) 20 (length-checked sh id))

-- the front, then the check of what was stored there
pub header-stored : (l : List ℕ) (a : ℕ) (sh : Shape) (id : ℕ) {l₁ l₂ : List ℕ} {chk : ℕ} → a + page_size ≤ length l → l₁ ≡ sets l a (header_front sh id)
    → chk ≡ check (take (a + 16 - a) (drop a l₁)) → l₂ ≡ sets l₁ (a + 16) (digits 4 chk) → l₂ ≡ sets l a (take 20 (header_bytes sh id))
unfolding checked_front
header-stored l a sh id h e c f =
    let g : List ℕ = header_front sh id in
    let n : length g ≡ 16 = length_front sh id in
    f ∙ rw (c, e, add-sub_cancel_left a 16, part-all l a g 16 n (omega arith))
    (ap (λ (k : ℕ). sets (sets l a g) (a + k) (digits 4 (check g))) (sym n) ∙ sym (ap (sets l a) (take-header sh id) ∙ sets-append l a g (digits 4 (check g))))

-- ON A PAGE OF ZEROS THE FIRST 20 BYTES MAKE THE WHOLE HEADER
pub header-on-zeros : (l : List ℕ) (a : ℕ) (sh : Shape) (id : ℕ) → a + page_size ≤ length l → take page_size (drop a l) ≡ replicate page_size 0
    → sets l a (take 20 (header_bytes sh id)) ≡ sets l a (header_bytes sh id)
header-on-zeros l a sh id h z =
    let g : List ℕ = checked_front sh id in
    let n : length g ≡ 20 = length-checked sh id in
    let s : length (sets l a g) ≡ length l = length-sets l a g in
    let own : take 236 (drop (a + 20) (sets l a g)) ≡ replicate 236 0 =
    part-sets-before l (a + 20) 236 a g (omega arith) ∙ ap (take 236) (sym (drop-drop 20 a l))
    ∙ sym (part-take 20 236 256 (drop a l) (omega arith)) ∙ ap (λ (x : List ℕ). take 236 (drop 20 x)) z in
    ap (sets l a) (take-header sh id)
    ∙ sym (ap (sets l a) (header-parts sh id) ∙ sets-append l a g (replicate 236 0)
    ∙ ap (λ (k : ℕ). sets (sets l a g) (a + k) (replicate 236 0)) n ∙ ap (sets (sets l a g) (a + 20)) (sym own) ∙ sets-own (sets l a g) (a + 20) 236 (omega arith))
