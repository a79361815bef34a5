-- Entries as the pieces of 16 bytes of staging memory: an iterator over these yields the entries (`yields-entries`). Assumes nothing.
use Prim.Native.Nat.{ℕ, zero, suc, ◌+◌, ◌-◌, ◌*◌, ◌≤◌, ◌<◌}
use mathlib.Core.Path.{◌≡◌, refl, sym, ap, ap₂, ◌∙◌}
use mathlib.Core.Bool.{false, cond, ◌&&◌}
use mathlib.Core.List.{List, [], ◌∷◌, ◌++◌}
use native.Mathlib.Nat.{add-zero}
use native.Mathlib.Omega.{arith}
use denote.Ref.{Bor}
use lib.ListN.{length, take, get_or, length-append, length-take}
use lib.Dec.{eqb, leb, ltb}
use lib.Seq.{get_or-append-add, get_or-take}
use borrow.Author.Tests.{ltb-true, ltb-false}
use Rattle.std.proofs.lemmas.Iterator.{YieldsList}
use Rattle.std.proofs.lemmas.List.{get_or_append_left}
use Rattle.std.proofs.lemmas.List.Recursion.{is_position_or_len}
use Rattle.std.specs.Iterator.{AlwaysYields}
use Rattle.std.specs.List.{list_any, position_or_len}
use Rattle.std.specs.Prelude.{Option, Some, None}
use Rattle.std.specs.declared.slice.ChunksExact.{ChunksExact}
use Rattle.std.specs.Slice.Iter.{chunks_exact_rest, chunks_exact_size, chunks_exact_steps}
use Rattle.rules.specs.Words.{field, word}
use Rattle.rules.specs.Staging.{Store, entries_at}
use Rattle.rules.proofs.Bool.{split, or-false}
use Rattle.rules.proofs.Words.{number-cong}
use Rattle.words.specs.Loaded.{Loaded}
use Rattle.stage.specs.View.{Clear, entries_of}
use Rattle.stage.specs.Touched.{Placed, slot}
use Rattle.stage.proofs.Entries.{length-entries}

-- the entry in a piece
abbrev pub entry : Bor (List ℕ) → Store
entry x = record { at = word x.now 0; val = word x.now 8 }

-- what is left to yield is n entries of st, from place a on
pub record Left (st : List ℕ) (a n : ℕ) (s : ChunksExact ℕ) : Type 0 where
  pub size : chunks_exact_size s ≡ 16
  pub long : length (chunks_exact_rest s) ≡ 16 * n
  pub bytes : (i : ℕ) → i < 16 * n → get_or (chunks_exact_rest s) i 0 ≡ get_or st (a + i) 0

pub left-start : (st : List ℕ) (n : ℕ) (s : ChunksExact ℕ) → 16 * n ≤ length st → chunks_exact_size s ≡ 16 → chunks_exact_rest s ≡ take (16 * n) st → Left st 0 n s
left-start st n s h z e =
    record {
      size = z;
      long = ap length e ∙ omega (arith, length-take (16 * n) st);
      bytes = λ i l. ap (λ (x : List ℕ). get_or x i 0) e ∙ get_or-take (16 * n) st i 0 l ∙ ap (λ (j : ℕ). get_or st j 0) (omega arith);
    }

left_none : {st : List ℕ} {a : ℕ} {s : ChunksExact ℕ} (t : ChunksExact ℕ) (x : Bor (List ℕ)) → Left st a 0 s → chunks_exact_steps s (Some x) t → ⊥
left_none t x l p = omega (arith, l.size, l.long, ap length p.1.0, length-append {A = ℕ}, p.1.1)

left_some : {st : List ℕ} {a n : ℕ} {s : ChunksExact ℕ} (t : ChunksExact ℕ) → Left st a (suc n) s → chunks_exact_steps s None t → ⊥
left_some t l p = omega (arith, l.size, l.long, p.1.0)

-- a piece that comes: its words, and what is left then
module _ {st : List ℕ} {a n : ℕ} {s : ChunksExact ℕ} (t : ChunksExact ℕ) (x : Bor (List ℕ)) (l : Left st a (suc n) s) (p : chunks_exact_steps s (Some x) t) where
  front : (i : ℕ) → i < 16 → get_or x.now i 0 ≡ get_or st (a + i) 0
  front i h =
      sym (get_or_append_left x.now (chunks_exact_rest t) 0 i (omega (arith, p.1.1, l.size))) ∙ ap (λ (y : List ℕ). get_or y i 0) (sym p.1.0)
      ∙ l.bytes i (omega arith)

  pub piece-word : (k : ℕ) → k ≤ 8 → word x.now k ≡ word st (a + k)
  unfolding word field
  piece-word k h =
      number-cong 8 (λ i. get_or x.now (k + i) 0) (λ i. get_or st (a + k + i) 0)
      (λ i b. front (k + i) (omega arith) ∙ ap (λ (j : ℕ). get_or st j 0) (omega arith))

  pub left-next : Left st (a + 16) n t
  left-next =
      let z : length x.now ≡ 16 = p.1.1 ∙ l.size in
      record {
        size = p.0 ∙ l.size;
        long = omega (arith, z, l.long, ap length p.1.0, length-append x.now (chunks_exact_rest t));
        bytes = λ i h.
            sym (get_or-append-add x.now (chunks_exact_rest t) i 0) ∙ ap (λ (k : ℕ). get_or (x.now ++ chunks_exact_rest t) (k + i) 0) z
            ∙ ap (λ (y : List ℕ). get_or y (16 + i) 0) (sym p.1.0) ∙ l.bytes (16 + i) (omega arith) ∙ ap (λ (j : ℕ). get_or st j 0) (omega arith);
      }

-- entry k of n, and what is left then
pub left-step : {st : List ℕ} {k n : ℕ} {s : ChunksExact ℕ} (t : ChunksExact ℕ) (x : Bor (List ℕ)) → k ≤ n → Left st (16 * k) (n - k) s → chunks_exact_steps s (Some x) t
    → (k < n) × ((r : ℕ) → Loaded 8 x.now 0 r → Loaded 8 st (16 * k) r) × Left st (16 * (k + 1)) (n - (k + 1)) t
unfolding word
left-step {st} {k} {n} t x h l p =
    let b : k < n = omega (arith, p.1.1, l.size, l.long, ap length p.1.0, length-append x.now (chunks_exact_rest t)) in
    let e : n - k ≡ suc (n - (k + 1)) = omega arith in
    let f = rw e at l in
    let m : 16 * (k + 1) ≡ 16 * k + 16 = omega arith in
    (b, (λ r w. record { value = w.value ∙ piece-word t x f p 0 (omega arith) ∙ ap (field 8 st) (add-zero (16 * k)); small = w.small }), rw m (left-next t x f p))

pub left-end : {st : List ℕ} {k n : ℕ} {s : ChunksExact ℕ} (t : ChunksExact ℕ) → k ≤ n → Left st (16 * k) (n - k) s → chunks_exact_steps s None t → k ≡ n
left-end t h l p = omega (arith, l.size, l.long, p.1.0)

yields : (n : ℕ) (st : List ℕ) (a : ℕ) (s : ChunksExact ℕ) → Left st a n s → AlwaysYields chunks_exact_steps entry s (entries_at st a n)
yields zero st a s l = λ x t p. left_none t x l p
yields (suc n) st a s l = (
  (λ t p. left_some t l p),
  λ x t p. (
    ap₂ (λ (u v : ℕ). record { at = u; val = v }) (piece-word t x l p 0 (omega arith) ∙ ap (word st) (add-zero a)) (piece-word t x l p 8 (omega arith)),
    yields n st (a + 16) t (left-next t x l p),
  ),
)

pub yields-entries : {st : List ℕ} {n : ℕ} {s : ChunksExact ℕ} → Left st 0 n s → YieldsList chunks_exact_steps entry s (entries_of st n)
unfolding entries_of
yields-entries {st} {n} {s} l = record { runs = yields n st 0 s l }

-- ---- the search for a target

slot-position : (o : ℕ) (es : List Store) → slot o es ≡ position_or_len (λ x. eqb x.at o) es
unfolding slot
slot-position o es = is_position_or_len (slot o) (λ x. eqb x.at o) refl (λ x xs. ap (λ (k : ℕ). cond (eqb x.at o) 0 k) (omega arith)) es

slot-most : (o : ℕ) (es : List Store) → slot o es ≤ length es
unfolding slot
slot-most o [] = omega arith
slot-most o (x ∷ xs) = split (eqb x.at o) (λ e. rw e (omega arith)) (λ e. rw e (let i = slot-most o xs in omega arith))

pub placed-found : (st : List ℕ) (n o : ℕ) (r : Option ℕ)
    → r ≡ cond (ltb (position_or_len (λ x. eqb x.at o) (entries_of st n)) (length (entries_of st n))) (Some (position_or_len (λ x. eqb x.at o) (entries_of st n))) None
    → Placed st n o r
placed-found st n o r e =
    let q = slot-position o (entries_of st n) in
    let l = length-entries st n in
    let m = slot-most o (entries_of st n) in
    let f = rw (← q, l) at e in
    split (ltb (slot o (entries_of st n)) n)
    (λ y. let h = ltb-true (slot o (entries_of st n)) n y in rw (rw y at f) (record { place = refl; le = omega arith }, h))
    (λ y. let h = ltb-false (slot o (entries_of st n)) n y in rw (rw y at f) (record { place = omega arith; le = omega arith }))

-- ---- the targets in a range

pub clear-none : (a n : ℕ) (es : List Store) → list_any (λ x. leb a x.at && ltb (x.at - a) n) es ≡ false → Clear a n es
clear-none a n [] e = tt
clear-none a n (x ∷ xs) e =
    let f = or-false (leb a x.at && ltb (x.at - a) n) (list_any (λ y. leb a y.at && ltb (y.at - a) n) xs) e in
    ((λ h. grind (arith, f.0)), clear-none a n xs f.1)
