-- Differing bytes counted, a place or a block more at a time; bytes replaced and those that differ counted. Assumes nothing.
use Prim.Native.Nat.{ℕ, ◌+◌, ◌-◌, ◌≤◌}
use mathlib.Core.Path.{◌≡◌, refl, sym, ap, ◌∙◌}
use mathlib.Core.Bool.{cond}
use mathlib.Core.List.{List, [], ◌∷◌, ◌++◌}
use native.Mathlib.Nat.{add-sub_cancel_left, add-zero, zero-add}
use native.Mathlib.Omega.{arith}
use borrow.Author.Tests.{eq-eqb, ne_eqb}
use lib.Dec.{eqb}
use lib.ListN.{length, take, drop, length-append}
use lib.Seq.{sets}
use Rattle.rules.specs.Repair.{differences}
use Rattle.rules.proofs.Parts.{part_length}
use Rattle.rules.proofs.Differences.{differences-append, differences-most, differences-stored}

-- of xs and ys, us and vs are left; n places before them differ
pub record Counting (xs ys us vs : List ℕ) (n : ℕ) : Type 0 where
  pub same : length us ≡ length vs
  pub count : n + differences us vs ≡ differences xs ys

pub counting-start : (xs ys : List ℕ) → length xs ≡ length ys → Counting xs ys xs ys 0
counting-start xs ys e = record { same = e; count = zero-add (differences xs ys) }

module _ {xs ys us vs : List ℕ} {n : ℕ} (c : Counting xs ys us vs n) where
  pub counting-few : n + differences us vs ≤ length xs
  counting-few = let h = differences-most xs ys in let e = c.count in omega arith

  -- a block more
  pub counting-block : (bs ds us' vs' : List ℕ) → us ≡ bs ++ us' → vs ≡ ds ++ vs' → length bs ≡ length ds → Counting xs ys us' vs' (n + differences bs ds)
  counting-block bs ds us' vs' e f l =
      let s : length (bs ++ us') ≡ length (ds ++ vs') = rw (e, f) at c.same in
      record {
        same = omega (arith, length-append bs us', length-append ds vs');
        count = let k : n + differences (bs ++ us') (ds ++ vs') ≡ differences xs ys = rw (e, f) at c.count in omega (arith, differences-append bs ds us' vs' l);
      }

  -- a place more
  module _ {x y : ℕ} {us' vs' : List ℕ} (e : us ≡ x ∷ us') (f : vs ≡ y ∷ vs') where
    place : Counting xs ys us' vs' (n + cond (eqb x y) 0 1)
    unfolding differences
    place = rw (add-zero (cond (eqb x y) 0 1)) at (counting-block (x ∷ []) (y ∷ []) us' vs' e f refl)

    pub counting-differs : (x ≡ y → ⊥) → Counting xs ys us' vs' (n + 1)
    counting-differs d = rw (ne_eqb x y d) at place

    pub counting-same : x ≡ y → Counting xs ys us' vs' n
    counting-same d = rw (eq-eqb x y d, add-zero n) at place

  pub counting-end : length us ≡ 0 → n ≡ differences xs ys
  counting-end h = let k = differences-most us vs in let e = c.count in omega arith

-- ---- the n bytes of p from a on replaced

module _ (p : List ℕ) (a n : ℕ) (h : a + n ≤ length p) where
  pub slice-length : length (take (a + n - a) (drop a p)) ≡ n
  slice-length = rw (add-sub_cancel_left a n) (part_length p a n h)

  -- as many places differ in the whole
  pub replaced : (q xs : List ℕ) (r : ℕ) → length xs ≡ n → q ≡ sets p a xs → r ≡ differences (take (a + n - a) (drop a p)) xs → (r ≡ differences p q) × (r ≤ n)
  replaced q xs r l e f =
      let m = differences-most (take (a + n - a) (drop a p)) xs in
      let k = slice-length in
      (f ∙ rw (add-sub_cancel_left a n, ← l) (sym (differences-stored p xs a (omega arith))) ∙ ap (differences p) (sym e), omega arith)
