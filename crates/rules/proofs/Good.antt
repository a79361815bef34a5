-- When an object is good (01, refusal 25, as A.2 amends it). Above these laws nothing opens `good_in` but
-- worked numbers.
use Prim.Native.Nat.{ℕ, ◌+◌, ◌-◌, ◌*◌, ◌≤◌, ◌<◌}
use mathlib.Core.Path.{◌≡◌, sym, ap, ◌∙◌}
use mathlib.Core.Bool.{Bool, true, ◌&&◌}
use mathlib.Core.List.{List, ◌++◌}
use native.Mathlib.Decide.{dec_lt}
use native.Mathlib.Omega.{arith}
use lib.Dec.{eqb}
use lib.ListN.{length, drop, get_or, length-drop, length-take, get_or-eq_default}
use lib.Seq.{drop-append-le, drop_at, get_or-drop, get_or-take, take-append-le, take_at}
use borrow.Author.Tests.{eq-eqb, eqb-true}
use Rattle.rules.specs.Words.{all_zero}
use Rattle.rules.specs.Check.{check}
use Rattle.rules.specs.Shape.{cell_size, head_size}
use Rattle.rules.specs.Runs.{behind_body, body_in, covered, good_in, head_cells, head_check, head_length}
use Rattle.rules.proofs.Bool.{and-join, and_split}
use Rattle.rules.proofs.Zeros.{each-zero, zero-each}

-- a good object: its check is right, and each byte from its body's end to its run's end is zero; byte i behind the head is the run's byte 16 + i
pub record GoodSays (h rest : List ℕ) : Type 0 where
  pub chk : head_check h ≡ check (covered h (body_in h rest))
  pub zero : (i : ℕ) → head_length h ≤ i → head_size + i < cell_size * head_cells h → get_or rest i 0 ≡ 0

module _ (h rest : List ℕ) where
  behind-at : (i : ℕ) → i < cell_size * head_cells h - (head_size + head_length h) → get_or (behind_body h rest) i 0 ≡ get_or rest (head_length h + i) 0
  behind-at i k = get_or-take (cell_size * head_cells h - (head_size + head_length h)) (drop (head_length h) rest) i 0 k ∙ get_or-drop (head_length h) rest i 0

  good-says : good_in h rest ≡ true → GoodSays h rest
  unfolding good_in
  good-says e =
      let a = and_split _ _ e in
      record {
        chk = eqb-true _ _ a.0;
        zero = λ i l k.
            let j : head_length h + (i - head_length h) ≡ i = omega arith in
            ap (λ (x : ℕ). get_or rest x 0) (sym j) ∙ sym (behind-at (i - head_length h) (omega arith)) ∙ zero-each (behind_body h rest) a.1 (i - head_length h);
      }

  says-good : GoodSays h rest → good_in h rest ≡ true
  unfolding good_in
  says-good s = and-join _ _ (eq-eqb _ _ s.chk) (each-zero (behind_body h rest) byte)
    where
      byte : (i : ℕ) → get_or (behind_body h rest) i 0 ≡ 0
      byte i = go (dec_lt i (cell_size * head_cells h - (head_size + head_length h)))
        where
          go : Dec (i < cell_size * head_cells h - (head_size + head_length h)) → get_or (behind_body h rest) i 0 ≡ 0
          go (yes k) = behind-at i k ∙ s.zero (head_length h + i) (omega arith) (omega arith)
          go (no k) = get_or-eq_default (behind_body h rest) 0 (rw (length-take (cell_size * head_cells h - (head_size + head_length h)) (drop (head_length h) rest)) (omega arith))

  -- GOOD, BYTE BY BYTE
  pub good-is : (good_in h rest ≡ true → GoodSays h rest) × (GoodSays h rest → good_in h rest ≡ true)
  good-is = (good-says, says-good)

  -- by its two tests
  pub good-tests : {x y : ℕ} {z : Bool} → x ≡ head_check h → y ≡ check (covered h (body_in h rest)) → z ≡ all_zero (behind_body h rest) → (eqb x y && z) ≡ good_in h rest
  unfolding good_in
  good-tests e f k = rw (e, f, k)

-- bytes behind the run are not read
pub good-local : (h rest more : List ℕ) → head_size + head_length h ≤ cell_size * head_cells h → cell_size * head_cells h ≤ head_size + length rest → good_in h (rest ++ more) ≡ good_in h rest
unfolding good_in
good-local h rest more a b =
    rw (
      take-append-le (head_length h) rest more (omega arith),
      drop-append-le (head_length h) rest more (omega arith),
      take-append-le (cell_size * head_cells h - (head_size + head_length h)) (drop (head_length h) rest) more (rw (length-drop (head_length h) rest) (omega arith)),
    )

-- another body of that length and a right check for it: the bytes behind stay zero
pub good-written : (h k b c pad : List ℕ) → head_cells k ≡ head_cells h → head_length k ≡ head_length h → head_length h ≡ length b → length c ≡ length b
    → good_in h (b ++ pad) ≡ true → head_check k ≡ check (covered k c) → good_in k (c ++ pad) ≡ true
unfolding good_in
good-written h k b c pad en em eb ec g e =
    let z = (and_split (eqb (head_check h) (check (covered h (body_in h (b ++ pad))))) (all_zero (behind_body h (b ++ pad))) g).1 in
    let l : head_length k ≡ length c = em ∙ eb ∙ sym ec in
    let d : drop (head_length k) (c ++ pad) ≡ drop (head_length h) (b ++ pad) = drop_at c pad (head_length k) (sym l) ∙ sym (drop_at b pad (head_length h) (sym eb)) in
    let u : all_zero (behind_body k (c ++ pad)) ≡ true = rw (d, en, em) z in
    let v : head_check k ≡ check (covered k (body_in k (c ++ pad))) = rw (take_at c pad (head_length k) (sym l)) e in
    and-join _ _ (eq-eqb _ _ v) u
