-- The check brought up to date is the check of the object with the range laid over, and head bytes 8 to 15 hold it. Assumes nothing.
use Prim.Native.Nat.{ℕ, ◌+◌, ◌-◌, ◌*◌, ◌/◌, ◌^◌, ◌≤◌, ◌<◌}
use mathlib.Core.Path.{◌≡◌, sym, ap, ap₂, ◌∙◌}
use mathlib.Core.List.{List, [], ◌++◌, append_assoc}
use native.Mathlib.Nat.{add_assoc, add_comm}
use native.Mathlib.Omega.{arith}
use lib.ListN.{length, take, drop, length-append, length-drop, length-take}
use lib.Seq.{sets, drop-append-add, drop-drop, length-take-le}
use Rattle.rules.specs.Words.{Bytes, digits}
use Rattle.rules.specs.Check.{check}
use Rattle.rules.specs.Runs.{check_word, covered, head_check}
use Rattle.rules.proofs.Words.{bytes_drop, bytes-sets, bytes_take}
use Rattle.rules.proofs.Sets.{part-take, sets-right}
use Rattle.rules.proofs.Check.{check-lt}
use Rattle.rules.proofs.Segments.{covered-bytes}
use Rattle.sums.specs.Fed.{updated_range}
use Rattle.sums.proofs.Range.{updated-range}
use Rattle.stage.specs.View.{part}
use Rattle.heads.specs.HeadWords.{covered_by, head_of}
use Rattle.heads.proofs.Digits.{digits-join}
use Rattle.heads.proofs.HeadWords.{head-covered}
use Rattle.write.specs.Writing.{Range}

-- THE CHECK OF A WRITTEN OBJECT, with the head h and the body b: the bytes of the body from o on become xs
pub covered-updated : (h b : List ℕ) (o : ℕ) (xs : List ℕ) → length h ≡ 16 → Bytes h → Bytes b → Bytes xs → o + length xs ≤ length b
    → updated_range (check (covered h b)) (length b - o) (take (length xs) (drop o b)) xs ≡ check (covered h (sets b o xs))
covered-updated h b o xs e hh hb hx l =
    let f : List ℕ = take 8 h ++ take 4 (drop 12 h) in
    let k : length f ≡ 12 =
    length-append (take 8 h) (take 4 (drop 12 h)) ∙ rw (length-take 8 h, length-take 4 (drop 12 h), length-drop 12 h) (omega arith) in
    let c : covered h b ≡ f ++ b = sym (append_assoc (take 8 h) (take 4 (drop 12 h)) b) in
    let n : length (covered h b) ≡ 12 + length b = ap length c ∙ length-append f b ∙ rw k in
    let d : drop (12 + o) (covered h b) ≡ drop o b = ap (drop (12 + o)) c ∙ ap (λ (i : ℕ). drop (i + o) (f ++ b)) (sym k) ∙ drop-append-add f b o in
    let s : sets (covered h b) (12 + o) xs ≡ covered h (sets b o xs) =
    ap (λ (x : List ℕ). sets x (12 + o) xs) c ∙ ap (λ (i : ℕ). sets (f ++ b) (i + o) xs) (sym k) ∙ sets-right f b o xs
    ∙ append_assoc (take 8 h) (take 4 (drop 12 h)) (sets b o xs) in
    let m : length b - o ≡ length (covered h b) - (12 + o) = omega arith in
    ap₂ (λ (i : ℕ) (us : List ℕ). updated_range (check (covered h b)) i (take (length xs) us) xs) m (sym d)
    ∙ updated-range (covered h b) (12 + o) xs (covered-bytes h b hh hb) hx (omega arith) ∙ ap check s

head-back : (a b : ℕ) → take 4 (drop 12 (head_of a b)) ≡ digits 4 (b / 4294967296)
unfolding head_of covered_by digits
head-back a b = ap (drop 8) (head-covered a b [])

module _ (v : List ℕ) (hv : Bytes v) {h m o : ℕ} (xs : List ℕ) (hx : Bytes xs) (g : Range v h m o (length xs)) where
  length-head : length (part 16 h v) ≡ 16
  unfolding part
  length-head = length-take-le 16 (drop h v) (rw length-drop (omega (arith, g.inside)))

  length-body : length (part m (h + 16) v) ≡ m
  unfolding part
  length-body = length-take-le m (drop (h + 16) v) (rw length-drop (omega (arith, g.inside)))

  bytes-head : Bytes (part 16 h v)
  unfolding part
  bytes-head = bytes_take 16 (drop h v) (bytes_drop h v hv)

  bytes-body : Bytes (part m (h + 16) v)
  unfolding part
  bytes-body = bytes_take m (drop (h + 16) v) (bytes_drop (h + 16) v hv)

  range-part : part (length xs) (h + (16 + o)) v ≡ take (length xs) (drop o (part m (h + 16) v))
  unfolding part
  range-part =
      sym (part-take o (length xs) m (drop (h + 16) v) g.within ∙ ap (take (length xs)) (drop-drop o (h + 16) v ∙ ap (λ (i : ℕ). drop i v) (add_assoc h 16 o)))

  new-check : {c r : ℕ} → c ≡ head_check (part 16 h v) → r ≡ updated_range c (12 + m - (12 + o)) (part (length xs) (h + (16 + o)) v) xs → r ≡ check (covered (part 16 h v) (sets (part m (h + 16) v) o xs))
  new-check {c} {r} e q =
      let l : 12 + m - (12 + o) ≡ length (part m (h + 16) v) - o = rw length-body (omega arith) in
      q ∙ ap₂ (λ (i : ℕ) (us : List ℕ). updated_range i (12 + m - (12 + o)) us xs) (e ∙ g.right) range-part
      ∙ ap (λ (i : ℕ). updated_range (check (covered (part 16 h v) (part m (h + 16) v))) i (take (length xs) (drop o (part m (h + 16) v))) xs) l
      ∙ covered-updated (part 16 h v) (part m (h + 16) v) o xs length-head bytes-head bytes-body hx (rw length-body g.within)

  -- the word of the new check and the tag
  pub check-made : (a b : ℕ) {c r : ℕ} → head_of a b ≡ part 16 h v → c ≡ head_check (head_of a b) → r ≡ updated_range c (12 + m - (12 + o)) (part (length xs) (h + (16 + o)) v) xs
      → digits 8 (4294967296 * (b / 4294967296) + r) ≡ check_word (part 16 h v) (sets (part m (h + 16) v) o xs)
  unfolding check_word
  check-made a b {c} {r} e p q =
      let u : r ≡ check (covered (part 16 h v) (sets (part m (h + 16) v) o xs)) = new-check (p ∙ ap (λ (x : List ℕ). head_check x) e) q in
      let l : r < 256 ^ 4 = rw u (check-lt (covered (part 16 h v) (sets (part m (h + 16) v) o xs)) (covered-bytes (part 16 h v) (sets (part m (h + 16) v) o xs) bytes-head (bytes-sets (part m (h + 16) v) o xs bytes-body hx))) in
      ap (digits 8) (add_comm (4294967296 * (b / 4294967296)) r) ∙ digits-join 4 4 r (b / 4294967296) l
      ∙ ap₂ (λ (i : ℕ) (y : List ℕ). digits 4 i ++ y) u (sym (head-back a b) ∙ ap (λ (x : List ℕ). take 4 (drop 12 x)) e)
