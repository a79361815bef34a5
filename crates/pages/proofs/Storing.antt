-- Bytes stored as one part (`put_mid-sets`), and the bytes of a part copied elsewhere (`copied-sets`). Assumes nothing.
use Prim.Native.Nat.{ℕ, ◌+◌, ◌≤◌}
use mathlib.Core.Path.{◌≡◌, sym, ap, ◌∙◌}
use mathlib.Core.List.{List, ◌++◌, append_assoc}
use native.Mathlib.Nat.{add-sub_cancel_left}
use borrow.Rule.Slice.PartMut.{put_mid}
use lib.ListN.{length, take, drop}
use lib.Seq.{sets, sets-eq, drop-drop}
use Rattle.std.specs.List.{copy_within}
use Rattle.rules.proofs.Parts.{part_length}
use Rattle.pages.specs.Written.{Apart}

pub put_mid-sets : (l : List ℕ) (a k : ℕ) (vs : List ℕ) → a + length vs ≤ length l → k ≡ length vs → put_mid a k l vs ≡ sets l a vs
put_mid-sets l a k vs h e =
    rw (e) (sym (sets-eq vs l a h ∙ append_assoc (take a l) vs _ ∙ ap (λ (r : List ℕ). take a l ++ (vs ++ r)) (sym (drop-drop (length vs) a l))))

pub copied-sets : (l : List ℕ) (from to n : ℕ) → Apart (length l) from to n → copy_within l from (from + n) to ≡ sets l to (take n (drop from l))
copied-sets l from to n p =
    let k : length (take n (drop from l)) ≡ n = part_length l from n p.from_le in
    let h : to + length (take n (drop from l)) ≤ length l = rw k p.to_le in
    rw (add-sub_cancel_left from n) (ap (λ (i : ℕ). (take to l ++ take n (drop from l)) ++ drop (to + i) l) (sym k) ∙ sym (sets-eq (take n (drop from l)) l to h))
