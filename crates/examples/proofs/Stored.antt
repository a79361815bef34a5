-- A part written where its end is within the list (`part-stored`). Assumes nothing.
use mathlib.Core.Path.{◌∙◌, ap, sym}
use borrow.Rule.Slice.PartMut.{put_mid}
use Rattle.std.proofs.Common.{◌≡◌, ℕ, ◌+◌, ◌≤◌, List, length, nat_le, if◌then◌else◌}
use Rattle.std.proofs.lemmas.Bool.{le-leb}
use Rattle.std.proofs.lemmas.List.Edits.{sets}
use Rattle.pages.proofs.Storing.{put_mid-sets}

pub part-stored : (l : List ℕ) (a k n : ℕ) (v vs : List ℕ) → v ≡ vs → a + length vs ≤ length l → k ≡ length vs → n ≤ length l
    → put_mid a k l v ≡ (if nat_le n (length l) then sets l a vs else l)
part-stored l a k n v vs e h q p =
    ap (put_mid a k l) e ∙ put_mid-sets l a k vs h q ∙ sym (ap (λ b. if b then sets l a vs else l) (le-leb n (length l) p))
