-- The entries to ask for a part of the pool: where none of them has a target there, the part is the pool's own. Assumes nothing.
use Prim.Native.Nat.{ℕ, ◌+◌, ◌%◌, ◌≤◌, ◌<◌}
use mathlib.Core.Path.{◌≡◌, refl, sym, ◌∙◌}
use mathlib.Core.Logic.{◌⊎◌, inl, inr}
use mathlib.Core.List.{List, [], ◌∷◌}
use native.Mathlib.Decide.{dec_lt}
use native.Mathlib.Omega.{arith}
use lib.ListN.{length, take, drop, get_or}
use lib.Seq.{ext_get_or, get_or-drop, get_or-take}
use Rattle.rules.specs.Words.{put}
use Rattle.rules.specs.Staging.{Store, Tidy, lay}
use Rattle.rules.proofs.Parts.{part_length}
use Rattle.rules.proofs.Words.{length-put, put-out}
use Rattle.stage.specs.View.{Asked, Clear, Staged, entries_of, part, seen}

-- a word stored elsewhere leaves a part
put-part : (p : List ℕ) (a n t w : ℕ) → a + n ≤ length p → a % 8 ≡ 0 → t % 8 ≡ 0 → (a ≤ t → a + n ≤ t) → part n a (put p t w) ≡ part n a p
unfolding part
put-part p a n t w h e f k =
    let l = part_length (put p t w) a n (rw length-put h) in
    ext_get_or 0 (take n (drop a (put p t w))) (take n (drop a p)) (l ∙ sym (part_length p a n h))
    (λ i b. let j = rw l at b in byte (put p t w) i j ∙ put-out p t w (a + i) (apart i j (dec_lt t a)) ∙ sym (byte p i j))
  where
    byte : (u : List ℕ) (i : ℕ) → i < n → get_or (take n (drop a u)) i 0 ≡ get_or u (a + i) 0
    byte u i j = get_or-take n (drop a u) i 0 j ∙ get_or-drop a u i 0

    apart : (i : ℕ) → i < n → Dec (t < a) → (a + i < t) ⊎ (t + 8 ≤ a + i)
    apart i j (yes b) = inr (omega arith)
    apart i j (no b) = let c = k (omega arith) in inl (omega arith)

lay-part : (es : List Store) (p : List ℕ) (a n : ℕ) → a + n ≤ length p → a % 8 ≡ 0 → Tidy es → Clear a n es → part n a (lay p es) ≡ part n a p
lay-part [] p a n h e t c = refl
lay-part (x ∷ xs) p a n h e t c =
    lay-part xs (put p x.at x.val) a n (rw length-put h) e t.3 c.1 ∙ put-part p a n x.at x.val h e t.0 c.0

module _ {p st : List ℕ} {m a n r : ℕ} (s : Staged p st m) (k : Asked st m a n r) where
  pub asked-seen : a % 8 ≡ 0 → a + n ≤ length p → part n a (seen p st r) ≡ part n a (seen p st m)
  unfolding seen entries_of
  asked-seen e h = elim k.some [ inl q ↦ rw q | inr c ↦ rw c.0 (sym (lay-part (entries_of st m) p a n h e s.tidy c.1)) ]
