-- Entries in memory: their number, one more entry, and stores outside the entries. Assumes nothing.
use Prim.Native.Nat.{ℕ, zero, suc, ◌+◌, ◌*◌, ◌%◌, ◌≤◌, ◌<◌}
use mathlib.Core.Path.{◌≡◌, refl}
use mathlib.Core.Logic.{◌⊎◌, inl, inr}
use mathlib.Core.List.{List, [], ◌∷◌, ◌++◌}
use native.Mathlib.Nat.{add-zero}
use native.Mathlib.Omega.{arith}
use lib.ListN.{length}
use lib.Dec.{eqb}
use borrow.Author.Tests.{eqb-false}
use Rattle.rules.specs.Words.{put, word}
use Rattle.rules.specs.Staging.{Fresh, Store, entries_at, touch}
use Rattle.rules.proofs.Bool.{split}
use Rattle.rules.proofs.Words.{word-put-other}
use Rattle.rules.proofs.Transaction.{entries-count}
use Rattle.stage.specs.View.{entries_of}
use Rattle.stage.specs.Touched.{added}

pub length-entries : (st : List ℕ) (n : ℕ) → length (entries_of st n) ≡ n
unfolding entries_of
length-entries st n = entries-count st 0 n

pub fresh_added : (o : ℕ) (es : List Store) → added o es ≡ 1 → Fresh o es
unfolding added
fresh_added o [] h = tt
fresh_added o (x ∷ xs) h =
    split (eqb x.at o) (λ e. absurd (let k = rw e at h in omega arith)) (λ e. (eqb-false x.at o e, fresh_added o xs (rw e at h)))

-- ---- one more entry

pub entries-more : (st : List ℕ) (a n : ℕ)
    → entries_at st a (suc n) ≡ entries_at st a n ++ (record { at = word st (a + 16 * n); val = word st (a + 16 * n + 8) } ∷ [])
entries-more st a zero = rw (add-zero a)
entries-more st a (suc n) =
    let e : a + 16 + 16 * n ≡ a + 16 * suc n = omega arith in
    rw (entries-more st (a + 16) n, e)

pub touch-fresh : (o w : ℕ) (es : List Store) → added o es ≡ 1 → touch o w es ≡ es ++ (record { at = o; val = w } ∷ [])
unfolding touch added
touch-fresh o w [] h = refl
touch-fresh o w (x ∷ xs) h =
    split (eqb x.at o) (λ e. absurd (let k = rw e at h in omega arith)) (λ e. rw (e, touch-fresh o w xs (rw e at h)))

-- ---- a store before or behind entries leaves them

pub entries-put-other : (st : List ℕ) (a n b v : ℕ) → a % 8 ≡ 0 → b % 8 ≡ 0 → (b < a) ⊎ (a + 16 * n ≤ b) → entries_at (put st b v) a n ≡ entries_at st a n
entries-put-other st a zero b v p q h = refl
entries-put-other st a (suc n) b v p q h =
    let i = entries-put-other st (a + 16) n b v (omega arith) q (later h) in
    let x = word-put-other st b v a q p (λ e. first e h) in
    let y = word-put-other st b v (a + 8) q (omega arith) (λ e. second e h) in
    rw (x, y, i)
  where
    later : (b < a) ⊎ (a + 16 * suc n ≤ b) → (b < a + 16) ⊎ (a + 16 + 16 * n ≤ b)
    later (inl k) = inl (omega arith)
    later (inr k) = inr (omega arith)

    first : a ≡ b → (b < a) ⊎ (a + 16 * suc n ≤ b) → ⊥
    first e (inl k) = omega arith
    first e (inr k) = omega arith

    second : a + 8 ≡ b → (b < a) ⊎ (a + 16 * suc n ≤ b) → ⊥
    second e (inl k) = omega arith
    second e (inr k) = omega arith
