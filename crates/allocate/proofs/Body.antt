-- The words of a body, bytes past its end 0; and words touched that hold a body and zeros after it. Assumes nothing.
use Prim.Native.Nat.{ℕ, min, zero, suc, ◌+◌, ◌-◌, ◌*◌, ◌<◌}
use mathlib.Core.Path.{◌≡◌, refl, sym, ap, ◌∙◌}
use mathlib.Core.List.{List, ◌++◌}
use native.Mathlib.Nat.{zero-add}
use native.Mathlib.Decide.{dec_lt}
use native.Mathlib.Omega.{arith}
use lib.ListN.{length, take, drop, get_or, replicate, get_or-eq_default, length-drop, length-replicate}
use lib.Seq.{sets, take-length}
use Rattle.std.proofs.lemmas.List.{get_or-drop}
use Rattle.rules.specs.Words.{field, word}
use Rattle.rules.specs.Staging.{Store, touch_words}
use Rattle.rules.proofs.Zeros.{then-zeros, zeros-at}
use Rattle.rules.proofs.Words.{number-cong, sets-after, sets-in, word-cong}
use Rattle.words.specs.Loaded.{Loaded}
use Rattle.stage.specs.Touched.{Touched, TouchedWords}
use Rattle.stage.proofs.Touched.{touch-words-more, touched-more}

-- ---- a word that the body ends in, or that lies past it

rest_all : (k : ℕ) (l : List ℕ) → take (length l - k) (drop k l) ≡ drop k l
rest_all k l = rw (← (length-drop k l)) (take-length (drop k l))

-- the bytes from a on, as far as there are, laid over zeros
padded-byte : (p : List ℕ) (a k i : ℕ) → length p < a + 8 → k ≡ min a (length p) → i < 8
    → get_or (sets (replicate 8 0) 0 (drop k p)) (0 + i) 0 ≡ get_or p (a + i) 0
padded-byte p a k i h e l = go (dec_lt i (length (drop k p)))
  where
    d : length (drop k p) ≡ length p - k
    d = length-drop k p

    go : Dec (i < length (drop k p)) → get_or (sets (replicate 8 0) 0 (drop k p)) (0 + i) 0 ≡ get_or p (a + i) 0
    go (yes y) =
        let q : k + i ≡ a + i = omega (arith, d) in
        sets-in (replicate 8 0) 0 (drop k p) i (rw length-replicate (omega (arith, d))) y ∙ get_or-drop k p i 0 ∙ ap (λ (x : ℕ). get_or p x 0) q
    go (no n) = rw zero-add (sets-after (replicate 8 0) 0 (drop k p) i (omega arith) ∙ zeros-at 8 i ∙ sym (get_or-eq_default p 0 (omega (arith, d))))

pub loaded-padded : (p : List ℕ) (a k : ℕ) {r : ℕ} → length p < a + 8 → k ≡ min a (length p) → Loaded 8 (sets (replicate 8 0) 0 (take (length p - k) (drop k p))) 0 r → Loaded 8 p a r
unfolding field
loaded-padded p a k h e u' = let u : Loaded 8 (sets (replicate 8 0) 0 (drop k p)) 0 _ = rw (rest_all k p) at u' in record {
  value = u.value ∙ number-cong 8 (λ i. get_or (sets (replicate 8 0) 0 (drop k p)) (0 + i) 0) (λ i. get_or p (a + i) 0) (λ i l. padded-byte p a k i h e l);
  small = u.small;
}

-- one word more is touched
pub touched-word : {st st' st'' : List ℕ} {n m m' k o p a w : ℕ} {ys : List ℕ} → TouchedWords st n k o ys st' m → Loaded 8 ys a w → Touched st' m p w st'' m' → p ≡ o + 8 * k → a ≡ 8 * k
    → TouchedWords st n (k + 1) o ys st'' m'
unfolding word
touched-word {ys = ys} s u t e f = touched-more s e (u.value ∙ ap (word ys) f) t

-- ---- zeros after a body

pub touch-zeros : (k o : ℕ) (ys : List ℕ) (z : ℕ) (es : List Store) → touch_words k o (ys ++ replicate z 0) es ≡ touch_words k o ys es
touch-zeros zero o ys z es = unfold touch_words in refl
touch-zeros (suc k) o ys z es =
    let w : word (ys ++ replicate z 0) (8 * k) ≡ word ys (8 * k) = word-cong (ys ++ replicate z 0) ys (8 * k) (λ i h. then-zeros ys z (8 * k + i)) in
    touch-words-more k o (ys ++ replicate z 0) es ∙ rw (w, touch-zeros k o ys z es) (sym (touch-words-more k o ys es))
