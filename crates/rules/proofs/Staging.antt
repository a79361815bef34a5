-- Laws of staging: the limit of 127 entries (`impossible-count`, `possible-few`), the staged view after words are touched (`lay-touch`,
-- `lay-words`, `lay-range`), and entries kept in order (`Tidy`).
use Prim.Native.Nat.{ℕ, zero, suc, ◌+◌, ◌*◌, ◌/◌, ◌%◌, ◌^◌, ◌≤◌, ◌<◌}
use mathlib.Core.Path.{◌≡◌, refl, sym, ap, ◌∙◌}
use mathlib.Core.Logic.{◌≢◌, ◌⊎◌, inl, inr}
use mathlib.Core.Bool.{Bool, true, false, not}
use mathlib.Core.List.{List, [], ◌∷◌, append_assoc}
use native.Mathlib.Omega.{arith}
use lib.ListN.{length, take, drop, length-drop, take-append-drop}
use lib.Seq.{sets, sets-eq, length-sets, length-take-le, drop-drop}
use lib.Dec.{leb, eqb}
use borrow.Author.Tests.{eqb-true, eqb-false, leb-true, leb-false}
use Rattle.rules.specs.Words.{Bytes, digits, put, word}
use Rattle.rules.specs.Shape.{Shape}
use Rattle.rules.specs.Staging.{Fresh, Phase, Store, Tidy, entries_at, good_targets, impossible, lay, live, past_commit, touch, touch_range, touch_words, word_count, word_from}
use Rattle.rules.proofs.Bool.{split}
use Rattle.rules.proofs.Words.{bytes_drop, bytes-sets, bytes_take, digits-word, length_digits, word_lt}
use Rattle.rules.proofs.Sets.{drop-sets, sets-append, sets-comm, sets-sets, take-sets}

-- ---- up to 127 entries

-- A count of 128 is impossible, whatever staging holds.
pub impossible-count : (sh : Shape) (st : List ℕ) (ph : Phase) → impossible sh st 128 ph ≡ true
unfolding impossible
impossible-count sh st ph = refl

-- A count of 127 is possible with good targets.
pub possible-few : (sh : Shape) (st : List ℕ) → good_targets sh (entries_at st 0 127) ≡ true → impossible sh st 127 live ≡ false
unfolding impossible past_commit
possible-few sh st g = ap not g

-- ---- entries in order

apart : (a b : ℕ) → a % 8 ≡ 0 → b % 8 ≡ 0 → a ≢ b → (a + 8 ≤ b) ⊎ (b + 8 ≤ a)
apart a b p q h = go (leb a b) refl
  where
    go : (x : Bool) → leb a b ≡ x → (a + 8 ≤ b) ⊎ (b + 8 ≤ a)
    go true e = inl (let k : a ≤ b = leb-true a b e in omega arith)
    go false e = inr (let k : b < a = leb-false a b e in omega arith)

-- two stores change places; the later of two at one place counts
put-comm : (l : List ℕ) (a b u v : ℕ) → a % 8 ≡ 0 → b % 8 ≡ 0 → a ≢ b → put (put l a u) b v ≡ put (put l b v) a u
unfolding put
put-comm l a b u v p q h = go (apart a b p q h)
  where
    go : (a + 8 ≤ b) ⊎ (b + 8 ≤ a) → sets (sets l a (digits 8 u)) b (digits 8 v) ≡ sets (sets l b (digits 8 v)) a (digits 8 u)
    go (inl k) = sets-comm l a b (digits 8 u) (digits 8 v) (rw (length_digits 8 u) k)
    go (inr k) = sym (sets-comm l b a (digits 8 v) (digits 8 u) (rw (length_digits 8 v) k))

put-put : (l : List ℕ) (a u v : ℕ) → put (put l a u) a v ≡ put l a v
unfolding put
put-put l a u v = sets-sets l a (digits 8 u) (digits 8 v) (length_digits 8 u ∙ sym (length_digits 8 v))

-- ---- touching one word

lay-fresh : (es : List Store) (bs : List ℕ) (o w : ℕ) → Tidy es → Fresh o es → o % 8 ≡ 0 → lay (put bs o w) es ≡ put (lay bs es) o w
lay-fresh [] bs o w t f p = refl
lay-fresh (x ∷ xs) bs o w t f p =
    ap (λ (z : List ℕ). lay z xs) (put-comm bs o x.at w x.val p t.0 (λ e. f.0 (sym e)))
    ∙ lay-fresh xs (put bs x.at x.val) o w t.3 f.1 p

-- THE LAW OF TOUCH
pub lay-touch : (es : List Store) (bs : List ℕ) (o w : ℕ) → Tidy es → o % 8 ≡ 0 → lay bs (touch o w es) ≡ put (lay bs es) o w
unfolding touch
lay-touch [] bs o w t p = refl
lay-touch (x ∷ xs) bs o w t p =
    split (eqb x.at o)
    (λ e.
    let q : x.at ≡ o = eqb-true x.at o e in
    rw e (sym (sym (lay-fresh xs (put bs x.at x.val) o w t.3 (rw q at t.2) p)
    ∙ ap (λ (z : List ℕ). lay z xs) (rw q (put-put bs o x.val w)))))
    (λ e. rw e (lay-touch xs (put bs x.at x.val) o w t.3 p))

fresh-touch : (es : List Store) (o p w : ℕ) → Fresh p es → o ≢ p → Fresh p (touch o w es)
unfolding touch
fresh-touch [] o p w f h = (h, tt)
fresh-touch (x ∷ xs) o p w f h =
    split (eqb x.at o) (λ e. rw e (h, f.1)) (λ e. rw e (f.0, fresh-touch xs o p w f.1 h))

pub tidy-touch : (es : List Store) (o w : ℕ) → Tidy es → o % 8 ≡ 0 → w < 2 ^ 64 → Tidy (touch o w es)
unfolding touch
tidy-touch [] o w t p l = (p, l, tt, tt)
tidy-touch (x ∷ xs) o w t p l =
    split (eqb x.at o)
    (λ e. rw e (p, l, rw (eqb-true x.at o e) at t.2, t.3))
    (λ e. rw e (t.0, t.1, fresh-touch xs o x.at w t.2 (λ q. eqb-false x.at o e (sym q)), tidy-touch xs o w t.3 p l))

-- ---- whole words

pub lay-words : (n o : ℕ) (ys : List ℕ) (es : List Store) (bs : List ℕ) → Tidy es → o % 8 ≡ 0 → length ys ≡ 8 * n → Bytes ys
    → (lay bs (touch_words n o ys es) ≡ sets (lay bs es) o ys) × Tidy (touch_words n o ys es)
unfolding touch_words put
lay-words zero o [] es bs t p l h = (refl, t)
lay-words zero o (y ∷ ys) es bs t p l h = absurd (omega arith)
lay-words (suc n) o ys es bs t p l h =
    let w : length (take 8 ys) ≡ 8 = length-take-le 8 ys (omega arith) in
    let d : digits 8 (word ys 0) ≡ take 8 ys = digits-word ys h (omega arith) in
    let i = lay-words n (o + 8) (drop 8 ys) (touch o (word ys 0) es) bs (tidy-touch es o (word ys 0) t p (word_lt ys 0 h)) (omega arith) (length-drop 8 ys ∙ omega arith) (bytes_drop 8 ys h) in (
      i.0 ∙ ap (λ (z : List ℕ). sets z (o + 8) (drop 8 ys)) (lay-touch es bs o (word ys 0) t p ∙ ap (λ (z : List ℕ). sets (lay bs es) o z) d)
          ∙ sym (ap (λ (z : List ℕ). sets (lay bs es) o z) (sym (take-append-drop 8 ys)) ∙ sets-append (lay bs es) o (take 8 ys) (drop 8 ys)
          ∙ ap (λ (k : ℕ). sets (sets (lay bs es) o (take 8 ys)) (o + k) (drop 8 ys)) w),
      i.1,
    )

-- bytes that differ only in a range, copied over a wider range
widen : (v w : List ℕ) (a o m : ℕ) (xs : List ℕ) → w ≡ sets v a xs → o ≤ a → a + length xs ≤ o + m → o + m ≤ length v → sets v o (take m (drop o w)) ≡ w
widen v w a o m xs e h1 h2 h3 =
    let lw : length w ≡ length v = ap length e ∙ length-sets v a xs in
    let lt : length (take m (drop o w)) ≡ m = length-take-le m (drop o w) (rw (length-drop o w) (omega arith)) in
    let f : take o v ≡ take o w = sym (ap (λ (z : List ℕ). take o z) e ∙ take-sets o v a xs h1) in
    let g : drop (o + m) v ≡ drop (o + m) w = sym (ap (λ (z : List ℕ). drop (o + m) z) e ∙ drop-sets (o + m) v a xs h2) in
    sets-eq (take m (drop o w)) v o (rw lt h3)
    ∙ rw (lt, f, g) (rw (append_assoc (take o w) (take m (drop o w)) (drop (o + m) w), ← (drop-drop m o w), take-append-drop m (drop o w), take-append-drop o w))

-- THE LAW OF A RANGE: the words that hold it, touched, leave the bytes with that range laid over
pub lay-range : (a : ℕ) (xs : List ℕ) (es : List Store) (bs : List ℕ) → Tidy es → a + length xs ≤ length (lay bs es) → length (lay bs es) % 8 ≡ 0
    → Bytes (lay bs es) → Bytes xs
    → (lay bs (touch_range a (length xs) (sets (lay bs es) a xs) es) ≡ sets (lay bs es) a xs) × Tidy (touch_range a (length xs) (sets (lay bs es) a xs) es)
unfolding touch_range word_from word_count
lay-range a xs es bs t h h8 hv hx =
    let v : List ℕ = lay bs es in
    let w : List ℕ = sets v a xs in
    let m : ℕ = (a % 8 + length xs + 7) / 8 in
    let o : ℕ = a / 8 * 8 in
    let lt : length (take (8 * m) (drop o w)) ≡ 8 * m = length-take-le (8 * m) (drop o w) (rw (length-drop o w, length-sets v a xs) (omega arith)) in
    let hb : Bytes (take (8 * m) (drop o w)) = bytes_take (8 * m) (drop o w) (bytes_drop o w (bytes-sets v a xs hv hx)) in
    let i = lay-words m o (take (8 * m) (drop o w)) es bs t (omega arith) lt hb in
    (i.0 ∙ widen v w a o (8 * m) xs refl (omega arith) (omega arith) (omega arith), i.1)
