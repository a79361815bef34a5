-- Words touched in staging memory: one that has an entry (`touched-old`), one that has none (`touched-new`), words in a row
-- (`touched_none`, `touched-more`), how many entries stand there then (`length-words`), and room for them (`room_next`). Assumes nothing.
use Prim.Native.Nat.{ℕ, zero, suc, ◌+◌, ◌-◌, ◌*◌, ◌%◌, ◌^◌, ◌≤◌, ◌<◌}
use mathlib.Core.Path.{◌≡◌, refl, sym, subst, ap, ap₂, ◌∙◌}
use mathlib.Core.Logic.{inl, inr}
use mathlib.Core.List.{List, [], ◌∷◌, ◌++◌}
use native.Mathlib.Nat.{add-zero, zero-add}
use native.Mathlib.Numerals.{add-one}
use native.Mathlib.Omega.{arith}
use lib.ListN.{length, drop, get_or}
use lib.Seq.{drop_at, drop-drop, get_or-drop, take-append-le}
use lib.Dec.{eqb}
use borrow.Author.Tests.{eqb-true, ne_eqb}
use Rattle.rules.specs.Words.{digits, field, put, word}
use Rattle.rules.specs.Staging.{Store, entries_at, touch, touch_words}
use Rattle.rules.proofs.Bool.{split}
use Rattle.rules.proofs.Words.{field-part, length_digits, length-put, number-cong, number_digits, word-put, word-put-other}
use Rattle.rules.proofs.Sets.{drop-sets}
use Rattle.stage.specs.View.{entries_of}
use Rattle.stage.specs.Touched.{Grown, Room, Slot, Touched, TouchedWords, added, missing, slot}
use Rattle.stage.proofs.Entries.{entries-more, entries-put-other, length-entries, touch-fresh}

drop-put : (m : ℕ) (p : List ℕ) (a w : ℕ) → a + 8 ≤ m → drop m (put p a w) ≡ drop m p
unfolding put
drop-put m p a w h = drop-sets m p a (digits 8 w) (rw (length_digits 8 w) h)

-- the word of an entry is stored over
entries-found : (n : ℕ) (st : List ℕ) (a o w : ℕ) → a % 8 ≡ 0 → a + 16 * n ≤ length st → w < 2 ^ 64 → slot o (entries_at st a n) < n
    → entries_at (put st (a + (16 * slot o (entries_at st a n) + 8)) w) a n ≡ touch o w (entries_at st a n)
unfolding slot touch
entries-found zero st a o w p h l k = absurd (omega arith)
entries-found (suc n) st a o w p h l k =
    split (eqb (word st a) o)
    (λ y.
    let z : slot o (entries_at st a (suc n)) ≡ 0 = rw y refl in
    let x : word (put st (a + 8) w) a ≡ o = word-put-other st (a + 8) w a (omega arith) p (λ e. omega arith) ∙ eqb-true (word st a) o y in
    subst (λ (k : ℕ). entries_at (put st (a + (16 * k + 8)) w) a (suc n) ≡ touch o w (entries_at st a (suc n))) (sym z)
    (rw (y, x, word-put st (a + 8) w (omega arith) l, entries-put-other st (a + 16) n (a + 8) w (omega arith) (omega arith) (inl (omega arith)))))
    (λ y.
    let j : ℕ = slot o (entries_at st (a + 16) n) in
    let k' = rw y at k in
    let m : a + (16 * suc j + 8) ≡ a + 16 + (16 * j + 8) = omega arith in
    let b : ℕ = a + 16 + (16 * j + 8) in
    let z : slot o (entries_at st a (suc n)) ≡ suc j = rw y refl in
    subst (λ (i : ℕ). entries_at (put st i w) a (suc n) ≡ touch o w (entries_at st a (suc n))) (sym (ap (λ (k : ℕ). a + (16 * k + 8)) z ∙ m))
    (rw (
      y,
      word-put-other st b w a (omega arith) p (λ e. omega arith),
      word-put-other st b w (a + 8) (omega arith) (omega arith) (λ e. omega arith),
      entries-found n st (a + 16) o w (omega arith) (omega arith) l (omega arith),
    )))

pub touched-old : {st st' : List ℕ} {n o i w : ℕ} → 16 * n ≤ length st → w < 2 ^ 64 → Slot st n o i → i < n → st' ≡ put st (16 * i + 8) w
    → Touched st n o w st' n
unfolding entries_of
touched-old {st} {st'} {n} {o} {i} {w} h l e k q =
    let f : entries_at (put st (16 * i + 8) w) 0 n ≡ touch o w (entries_at st 0 n) =
    ap (λ (b : ℕ). entries_at (put st b w) 0 n) (sym (zero-add (16 * i + 8))) ∙ rw e.place (entries-found n st 0 o w refl (omega arith) l (rw e.place at k)) in
    record {
      entries = rw q f;
      grown = record { rest = rw q (drop-put (16 * n) st (16 * i + 8) w (omega arith)); long = rw q (length-put st (16 * i + 8) w); least = omega arith };
      most = omega arith;
    }

pub touched-new : {st st' st'' : List ℕ} {n o w : ℕ} → 16 * (n + 1) ≤ length st → o < 2 ^ 64 → w < 2 ^ 64 → added o (entries_of st n) ≡ 1
    → st' ≡ put st (16 * n) o → st'' ≡ put st' (16 * n + 8) w → Touched st n o w st'' (n + 1)
unfolding entries_of
touched-new {st} {st'} {st''} {n} {o} {w} h lo lw e p q =
    let f : st'' ≡ put (put st (16 * n) o) (16 * n + 8) w = q ∙ ap (λ (x : List ℕ). put x (16 * n + 8) w) p in
    let a : entries_at (put (put st (16 * n) o) (16 * n + 8) w) 0 n ≡ entries_at st 0 n =
    entries-put-other (put st (16 * n) o) 0 n (16 * n + 8) w refl (omega arith) (inr (omega arith)) ∙ entries-put-other st 0 n (16 * n) o refl (omega arith) (inr (omega arith)) in
    let x : word (put (put st (16 * n) o) (16 * n + 8) w) (16 * n) ≡ o =
    word-put-other (put st (16 * n) o) (16 * n + 8) w (16 * n) (omega arith) (omega arith) (λ z. omega arith) ∙ word-put st (16 * n) o (omega arith) lo in
    let y : word (put (put st (16 * n) o) (16 * n + 8) w) (16 * n + 8) ≡ w = word-put (put st (16 * n) o) (16 * n + 8) w (rw length-put (omega arith)) lw in
    record {
      entries = rw (f, add-one n, entries-more (put (put st (16 * n) o) (16 * n + 8) w) 0 n, a, zero-add (16 * n), x, y)
          (sym (touch-fresh o w (entries_at st 0 n) e));
      grown = record {
        rest = rw f (drop-put (16 * (n + 1)) (put st (16 * n) o) (16 * n + 8) w (omega arith) ∙ drop-put (16 * (n + 1)) st (16 * n) o (omega arith));
        long = rw f (length-put (put st (16 * n) o) (16 * n + 8) w ∙ length-put st (16 * n) o);
        least = omega arith;
      };
      most = omega arith;
    }

-- ---- words in a row

word-drop : (d : ℕ) (p : List ℕ) (a : ℕ) → word (drop d p) a ≡ word p (d + a)
unfolding word field
word-drop d p a = number-cong 8 (λ i. get_or (drop d p) (a + i) 0) (λ i. get_or p (d + a + i) 0) (λ i h. get_or-drop d p (a + i) 0 ∙ ap (λ (j : ℕ). get_or p j 0) (omega arith))

pub touch-words-more : (k o : ℕ) (ys : List ℕ) (es : List Store) → touch_words (suc k) o ys es ≡ touch (o + 8 * k) (word ys (8 * k)) (touch_words k o ys es)
unfolding touch_words
touch-words-more zero o ys es = rw (add-zero o)
touch-words-more (suc k) o ys es =
    let e : o + 8 + 8 * k ≡ o + 8 * suc k = omega arith in
    let f : 8 + 8 * k ≡ 8 * suc k = omega arith in
    rw (touch-words-more k (o + 8) (drop 8 ys) (touch o (word ys 0) es), e, word-drop 8 ys (8 * k), f)

pub grown-twice : {st st' st'' : List ℕ} {n m m' : ℕ} → Grown st n st' m → Grown st' m st'' m' → Grown st n st'' m'
grown-twice {st} {st'} {st''} {n} {m} {m'} s t =
    let d : 16 * m' ≡ 16 * m + 16 * (m' - m) = omega (arith, t.least) in
    let r : drop (16 * m') st' ≡ drop (16 * m') st =
    rw d (sym (drop-drop (16 * (m' - m)) (16 * m) st') ∙ ap (drop (16 * (m' - m))) s.rest ∙ drop-drop (16 * (m' - m)) (16 * m) st) in
    record { rest = t.rest ∙ r; long = t.long ∙ s.long; least = omega (arith, s.least, t.least) }

pub touched_none : (st : List ℕ) (n o : ℕ) (ys : List ℕ) → TouchedWords st n 0 o ys st n
unfolding touch_words
touched_none st n o ys = record { entries = refl; grown = record { rest = refl; long = refl; least = omega arith }; most = omega arith }

-- one word more
pub touched-more : {st st' st'' : List ℕ} {n m m' k o p w : ℕ} {ys : List ℕ} → TouchedWords st n k o ys st' m → p ≡ o + 8 * k → w ≡ word ys (8 * k) → Touched st' m p w st'' m'
    → TouchedWords st n (k + 1) o ys st'' m'
touched-more {st} {n = n} {k = k} {o = o} {ys = ys} s e f t =
    record {
      entries = t.entries ∙ rw (add-one k, e, f, s.entries) (sym (touch-words-more k o ys (entries_of st n)));
      grown = grown-twice s.grown t.grown;
      most = omega (arith, s.most, t.most);
    }

-- both words of a head
word-front : (xs ys : List ℕ) → length xs ≡ 8 → word (xs ++ ys) 0 ≡ word xs 0
unfolding word
word-front xs ys h = field-part 8 (xs ++ ys) 0 ∙ rw (take-append-le 8 xs ys (omega arith)) (sym (field-part 8 xs 0))

pub digits-read : (w : ℕ) → w < 2 ^ 64 → word (digits 8 w) 0 ≡ w
unfolding word field
digits-read w h = number-cong 8 (λ i. get_or (digits 8 w) (0 + i) 0) (λ i. get_or (digits 8 w) i 0) (λ i k. ap (λ (j : ℕ). get_or (digits 8 w) j 0) (zero-add i)) ∙ number_digits 8 w h

pub touched-head : {st st' st'' : List ℕ} {n m m' o a b : ℕ} → a < 2 ^ 64 → b < 2 ^ 64 → Touched st n o a st' m → Touched st' m (o + 8) b st'' m'
    → TouchedWords st n 2 o (digits 8 a ++ digits 8 b) st'' m'
touched-head {st} {n = n} {o = o} {a} {b} ha hb s t =
    let ys : List ℕ = digits 8 a ++ digits 8 b in
    let x : a ≡ word ys 0 = sym (word-front (digits 8 a) (digits 8 b) (length_digits 8 a) ∙ digits-read a ha) in
    let y : b ≡ word ys 8 =
    sym (sym (word-drop 8 ys 0) ∙ rw (drop_at (digits 8 a) (digits 8 b) 8 (length_digits 8 a)) (digits-read b hb)) in
    touched-more (touched-more (touched_none st n o ys) (sym (add-zero o)) x s) refl y t

-- ---- how many entries a touch adds

length-touch : (o w : ℕ) (es : List Store) → length (touch o w es) ≡ length es + added o es
unfolding touch added
length-touch o w [] = refl
length-touch o w (x ∷ xs) = split (eqb x.at o) (λ e. rw e (omega arith)) (λ e. rw e (let i = length-touch o w xs in omega arith))

added-touch : (o p w : ℕ) (es : List Store) → o < p → added p (touch o w es) ≡ added p es
unfolding touch added
added-touch o p w [] h = rw (ne_eqb o p (λ e. omega arith))
added-touch o p w (x ∷ xs) h =
    split (eqb x.at o)
    (λ e. let q : x.at ≡ o = eqb-true x.at o e in rw (e, q, ne_eqb o p (λ e. omega arith)))
    (λ e. rw (e, added-touch o p w xs h))

pub missing-touch : (n o p w : ℕ) (es : List Store) → o < p → missing n p (touch o w es) ≡ missing n p es
unfolding missing
missing-touch zero o p w es h = refl
missing-touch (suc n) o p w es h = ap₂ ◌+◌ (added-touch o p w es h) (missing-touch n o (p + 8) w es (omega arith))

-- words behind those that are touched
pub missing-words : (k o : ℕ) (ys : List ℕ) (es : List Store) (n p : ℕ) → o + 8 * k ≤ p → missing n p (touch_words k o ys es) ≡ missing n p es
unfolding touch_words
missing-words zero o ys es n p h = refl
missing-words (suc k) o ys es n p h =
    missing-words k (o + 8) (drop 8 ys) (touch o (word ys 0) es) n p (omega arith) ∙ missing-touch n o p (word ys 0) es (omega arith)

-- 27 is decided before any store: so many entries stand there after the words are touched
pub length-words : (n o : ℕ) (ys : List ℕ) (es : List Store) → length (touch_words n o ys es) ≡ length es + missing n o es
unfolding touch_words missing
length-words zero o ys es = sym (add-zero (length es))
length-words (suc n) o ys es =
    let a = length-words n (o + 8) (drop 8 ys) (touch o (word ys 0) es) in
    let b = length-touch o (word ys 0) es in
    let d = missing-touch n o (o + 8) (word ys 0) es (omega arith) in
    omega arith

added-fresh : (o : ℕ) (es : List Store) → length es ≤ slot o es → added o es ≡ 1
unfolding slot added
added-fresh o [] h = refl
added-fresh o (x ∷ xs) h =
    split (eqb x.at o) (λ e. absurd (let k = rw e at h in omega arith)) (λ e. rw e (added-fresh o xs (let k = rw e at h in omega arith)))

pub added-one : {st : List ℕ} {n o i : ℕ} → Slot st n o i → n ≤ i → added o (entries_of st n) ≡ 1
added-one {st} {n} {o} e h = added-fresh o (entries_of st n) (rw (length-entries st n, ← e.place) h)

-- ---- room for words that are touched

pub room-count : {st : List ℕ} {n k o : ℕ} → Room st n k o → 16 * n ≤ length st
room-count r = let h = r.held in omega arith

pub room-new : {st : List ℕ} {n k o i : ℕ} → Room st n (suc k) o → Slot st n o i → n ≤ i → 16 * (n + 1) ≤ length st
unfolding missing
room-new r e h = let a = added-one e h in let l = r.held in omega arith

pub room-first : {st : List ℕ} {n k o : ℕ} → Room st n (suc k) o → Room st n 1 o
unfolding missing
room-first r = record { held = let l = r.held in omega arith }

-- behind the first word
pub room_next : {st st' : List ℕ} {n m k o w : ℕ} → Room st n (suc k) o → Touched st n o w st' m → Room st' m k (o + 8)
unfolding missing
room_next {st} {st'} {n} {m} {k} {o} {w} r t =
    let a : m ≡ n + added o (entries_of st n) =
    sym (length-entries st' m) ∙ ap length t.entries ∙ length-touch o w (entries_of st n) ∙ ap (λ (x : ℕ). x + added o (entries_of st n)) (length-entries st n) in
    let b : missing k (o + 8) (entries_of st' m) ≡ missing k (o + 8) (entries_of st n) = rw t.entries (missing-touch k o (o + 8) w (entries_of st n) (omega arith)) in
    record { held = rw (t.grown.long, b) (let l = r.held in omega arith) }

pub room-fresh : {st : List ℕ} {n o : ℕ} → Room st n 1 o → added o (entries_of st n) ≡ 1 → 16 * (n + 1) ≤ length st
unfolding missing
room-fresh r e = let l = r.held in omega arith
