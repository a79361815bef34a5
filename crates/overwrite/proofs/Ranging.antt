-- The words that hold a range of bytes, touched one after the other. Assumes nothing.
use Prim.Native.Nat.{ℕ, zero, suc, ◌+◌, ◌-◌, ◌/◌, ◌*◌, ◌%◌, ◌^◌, ◌≤◌, ◌<◌}
use mathlib.Core.Path.{◌≡◌, refl, sym, ap, ◌∙◌}
use mathlib.Core.Logic.{◌⊎◌, inl, inr, ⊎_elim}
use mathlib.Core.List.{List, [], ◌∷◌}
use native.Mathlib.Nat.{add-zero, add-suc, sub-zero}
use native.Mathlib.Omega.{arith}
use lib.ListN.{length, take, drop, set}
use lib.Seq.{sets, drop-drop, drop-set-add, length-take-le, take-take}
use Rattle.rules.specs.Words.{digits, field, put, word}
use Rattle.rules.specs.Staging.{Store, Tidy, touch, touch_range, touch_words, word_count, word_from}
use Rattle.rules.proofs.Words.{field-part, length_digits}
use Rattle.rules.proofs.Sets.{drop-sets, drop-take, part-sets-before}
use Rattle.rules.proofs.Parts.{sets-from}
use Rattle.rules.proofs.Staging.{lay-touch, tidy-touch}
use Rattle.stage.specs.View.{Reads, Staged, entries_of, part, seen}
use Rattle.stage.specs.Touched.{Grown, Room, Touched, added}
use Rattle.stage.proofs.Counted.{fresh-behind, fresh-first}
use Rattle.stage.proofs.Touched.{grown-twice, room-count, room-first, room_next}
use Rattle.overwrite.specs.Range.{RangeFresh, RangeRoom, RangeTouched}
use Rattle.overwrite.proofs.Updated.{rest_all}

take-set : (n : ℕ) (l : List ℕ) (i v : ℕ) → take n (set l i v) ≡ set (take n l) i v
take-set zero l i v = refl
take-set (suc n) [] i v = refl
take-set (suc n) (x ∷ l) zero v = refl
take-set (suc n) (x ∷ l) (suc i) v = ap (λ (y : List ℕ). x ∷ y) (take-set n l i v)

-- a part of bytes laid over is the part, laid over
part-sets : (n b : ℕ) (l : List ℕ) (o : ℕ) (ys : List ℕ) → part n b (sets l (b + o) ys) ≡ sets (part n b l) o ys
unfolding part
part-sets n b l o [] = refl
part-sets n b l o (y ∷ ys) =
    ap (λ (k : ℕ). take n (drop b (sets (set l (b + o) y) k ys))) (sym (add-suc b o)) ∙ part-sets n b (set l (b + o) y) (suc o) ys
    ∙ ap (λ (x : List ℕ). sets x (suc o) ys) (ap (take n) (drop-set-add b l o y) ∙ take-set n (drop b l) o y)

word-part : (l : List ℕ) (o : ℕ) → word (part 8 o l) 0 ≡ word l o
unfolding word part
word-part l o = sym (field-part 8 l o)

-- ---- the words of a range

from-rest : (p : ℕ) → word_from p + p % 8 ≡ p
unfolding word_from
from-rest p = omega arith

count-step : (p m : ℕ) → 0 < m → word_count p m ≡ suc (word_count (word_from p + 8) (m - (8 - p % 8)))
unfolding word_count word_from
count-step p m h = omega arith

from_step : (p : ℕ) → word_from (word_from p + 8) ≡ word_from p + 8
unfolding word_from
from_step p = omega arith

words-first : (n o : ℕ) (bs : List ℕ) (es : List Store)
    → touch_words (suc n) o (take (8 * suc n) (drop o bs)) es ≡ touch_words n (o + 8) (take (8 * n) (drop (o + 8) bs)) (touch o (word bs o) es)
unfolding touch_words word
words-first n o bs es =
    let e : 8 * suc n ≡ 8 + 8 * n = omega arith in
    let d : drop 8 (take (8 * suc n) (drop o bs)) ≡ take (8 * n) (drop (o + 8) bs) =
    ap (λ (k : ℕ). drop 8 (take k (drop o bs))) e ∙ drop-take 8 (8 * n) (drop o bs) ∙ ap (take (8 * n)) (drop-drop 8 o bs) in
    let w : field 8 (take (8 * suc n) (drop o bs)) 0 ≡ field 8 bs o =
    field-part 8 (take (8 * suc n) (drop o bs)) 0 ∙ ap (λ (x : List ℕ). field 8 x 0) (take-take 8 (8 * suc n) (drop o bs) (omega arith)) ∙ sym (field-part 8 bs o) in
    rw (d, w)

range-step : (p m : ℕ) (bs : List ℕ) (es : List Store) → 0 < m
    → touch_range p m bs es ≡ touch_range (word_from p + 8) (m - (8 - p % 8)) bs (touch (word_from p) (word bs (word_from p)) es)
unfolding touch_range
range-step p m bs es h = rw (count-step p m h, from_step p) (words-first (word_count (word_from p + 8) (m - (8 - p % 8))) (word_from p) bs es)

range-end : (p : ℕ) (bs : List ℕ) (es : List Store) → p % 8 ≡ 0 → touch_range p 0 bs es ≡ es
unfolding touch_range word_count touch_words
range-end p bs es h = let e : (p % 8 + 0 + 7) / 8 ≡ 0 = omega arith in rw e

-- ---- the loop over the words: the bytes from i on to go

pub record Ranging (pool st₀ : List ℕ) (n₀ at : ℕ) (xs st : List ℕ) (m i : ℕ) : Type 0 where
  pub rest : touch_range (at + i) (length xs - i) (sets (seen pool st₀ n₀) at xs) (entries_of st m) ≡ touch_range at (length xs) (sets (seen pool st₀ n₀) at xs) (entries_of st₀ n₀)
  pub grown : Grown st₀ n₀ st m
  pub room : Room st m (word_count (at + i) (length xs - i)) (word_from (at + i))
  pub tidy : Tidy (entries_of st m)
  pub view : drop (word_from (at + i)) (seen pool st m) ≡ drop (word_from (at + i)) (seen pool st₀ n₀)
  pub whole : (i ≡ 0) ⊎ ((at + i) % 8 ≡ 0)

pub ranging-start : {pool st : List ℕ} {n at : ℕ} (xs : List ℕ) → Staged pool st n → RangeRoom pool st n at (length xs) → Ranging pool st n at xs st n 0
ranging-start {pool} {st} {n} {at} xs s r =
    record {
      rest = rw (add-zero at, sub-zero (length xs));
      grown = record { rest = refl; long = refl; least = omega arith };
      room = rw (add-zero at, sub-zero (length xs)) r.room;
      tidy = s.tidy;
      view = refl;
      whole = inl refl;
    }

-- the word with the bytes laid over it is that of the whole range laid over
laid_word : {u : List ℕ} (v xs : List ℕ) (at i : ℕ) {r w : ℕ} → i < length xs → (i ≡ 0) ⊎ ((at + i) % 8 ≡ 0) → drop (word_from (at + i)) u ≡ drop (word_from (at + i)) v
    → Reads u (word_from (at + i)) r → w ≡ word (sets (digits 8 r) ((at + i) % 8) (drop i xs)) 0 → word (sets v at xs) (word_from (at + i)) ≡ w
laid_word {u} v xs at i {r} {w} h z e d q =
    let o : ℕ = word_from (at + i) in
    let s : ℕ = (at + i) % 8 in
    let y : List ℕ = sets v at (take i xs) in
    let a : o + s ≡ at + i = from-rest (at + i) in
    let b : digits 8 r ≡ part 8 o y = d.bytes ∙ unfold part in (ap (take 8) e ∙ sym (⊎_elim before after z)) in
    sym (q ∙ ap (λ (x : List ℕ). word (sets x s (drop i xs)) 0) b ∙ ap (λ (x : List ℕ). word x 0) (sym (part-sets 8 o y s (drop i xs))) ∙ word-part (sets y (o + s) (drop i xs)) o
    ∙ ap (λ (x : List ℕ). word x o) (ap (λ (k : ℕ). sets y k (drop i xs)) a ∙ sym (sets-from v at i xs (omega arith))))
  where
    before : i ≡ 0 → take 8 (drop (word_from (at + i)) (sets v at (take i xs))) ≡ take 8 (drop (word_from (at + i)) v)
    before f = rw f

    after : (at + i) % 8 ≡ 0 → take 8 (drop (word_from (at + i)) (sets v at (take i xs))) ≡ take 8 (drop (word_from (at + i)) v)
    after f = part-sets-before v (word_from (at + i)) 8 at (take i xs) (rw (length-take-le i xs (omega arith)) (omega (arith, from-rest (at + i))))

pub seen-touched : (pool : List ℕ) {st st' : List ℕ} {n m o w : ℕ} → Tidy (entries_of st n) → o % 8 ≡ 0 → Touched st n o w st' m → seen pool st' m ≡ put (seen pool st n) o w
unfolding seen
seen-touched pool {st} {n = n} {o = o} {w = w} t p d = rw d.entries (lay-touch (entries_of st n) pool o w t p)

from-even : (p : ℕ) → word_from p % 8 ≡ 0
unfolding word_from
from-even p = omega arith

pub ranging-step : {pool st₀ : List ℕ} {n₀ at : ℕ} {xs st st' : List ℕ} {m m' i r w : ℕ} → Ranging pool st₀ n₀ at xs st m i → i < length xs → w < 2 ^ 64
    → Reads (seen pool st m) ((at + i) / 8 * 8) r → w ≡ word (sets (digits 8 r) ((at + i) % 8) (take (length xs - i) (drop i xs))) 0 → Touched st m ((at + i) / 8 * 8) w st' m'
    → Ranging pool st₀ n₀ at xs st' m' (i + (8 - (at + i) % 8))
ranging-step {pool} {st₀} {n₀} {at} {xs} {st} {st'} {m} {m'} {i} {r} {w} f h l d q t =
    let p : ℕ = at + i in
    let o : ℕ = word_from p in
    let bs : List ℕ = sets (seen pool st₀ n₀) at xs in
    let a : at + (i + (8 - p % 8)) ≡ o + 8 = omega (arith, from-rest p) in
    let b : length xs - (i + (8 - p % 8)) ≡ length xs - i - (8 - p % 8) = omega arith in
    let k : 0 < length xs - i = omega arith in
    let d' : Reads (seen pool st m) o r = unfold word_from in d in
    let y : word bs o ≡ w = laid_word (seen pool st₀ n₀) xs at i h f.whole f.view d' (rw (rest_all i xs) at q) in
    let t' : Touched st m o w st' m' = unfold word_from in t in
    let z : drop (o + 8) (seen pool st' m') ≡ drop (o + 8) (seen pool st m) =
    ap (drop (o + 8)) (seen-touched pool f.tidy (from-even p) t') ∙ unfold put in (drop-sets (o + 8) (seen pool st m) o (digits 8 w) (rw (length_digits 8 w) (omega arith))) in
    record {
      rest = rw (a, b, t'.entries, ← y) (sym (range-step p (length xs - i) bs (entries_of st m) k) ∙ f.rest);
      grown = grown-twice f.grown t'.grown;
      room = rw (a, b, from_step p) (room_next (rw (count-step p (length xs - i) k) at f.room) t');
      tidy = rw t'.entries (tidy-touch (entries_of st m) o w f.tidy (from-even p) l);
      view = rw (a, from_step p) (z ∙ sym (drop-drop 8 o (seen pool st m)) ∙ ap (drop 8) f.view ∙ drop-drop 8 o (seen pool st₀ n₀));
      whole = inr (omega (arith, from-even p));
    }

-- ---- no entry for any word of the range

pub fresh_start : {st : List ℕ} {n at k : ℕ} → RangeFresh st n at k → RangeFresh st n (at + 0) (k - 0)
fresh_start {at = at} {k} f = rw (add-zero at, sub-zero k) f

pub fresh-word : (at : ℕ) {st : List ℕ} {n k i : ℕ} → RangeFresh st n (at + i) (k - i) → i < k → added ((at + i) / 8 * 8) (entries_of st n) ≡ 1
fresh-word at {st} {n} {k} {i} f h =
    let c : ℕ = word_count (word_from (at + i) + 8) (k - i - (8 - (at + i) % 8)) in
    unfold word_from in (fresh-first c ((at + i) / 8 * 8) (entries_of st n) (rw (count-step (at + i) (k - i) (omega arith)) at f.all))

pub fresh-rest : (at : ℕ) {st st' : List ℕ} {n m k i w : ℕ} → RangeFresh st n (at + i) (k - i) → i < k → Touched st n ((at + i) / 8 * 8) w st' m
    → RangeFresh st' m (at + (i + (8 - (at + i) % 8))) (k - (i + (8 - (at + i) % 8)))
fresh-rest at {st} {st'} {n} {m} {k} {i} {w} f h t =
    let p : ℕ = at + i in
    let a : at + (i + (8 - p % 8)) ≡ word_from p + 8 = omega (arith, from-rest p) in
    let b : k - (i + (8 - p % 8)) ≡ k - i - (8 - p % 8) = omega arith in
    let t' : Touched st n (word_from p) w st' m = unfold word_from in t in
    rw (a, b) (record { all = rw (from_step p) (fresh-behind (rw (count-step p (k - i) (omega arith)) at f.all) t') })

pub ranging-room : {pool st₀ : List ℕ} {n₀ at : ℕ} {xs st : List ℕ} {m i : ℕ} → Ranging pool st₀ n₀ at xs st m i → i < length xs → Room st m 1 ((at + i) / 8 * 8)
ranging-room {at = at} {xs = xs} {i = i} f h = unfold word_from in (room-first (rw (count-step (at + i) (length xs - i) (omega arith)) at f.room))

pub ranging-staged : {pool st₀ : List ℕ} {n₀ at : ℕ} {xs st : List ℕ} {m i : ℕ} → Staged pool st₀ n₀ → Ranging pool st₀ n₀ at xs st m i → Staged pool st m
ranging-staged s f = record { room = room-count f.room; tidy = f.tidy; words = s.words }

pub ranging-end : {pool st₀ : List ℕ} {n₀ at : ℕ} {xs st : List ℕ} {m i : ℕ} → Ranging pool st₀ n₀ at xs st m i → 1 ≤ length xs → length xs ≤ i → RangeTouched pool st₀ n₀ at xs st m
ranging-end {pool} {st₀} {n₀} {at} {xs} {st} {m} {i} f k h =
    let e : length xs - i ≡ 0 = omega arith in
    let z : (at + i) % 8 ≡ 0 = ⊎_elim (λ q. absurd (omega arith)) (λ q. q) f.whole in
    record {
      entries = sym (range-end (at + i) (sets (seen pool st₀ n₀) at xs) (entries_of st m) z) ∙ (rw e at f.rest);
      grown = f.grown;
    }
