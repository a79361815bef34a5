-- Words touched in a row, in two parts: what they hold, how many have no entry yet, and room for them. Assumes nothing.
use Prim.Native.Nat.{ℕ, zero, suc, ◌+◌, ◌-◌, ◌*◌, ◌≤◌, ◌<◌}
use mathlib.Core.Path.{◌≡◌, refl, sym, ap, ◌∙◌}
use mathlib.Core.List.{List, [], ◌∷◌, ◌++◌}
use native.Mathlib.Nat.{add-zero, zero-add, suc-add}
use native.Mathlib.Omega.{arith}
use lib.ListN.{length, drop, length-drop, get_or-append}
use lib.Seq.{drop-append-le}
use Rattle.rules.specs.Words.{word}
use Rattle.rules.specs.Staging.{Store, touch, touch_words}
use Rattle.rules.proofs.Words.{word-cong}
use Rattle.stage.specs.View.{entries_of}
use Rattle.stage.specs.Touched.{Room, TouchedWords, missing}
use Rattle.stage.proofs.Counted.{missing-append}
use Rattle.stage.proofs.Entries.{length-entries}
use Rattle.stage.proofs.Touched.{grown-twice, length-words, missing-words}

touch-append : (k j o : ℕ) (xs ys : List ℕ) (es : List Store) → length xs ≡ 8 * k → touch_words (k + j) o (xs ++ ys) es ≡ touch_words j (o + 8 * k) ys (touch_words k o xs es)
unfolding touch_words
touch-append zero j o [] ys es h = rw (zero-add j, add-zero o)
touch-append zero j o (x ∷ xs) ys es h = absurd (omega arith)
touch-append (suc k) j o xs ys es h =
    let w : word (xs ++ ys) 0 ≡ word xs 0 = word-cong (xs ++ ys) xs 0 (λ i l. get_or-append xs ys 0 (0 + i) (omega arith)) in
    let e : o + 8 + 8 * k ≡ o + 8 * suc k = omega arith in
    rw (suc-add k j, touch_words, w, drop-append-le 8 xs ys (omega arith), touch-append k j (o + 8) (drop 8 xs) ys (touch o (word xs 0) es) (length-drop 8 xs ∙ omega arith), e)

-- ---- in staging memory

pub touched-append : {st st' st'' : List ℕ} {n m m' k j o p : ℕ} {xs ys : List ℕ} → length xs ≡ 8 * k → TouchedWords st n k o xs st' m → p ≡ o + 8 * k → TouchedWords st' m j p ys st'' m'
    → TouchedWords st n (k + j) o (xs ++ ys) st'' m'
touched-append {st} {n = n} {k = k} {j} {o} {xs = xs} {ys} l s e t = record {
  entries = t.entries ∙ rw (e, s.entries) (sym (touch-append k j o xs ys (entries_of st n) l));
  grown = grown-twice s.grown t.grown;
  most = omega (arith, s.most, t.most);
}

pub room-part : {st : List ℕ} {n o : ℕ} (k j : ℕ) → Room st n (k + j) o → Room st n k o
room-part {st} {n} {o} k j r = record { held = omega (arith, r.held, missing-append k j o (entries_of st n)) }

-- behind k words
pub room-behind : {st st' : List ℕ} {n m k j o p : ℕ} {ys : List ℕ} → Room st n (k + j) o → TouchedWords st n k o ys st' m → p ≡ o + 8 * k → Room st' m j p
room-behind {st} {st'} {n} {m} {k} {j} {o} {p} {ys} r t e =
    let a : m ≡ n + missing k o (entries_of st n) =
    sym (length-entries st' m) ∙ ap length t.entries ∙ length-words k o ys (entries_of st n) ∙ ap (λ (x : ℕ). x + missing k o (entries_of st n)) (length-entries st n) in
    let b : missing j p (entries_of st' m) ≡ missing j (o + 8 * k) (entries_of st n) = rw (t.entries, e) (missing-words k o ys (entries_of st n) j (o + 8 * k) (omega arith)) in
    record { held = rw (t.grown.long, b) (omega (arith, r.held, missing-append k j o (entries_of st n))) }

-- ---- words behind them of which none has an entry yet

pub fresh-after : {st st' : List ℕ} {n m k o : ℕ} {ys : List ℕ} (j p : ℕ) → missing j p (entries_of st n) ≡ j → TouchedWords st n k o ys st' m → o + 8 * k ≤ p → missing j p (entries_of st' m) ≡ j
fresh-after {st} {n = n} {k = k} {o} {ys = ys} j p e t h = rw (t.entries, missing-words k o ys (entries_of st n) j p h) e

-- ---- one word more, of k

pub room_within : {st st' : List ℕ} {n m k i o : ℕ} {ys : List ℕ} → Room st n k o → i < k → TouchedWords st n i o ys st' m → Room st' m 1 (o + 8 * i)
room_within {k = k} {i} {o} r h t =
    let e : k ≡ i + (1 + (k - i - 1)) = omega arith in
    room-part 1 (k - i - 1) (room-behind (rw e at r) t refl)
