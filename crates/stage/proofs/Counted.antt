-- Words in a row that have no entry yet: counted one after the other (`missing-append`, `missing-more`), and all of them without one
-- (`fresh_at`, `fresh-next`). Assumes nothing.
use Prim.Native.Nat.{ℕ, zero, suc, ◌+◌, ◌*◌, ◌≤◌, ◌<◌}
use mathlib.Core.Path.{◌≡◌, refl, sym, ap, ◌∙◌}
use mathlib.Core.List.{List, [], ◌∷◌}
use native.Mathlib.Nat.{add-zero, suc-add, zero-add}
use native.Mathlib.Omega.{arith}
use lib.ListN.{length}
use lib.Dec.{eqb}
use borrow.Author.Tests.{eqb-true, eqb-false}
use Rattle.std.specs.List.{filter, range_with_len}
use Rattle.std.specs.Option.{is_none}
use Rattle.std.specs.Prelude.{Option, Some, None}
use Rattle.rules.specs.Staging.{Store}
use Rattle.rules.proofs.Bool.{split}
use Rattle.stage.specs.View.{entries_of}
use Rattle.stage.specs.Touched.{Placed, Slot, Touched, TouchedWords, added, missing, slot}
use Rattle.stage.proofs.Entries.{length-entries}
use Rattle.stage.proofs.Touched.{added-one, missing-touch, missing-words}

-- ---- words counted one after the other

pub missing-append : (k j o : ℕ) (es : List Store) → missing (k + j) o es ≡ missing k o es + missing j (o + 8 * k) es
unfolding missing
missing-append zero j o es = rw (zero-add j, add-zero o) (sym (zero-add (missing j o es)))
missing-append (suc k) j o es =
    let e : o + 8 + 8 * k ≡ o + 8 * suc k = omega arith in
    rw (suc-add k j, missing, missing-append k j (o + 8) es, e) (omega arith)

added-found : (o : ℕ) (es : List Store) → slot o es < length es → 0 ≡ added o es
unfolding slot added
added-found o [] h = absurd (omega arith)
added-found o (x ∷ xs) h = split (eqb x.at o) (λ e. rw e) (λ e. rw e (added-found o xs (let k = rw e at h in omega arith)))

pub added_none : {st : List ℕ} {n o i : ℕ} → Slot st n o i → i < n → 0 ≡ added o (entries_of st n)
added_none {st} {n} {o} e h = added-found o (entries_of st n) (rw (length-entries st n, ← e.place) h)

added-most : (o : ℕ) (es : List Store) → added o es ≤ 1
unfolding added
added-most o [] = omega arith
added-most o (x ∷ xs) = split (eqb x.at o) (λ e. rw e (omega arith)) (λ e. rw e (added-most o xs))

-- whether it has one
pub fresh-told : (st : List ℕ) (n o : ℕ) (r : Option ℕ) → Placed st n o r → is_none r ≡ eqb (added o (entries_of st n)) 1
fresh-told st n o (Some i) p = ap (λ (k : ℕ). eqb k 1) (added_none p.0 p.1)
fresh-told st n o None p = ap (λ (k : ℕ). eqb k 1) (sym (added-one p (omega arith)))

count-from : (n k o : ℕ) (es : List Store) → length (filter (λ i. eqb (added (o + 8 * i) es) 1) (range_with_len k n)) ≡ missing n (o + 8 * k) es
unfolding missing
count-from zero k o es = refl
count-from (suc n) k o es =
    let m : o + 8 * k + 8 ≡ o + 8 * (k + 1) = omega arith in
    let a = added-most (o + 8 * k) es in
    let i = count-from n (k + 1) o es in
    split (eqb (added (o + 8 * k) es) 1)
    (λ e. let q = eqb-true (added (o + 8 * k) es) 1 e in rw (e, m) (omega arith))
    (λ e. let q = eqb-false (added (o + 8 * k) es) 1 e in rw (e, m) (omega arith))

pub count-fresh : (n o : ℕ) (es : List Store) → length (filter (λ i. eqb (added (o + 8 * i) es) 1) (range_with_len 0 n)) ≡ missing n o es
count-fresh n o es = count-from n 0 o es ∙ ap (λ (k : ℕ). missing n k es) (omega arith)

-- ---- words of which none has an entry

pub missing-most : (n o : ℕ) (es : List Store) → missing n o es ≤ n
unfolding missing
missing-most zero o es = omega arith
missing-most (suc n) o es = let i = missing-most n (o + 8) es in let a = added-most o es in omega arith

pub fresh-first : (k o : ℕ) (es : List Store) → missing (suc k) o es ≡ suc k → added o es ≡ 1
unfolding missing
fresh-first k o es e = let m = missing-most k (o + 8) es in let a = added-most o es in omega arith

-- the word of them with the number i
pub fresh_at : (k i o : ℕ) (es : List Store) → missing k o es ≡ k → i < k → added (o + 8 * i) es ≡ 1
unfolding missing
fresh_at zero i o es e h = absurd (omega arith)
fresh_at (suc k) zero o es e h = rw (add-zero o) (fresh-first k o es e)
fresh_at (suc k) (suc i) o es e h =
    let q : o + 8 * suc i ≡ o + 8 + 8 * i = omega arith in
    let m = missing-most k (o + 8) es in
    let a = added-most o es in
    rw q (fresh_at k i (o + 8) es (omega arith) (omega arith))

-- and once those before it are touched
pub fresh-next : {st st' : List ℕ} {n m k i o p : ℕ} {ys : List ℕ} → missing k o (entries_of st n) ≡ k → i < k → TouchedWords st n i o ys st' m → p ≡ o + 8 * i → added p (entries_of st' m) ≡ 1
unfolding missing
fresh-next {st} {st'} {n} {m} {k} {i} {o} {p} {ys} e h t q =
    let a = fresh_at k i o (entries_of st n) e h in
    let w = missing-words i o ys (entries_of st n) 1 (o + 8 * i) (omega arith) in
    rw (q, t.entries) (omega (arith, a, w))

-- the words behind the first, once it is touched
pub fresh-behind : {st st' : List ℕ} {n m k o w : ℕ} → missing (suc k) o (entries_of st n) ≡ suc k → Touched st n o w st' m → missing k (o + 8) (entries_of st' m) ≡ k
unfolding missing
fresh-behind {st} {n = n} {k = k} {o} {w} e t =
    let b = missing-most k (o + 8) (entries_of st n) in
    let a = added-most o (entries_of st n) in
    rw (t.entries, missing-touch k o (o + 8) w (entries_of st n) (omega arith)) (omega arith)
