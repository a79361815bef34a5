-- The words of a staged view (`reads-staged`, `reads-pool`), and when staging memory can be read so (`staged-good`). Assumes nothing.
use Prim.Native.Nat.{ℕ, zero, suc, ◌+◌, ◌*◌, ◌%◌, ◌≤◌, ◌<◌}
use mathlib.Core.Path.{◌≡◌, refl, sym, ap, ◌∙◌}
use mathlib.Core.Bool.{true, not, ◌&&◌}
use mathlib.Core.List.{List, [], ◌∷◌}
use native.Mathlib.Nat.{zero-add}
use native.Mathlib.Omega.{arith}
use lib.ListN.{length, drop, length-drop}
use lib.Dec.{eqb}
use borrow.Author.Tests.{eqb-true, eqb-false, not-true}
use Rattle.rules.specs.Words.{Bytes, field, put, word}
use Rattle.rules.specs.Shape.{Shape, pool_size}
use Rattle.rules.specs.Staging.{Fresh, Store, Tidy, entries_at, good_target, good_targets, lay, none_at}
use Rattle.rules.proofs.Bool.{and_split, split}
use Rattle.rules.proofs.Words.{bytes_drop, digits-word, field-part, length-put, word_lt, word-put, word-put-other}
use Rattle.rules.proofs.Shape.{Good, size-even}
use Rattle.rules.proofs.Stores.{bytes-lay, length-lay}
use Rattle.stage.specs.View.{Reads, Staged, entries_of, part, seen}
use Rattle.words.specs.Loaded.{Loaded}
use Rattle.stage.specs.Touched.{Slot, added, slot}
use Rattle.stage.proofs.Entries.{fresh_added}

pub length_seen : (pool staging : List ℕ) (n : ℕ) → length (seen pool staging n) ≡ length pool
unfolding seen
length_seen pool staging n = length-lay pool (entries_of staging n)

pub bytes-seen : (pool staging : List ℕ) (n : ℕ) → Bytes pool → Bytes (seen pool staging n)
unfolding seen
bytes-seen pool staging n h = bytes-lay pool (entries_of staging n) h

-- with no entries the view is the pool itself
pub seen_none : (pool staging : List ℕ) → seen pool staging 0 ≡ pool
unfolding seen entries_of
seen_none pool staging = refl

pub word-reads : (v : List ℕ) (a r : ℕ) → Bytes v → a + 8 ≤ length v → r ≡ word v a → Reads v a r
unfolding part word
word-reads v a r h l e =
    let f : field 8 v a ≡ field 8 (drop a v) 0 = field-part 8 v a ∙ sym (field-part 8 (drop a v) 0) in
    record {
      value = e;
      bytes = rw (e, f) (digits-word (drop a v) (bytes_drop a v h) (rw (length-drop a v) (omega arith)));
      small = rw e (word_lt v a h);
    }

-- no entry's target: the pool's own word
word-fresh : (es : List Store) (p : List ℕ) (o : ℕ) → Tidy es → Fresh o es → o % 8 ≡ 0 → word (lay p es) o ≡ word p o
word-fresh [] p o t f e = refl
word-fresh (x ∷ xs) p o t f e =
    word-fresh xs (put p x.at x.val) o t.3 f.1 e ∙ word-put-other p x.at x.val o t.0 e (λ q. f.0 (sym q))

-- an entry's target: the entry's word
word-found : (n : ℕ) (st p : List ℕ) (a o : ℕ) → Tidy (entries_at st a n) → o % 8 ≡ 0 → o + 8 ≤ length p → slot o (entries_at st a n) < n
    → word (lay p (entries_at st a n)) o ≡ word st (a + (16 * slot o (entries_at st a n) + 8))
unfolding slot
word-found zero st p a o t e h k = absurd (omega arith)
word-found (suc n) st p a o t e h k =
    split (eqb (word st a) o)
    (λ y.
    let q : word st a ≡ o = eqb-true (word st a) o y in
    let f : Fresh o (entries_at st (a + 16) n) = rw q at t.2 in
    rw (y, q) (word-fresh (entries_at st (a + 16) n) (put p o (word st (a + 8))) o t.3 f e ∙ word-put p o (word st (a + 8)) h t.1))
    (λ y.
    let j : ℕ = slot o (entries_at st (a + 16) n) in
    let k' = rw y at k in
    let m : a + (16 * suc j + 8) ≡ a + 16 + (16 * j + 8) = omega arith in
    rw (y, m) (word-found n st (put p (word st a) (word st (a + 8))) (a + 16) o t.3 e (rw length-put h) (omega arith)))

pub reads-staged : {pool st : List ℕ} {n o i r : ℕ} → Bytes pool → Staged pool st n → o % 8 ≡ 0 → o + 8 ≤ length pool → Slot st n o i → i < n
    → Loaded 8 st (16 * i + 8) r → Reads (seen pool st n) o r
reads-staged {pool} {st} {n} {o} {i} {r} b s p h e k l =
    word-reads (seen pool st n) o r (bytes-seen pool st n b) (rw length_seen h)
    (l.value ∙ unfold seen entries_of word in (ap (word st) (sym (zero-add (16 * i + 8))) ∙ rw e.place (sym (word-found n st pool 0 o s.tidy p h (rw e.place at k)))))

pub reads-pool : {pool st : List ℕ} {n o r : ℕ} → Bytes pool → Staged pool st n → o % 8 ≡ 0 → o + 8 ≤ length pool → added o (entries_of st n) ≡ 1
    → Loaded 8 pool o r → Reads (seen pool st n) o r
reads-pool {pool} {st} {n} {o} {r} b s p h e l =
    word-reads (seen pool st n) o r (bytes-seen pool st n b) (rw length_seen h)
    (l.value ∙ unfold seen word in (sym (word-fresh (entries_of st n) pool o s.tidy (fresh_added o (entries_of st n) e) p)))

-- ---- entries whose targets are good (01, refusal 10) can be read

none-fresh : (o : ℕ) (es : List Store) → none_at o es ≡ true → Fresh o es
none-fresh o [] e = tt
none-fresh o (x ∷ xs) e =
    let a = and_split (not (eqb o x.at)) (none_at o xs) e in
    ((λ q. eqb-false o x.at (not-true (eqb o x.at) a.0) (sym q)), none-fresh o xs a.1)

good-tidy : (sh : Shape) (st : List ℕ) (a n : ℕ) → Bytes st → good_targets sh (entries_at st a n) ≡ true → Tidy (entries_at st a n)
good-tidy sh st a zero b e = tt
good-tidy sh st a (suc n) b e =
    let t = and_split (good_target sh (word st a)) (none_at (word st a) (entries_at st (a + 16) n) && good_targets sh (entries_at st (a + 16) n)) e in
    let u = and_split (none_at (word st a) (entries_at st (a + 16) n)) (good_targets sh (entries_at st (a + 16) n)) t.1 in
    (eqb-true (word st a % 8) 0 (and_split (eqb (word st a % 8) 0) _ t.0).0, word_lt st (a + 8) b, none-fresh (word st a) (entries_at st (a + 16) n) u.0, good-tidy sh st (a + 16) n b u.1)

pub staged-good : (sh : Shape) (pool st : List ℕ) (n : ℕ) → Bytes st → good_targets sh (entries_at st 0 n) ≡ true → length pool ≡ pool_size sh → Good sh → 16 * n ≤ length st
    → Staged pool st n
unfolding entries_of
staged-good sh pool st n b e l g h = record { room = h; tidy = good-tidy sh st 0 n b e; words = rw l (size-even sh g) }
