-- Scrub of a sound pool: as many objects as the book lists, and no other count (`sound-scrub`). And the other way round: where the counts
-- say so, no zone is broken, no object damaged and all parity right (`scrub-good`, `scrub-parity`).
use Prim.Native.Nat.{ℕ, zero, suc, ◌+◌, ◌*◌, ◌/◌, ◌%◌, ◌≤◌, ◌<◌}
use mathlib.Core.Path.{◌≡◌, refl, sym, ap, ap₂, ◌∙◌}
use mathlib.Core.Logic.{◌⊎◌, inl, inr}
use mathlib.Core.Bool.{Bool, true, false, not, ◌&&◌, cond}
use mathlib.Core.List.{List, [], ◌∷◌, ◌++◌}
use native.Mathlib.Nat.{div-lt_iff_lt-mul, div-add-mod', mod-lt, not-suc-le-zero}
use native.Mathlib.Decide.{dec_lt}
use native.Mathlib.Omega.{arith}
use lib.Arith.{digits_lt}
use lib.Dec.{eqb}
use lib.ListN.{length, length-append}
use borrow.Author.Tests.{eqb-true, eq-eqb}
use Rattle.rules.specs.Shape.{Shape, zone_cells}
use Rattle.rules.specs.Header.{shape_in}
use Rattle.rules.specs.Runs.{Run, free, is_free, is_good, object}
use Rattle.rules.specs.Book.{book}
use Rattle.rules.specs.Zones.{all_good, book_from, good_from, pool_book, runs_from, walk_in}
use Rattle.rules.specs.Parity.{Parity, column_byte}
use Rattle.rules.specs.Sound.{Sound, book_of}
use Rattle.rules.specs.Scrub.{all_to, broken_zones, column_right, conclude_scrub, count_runs, count_to, counts, damaged_met, objects_met, scrub, sum_to, wrong_columns}
use Rattle.rules.proofs.Bool.{and-join, and_split}
use Rattle.rules.proofs.Sums.{count-sum, sum-append, zero-sum}
use Rattle.rules.proofs.Test.{not-not, passed_first}
use Rattle.rules.proofs.Shape.{Good}
use Rattle.rules.proofs.Header.{sound-good}
use Rattle.rules.proofs.Sound.{sound-reads}

-- ---- counts

one-zero : (b : Bool) → ◌≡◌ {A = ℕ} (cond b 1 0) 0 → b ≡ false
one-zero true e = absurd (omega arith)
one-zero false e = refl

zero_one : (b : Bool) → b ≡ false → ◌≡◌ {A = ℕ} (cond b 1 0) 0
zero_one b e = rw e

last : (n i : ℕ) → i < suc n → (i < n) ⊎ (i ≡ n)
last n i h = go (dec_lt i n)
  where
    go : Dec (i < n) → (i < n) ⊎ (i ≡ n)
    go (yes l) = inl l
    go (no l) = inr (omega arith)

sum-zero : (n : ℕ) (f : ℕ → ℕ) → sum_to n f ≡ 0 → (i : ℕ) → i < n → f i ≡ 0
unfolding sum_to
sum-zero zero f e i h = absurd (not-suc-le-zero h)
sum-zero (suc n) f e i h = go (λ l. sum-zero n f (omega arith) i l) (last n i h)
  where
    go : (i < n → f i ≡ 0) → (i < n) ⊎ (i ≡ n) → f i ≡ 0
    go ih (inl l) = ih l
    go ih (inr q) = ap f q ∙ omega arith

pub count-zero : (n : ℕ) (f : ℕ → Bool) → count_to n f ≡ 0 → (i : ℕ) → i < n → f i ≡ false
unfolding count_to
count-zero zero f e i h = absurd (not-suc-le-zero h)
count-zero (suc n) f e i h = go (λ l. count-zero n f (omega arith) i l) (last n i h)
  where
    go : (i < n → f i ≡ false) → (i < n) ⊎ (i ≡ n) → f i ≡ false
    go ih (inl l) = ih l
    go ih (inr q) = ap f q ∙ one-zero (f n) (omega arith)

zero-count : (n : ℕ) (f : ℕ → Bool) → ((i : ℕ) → i < n → f i ≡ false) → count_to n f ≡ 0
unfolding count_to
zero-count zero f h = refl
zero-count (suc n) f h = rw (zero-count n f (λ i l. h i (omega arith)), zero_one (f n) (h n (omega arith)))

pub all_true : (n : ℕ) (f : ℕ → Bool) → all_to n f ≡ true → (i : ℕ) → i < n → f i ≡ true
unfolding all_to
all_true zero f e i h = absurd (not-suc-le-zero h)
all_true (suc n) f e i h = go (λ l. all_true n f (and_split (all_to n f) (f n) e).0 i l) (last n i h)
  where
    go : (i < n → f i ≡ true) → (i < n) ⊎ (i ≡ n) → f i ≡ true
    go ih (inl l) = ih l
    go ih (inr q) = ap f q ∙ (and_split (all_to n f) (f n) e).1

pub true-all : (n : ℕ) (f : ℕ → Bool) → ((i : ℕ) → i < n → f i ≡ true) → all_to n f ≡ true
unfolding all_to
true-all zero f h = refl
true-all (suc n) f h = and-join (all_to n f) (f n) (true-all n f (λ i l. h i (omega arith))) (h n (omega arith))

pub all-cong : (n : ℕ) (f g : ℕ → Bool) → ((i : ℕ) → i < n → f i ≡ g i) → all_to n f ≡ all_to n g
unfolding all_to
all-cong zero f g h = refl
all-cong (suc n) f g h = ap₂ ◌&&◌ (all-cong n f g (λ i l. h i (omega arith))) (h n (omega arith))

-- ---- parity

module _ (sh : Shape) (p : List ℕ) (g : Good sh) where
  pub scrub-parity : wrong_columns sh p ≡ 0 → Parity sh p
  unfolding wrong_columns column_right
  scrub-parity e z o hz ho =
      let c : ℕ = o / sh.page in
      let pp : 0 < sh.page = (let k = g.page-min in omega arith) in
      let hc : c < sh.cols = (div-lt_iff_lt-mul pp).1 ho in
      let r = not-not _ (count-zero sh.cols (λ c. not (all_to sh.page (λ i. eqb (column_byte sh p z (c * sh.page + i)) 0))) (sum-zero sh.zones _ e z hz) c hc) in
      let b = eqb-true _ 0 (all_true sh.page (λ i. eqb (column_byte sh p z (c * sh.page + i)) 0) r (o % sh.page) (mod-lt o pp)) in
      ap (column_byte sh p z) (sym (div-add-mod' o sh.page)) ∙ b

  pub parity-scrub : Parity sh p → wrong_columns sh p ≡ 0
  unfolding wrong_columns column_right
  parity-scrub h =
      zero-sum sh.zones _ (λ z hz. zero-count sh.cols _ (λ c hc. ap not (true-all sh.page (λ i. eqb (column_byte sh p z (c * sh.page + i)) 0)
      (λ i hi. eq-eqb _ 0 (h z (c * sh.page + i) hz (digits_lt hc hi))))))

-- ---- zones

count-append : (f : Run → Bool) (a b : List Run) → count_runs f (a ++ b) ≡ count_runs f a + count_runs f b
count-append f a b = count-sum f (a ++ b) ∙ sum-append _ a b ∙ sym (ap₂ ◌+◌ (count-sum f a) (count-sum f b))

module _ (sh : Shape) (p : List ℕ) where
  good-count : (rs : List Run) → count_runs (λ r. not (is_good r)) rs ≡ 0 → all_good rs ≡ true
  unfolding count_runs all_good
  good-count [] e = refl
  good-count (r ∷ rs) e = and-join (is_good r) (all_good rs) (not-not _ (one-zero (not (is_good r)) (omega arith))) (good-count rs (omega arith))

  count-good : (rs : List Run) → all_good rs ≡ true → count_runs (λ r. not (is_good r)) rs ≡ 0
  unfolding count_runs all_good
  count-good [] e = refl
  count-good (r ∷ rs) e = let i = and_split (is_good r) (all_good rs) e in rw (zero_one (not (is_good r)) (ap not i.0), count-good rs i.1)

  scrub-from : (n z : ℕ) → ((y : ℕ) → z ≤ y → y < z + n → (walk_in sh p y).whole ≡ true) → count_runs (λ r. not (is_good r)) (runs_from sh p z n) ≡ 0 → good_from sh p z n ≡ true
  unfolding good_from runs_from
  scrub-from zero z w e = refl
  scrub-from (suc n) z w e =
      let c = count-append (λ r. not (is_good r)) (walk_in sh p z).runs (runs_from sh p (suc z) n) in
      and-join (walk_in sh p z).whole _ (w z (omega arith) (omega arith))
      (and-join (all_good (walk_in sh p z).runs) (good_from sh p (suc z) n) (good-count (walk_in sh p z).runs (omega arith)) (scrub-from n (suc z) (λ y a b. w y (omega arith) (omega arith)) (omega arith)))

  pub from-scrub : (n z : ℕ) → good_from sh p z n ≡ true → ((y : ℕ) → z ≤ y → y < z + n → (walk_in sh p y).whole ≡ true) × (count_runs (λ r. not (is_good r)) (runs_from sh p z n) ≡ 0)
  unfolding good_from runs_from count_runs
  from-scrub zero z e = (λ y a b. absurd (omega arith), refl)
  from-scrub (suc n) z e =
      let a = and_split (walk_in sh p z).whole (all_good (walk_in sh p z).runs && good_from sh p (suc z) n) e in
      let b = and_split (all_good (walk_in sh p z).runs) (good_from sh p (suc z) n) a.1 in
      let i = from-scrub n (suc z) b.1 in
      (λ y l m. go i y l m a.0, count-append (λ r. not (is_good r)) (walk_in sh p z).runs (runs_from sh p (suc z) n) ∙ rw (count-good (walk_in sh p z).runs b.0, i.1))
    where
      go : ((y : ℕ) → suc z ≤ y → y < suc z + n → (walk_in sh p y).whole ≡ true) × (count_runs (λ r. not (is_good r)) (runs_from sh p (suc z) n) ≡ 0)
          → (y : ℕ) → z ≤ y → y < z + suc n → (walk_in sh p z).whole ≡ true → (walk_in sh p y).whole ≡ true
      go i y l m w = pick (dec_lt z y)
        where
          pick : Dec (z < y) → (walk_in sh p y).whole ≡ true
          pick (yes k) = i.0 y k (omega arith)
          pick (no k) = ap (λ (x : ℕ). (walk_in sh p x).whole) {x = y} {y = z} (omega arith) ∙ w

  pub scrub-good : broken_zones sh p ≡ 0 → damaged_met sh p ≡ 0 → good_from sh p 0 sh.zones ≡ true
  unfolding broken_zones damaged_met
  scrub-good b d = scrub-from sh.zones 0 (λ y l m. not-not _ (count-zero sh.zones (λ z. not (walk_in sh p z).whole) b y (omega arith))) d

  book-count : (c : ℕ) (rs : List Run) → count_runs (λ r. not (is_free r)) rs ≡ length (book c rs)
  unfolding count_runs book
  book-count c [] = refl
  book-count c (free n ∷ rs) = let i = book-count (c + n) rs in omega arith
  book-count c (object n t b g ∷ rs) = let i = book-count (c + n) rs in omega arith

  pub books-count : (n z : ℕ) → count_runs (λ r. not (is_free r)) (runs_from sh p z n) ≡ length (book_from sh p z n)
  unfolding count_runs runs_from book_from
  books-count zero z = refl
  books-count (suc n) z =
      let rs : List Run = (walk_in sh p z).runs in
      count-append (λ r. not (is_free r)) rs (runs_from sh p (suc z) n)
      ∙ rw (book-count (z * zone_cells sh) rs, books-count n (suc z)) (sym (length-append (book (z * zone_cells sh) rs) (book_from sh p (suc z) n)))

-- SCRUB OF A SOUND POOL
pub sound-scrub : (p : List ℕ) → Sound p → scrub p ≡ counts (length (book_of p)) 0 0 0
unfolding scrub conclude_scrub objects_met damaged_met broken_zones book_of pool_book
sound-scrub p s =
    let sh : Shape = shape_in p in
    let z = from-scrub sh p sh.zones 0 s.zones in
    rw (
      passed_first _ (sound-reads p s),
      books-count sh p sh.zones 0,
      z.1,
      zero-count sh.zones (λ z. not (walk_in sh p z).whole) (λ y l. ap not (z.0 y (omega arith) (omega arith))),
      parity-scrub sh p (sound-good p s) s.parity,
    )
