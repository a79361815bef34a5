-- What a step leaves as it is: the length, and every byte before the first place where it stores. The steps of a commit and of a recovery
-- store from log A on, so the headers stay; data and parity are stored in the zones, so both logs stay. Assumes nothing.
use mathlib.Core.Path.{◌≡◌, refl, sym, ap, ◌∙◌, subst}
use mathlib.Core.Logic.{inl}
use mathlib.Core.Bool.{true}
use mathlib.Core.List.{List, [], ◌∷◌, ◌++◌, append_assoc, map}
use Prim.Native.Nat.{ℕ, zero, suc, ◌+◌, ◌*◌, ◌≤◌, ◌<◌}
use native.Mathlib.Omega.{arith}
use lib.ListN.{get_or-append, get_or, length, length-append, length-map}
use borrow.Author.Tests.{ltb-false}
use Rattle.rules.specs.Words.{field, word}
use Rattle.rules.specs.Shape.{Shape, entry_size, log_a, off, parity_at, row_at, zone, zones_at}
use Rattle.rules.specs.Header.{header_shape, open_tests, shape_in}
use Rattle.rules.specs.Staging.{Store, entries_at, good_targets}
use Rattle.rules.proofs.Test.{Passed}
use Rattle.rules.proofs.Words.{length-put, number-cong, put-out, word-cong}
use Rattle.rules.proofs.Shape.{Good, InData, cell-low}
use Rattle.rules.proofs.Header.{SameHeaders, same-headers}
use Rattle.rules.proofs.Stores.{All, all_map}
use Rattle.powercut.specs.Steps.{Step, barrier, commit_steps, log_stores, parity, redo, seals, step_pool, store}
use Rattle.powercut.proofs.FinalPool.{targets-data}

-- ---- the pool before place m

-- q is as p before place m, and as long
pub record Untouched (m : ℕ) (q p : List ℕ) : Type 0 where
  pub length-is : length q ≡ length p
  pub before : (i : ℕ) → i < m → get_or q i 0 ≡ get_or p i 0

-- words and entries that have the same bytes are the same
word_same : (q p : List ℕ) (b a : ℕ) → ((i : ℕ) → i < 8 → get_or q (b + i) 0 ≡ get_or p (a + i) 0) → word q b ≡ word p a
unfolding word field
word_same q p b a h = number-cong 8 (λ i. get_or q (b + i) 0) (λ i. get_or p (a + i) 0) h

pub entries-same : (q p : List ℕ) (b a n : ℕ) → ((i : ℕ) → i < entry_size * n → get_or q (b + i) 0 ≡ get_or p (a + i) 0) → entries_at q b n ≡ entries_at p a n
entries-same q p b a zero h = refl
entries-same q p b a (suc n) h = rw (
  word_same q p b a (λ i l. h i (omega arith)),
  word_same q p (b + 8) (a + 8) (λ i l. later 8 i (omega arith)),
  entries-same q p (b + entry_size) (a + entry_size) n (λ i l. later entry_size i (omega arith)),
)
  where
    later : (j i : ℕ) → j + i < entry_size * suc n → get_or q (b + j + i) 0 ≡ get_or p (a + j + i) 0
    later j i l = ap (λ (k : ℕ). get_or q k 0) (omega arith) ∙ h (j + i) l ∙ ap (λ (k : ℕ). get_or p k 0) {x = a + (j + i)} (omega arith)

module _ (m : ℕ) (q p : List ℕ) (u : Untouched m q p) where
  pub word-untouched : (a : ℕ) → a + 8 ≤ m → word q a ≡ word p a
  word-untouched a l = word-cong q p a (λ i h. u.before (a + i) (omega arith))

  pub entries-untouched : (a n : ℕ) → a + 16 * n ≤ m → entries_at q a n ≡ entries_at p a n
  entries-untouched a n l = entries-same q p a a n (λ i h. u.before (a + i) (omega arith))

-- the headers stay where all before log A does
pub headers-untouched : (p q : List ℕ) → Passed (open_tests p) → Untouched (log_a (shape_in p)) q p → SameHeaders q p
unfolding open_tests
headers-untouched p q o u =
    let e : (shape_in p).page ≡ 256 = unfold shape_in header_shape in refl in
    let l = ltb-false (length p) 512 o.0 in
    let k = u.length-is in
    same-headers q p u.length-is (omega arith) (λ i h. u.before i (omega arith))

-- ---- a fact of each step of a list

abbrev pub Each : (Step → Type 0) → List Step → Type 0
Each Q [] = Unit {0}
Each Q (x ∷ xs) = Q x × Each Q xs

pub each_append : (Q : Step → Type 0) (xs ys : List Step) → Each Q xs → Each Q ys → Each Q (xs ++ ys)
each_append Q [] ys h k = k
each_append Q (x ∷ xs) ys h k = (h.0, each_append Q xs ys h.1 k)

-- ---- where a step stores

module _ (sh : Shape) where
  -- the step stores nothing before place m
  abbrev pub From : ℕ → Step → Type 0
  From m (store x) = m ≤ x.at
  From m (parity e) = m ≤ parity_at sh e.at
  From m barrier = Unit {0}

  pub step-untouched : (m : ℕ) (x : Step) (p : List ℕ) → From m x → Untouched m (step_pool sh x p) p
  step-untouched m (store x) p h =
      record { length-is = length-put p x.at x.val; before = λ i l. put-out p x.at x.val i (inl (omega arith)) }
  step-untouched m (parity e) p h = record { length-is = length-put p _ _; before = λ i l. put-out p (parity_at sh e.at) _ i (inl (omega arith)) }
  step-untouched m barrier p h = record { length-is = refl; before = λ i l. refl }

  from_less : (m n : ℕ) (x : Step) → m ≤ n → From n x → From m x
  from_less m n (store x) l h = omega arith
  from_less m n (parity e) l h = omega arith
  from_less m n barrier l h = tt

  -- each step of a list does so
  abbrev AllFrom : ℕ → List Step → Type 0
  AllFrom m = Each (From m)

  from_at : (m : ℕ) (xs : List Step) → AllFrom m xs → (k : ℕ) → From m (get_or xs k barrier)
  from_at m [] h k = tt
  from_at m (x ∷ xs) h zero = h.0
  from_at m (x ∷ xs) h (suc k) = from_at m xs h.1 k

  all-less : (m n : ℕ) (xs : List Step) → m ≤ n → AllFrom n xs → AllFrom m xs
  all-less m n [] l h = tt
  all-less m n (x ∷ xs) l h = (from_less m n x l h.0, all-less m n xs l h.1)

  from-stores : (m : ℕ) (l : List Store) → All (λ a w. m ≤ a) l → AllFrom m (map store l)
  from-stores m [] h = tt
  from-stores m (x ∷ l) h = (h.0, from-stores m l h.1)

  seals-from : (w : ℕ) → AllFrom (log_a sh) (map store (seals sh w) ++ barrier ∷ [])
  seals-from w = (omega arith, (omega arith, (tt, tt)))

  log-from : (i : ℕ) (l : List Store) → All (λ a w. log_a sh ≤ a) (log_stores sh i l)
  log-from i [] = tt
  log-from i (e ∷ l) = (omega arith, (omega arith, (omega arith, (omega arith, log-from (suc i) l))))

  -- parts 3 and 4, with the barrier after each; then part 5
  module _ (es : List Store) where
    pub words : List Step
    words = map store es ++ barrier ∷ (map parity es ++ barrier ∷ [])

    words-length : length words ≡ 2 * length es + 2
    unfolding words
    words-length = simp (length-append, length-map) (omega arith)

    pub words-redo : redo sh es ≡ words ++ (map store (seals sh 0) ++ barrier ∷ [])
    unfolding redo words
    words-redo = simp append_assoc

  -- ---- the lists' steps, of good targets

  module _ (g : Good sh) (es : List Store) (t : good_targets sh es ≡ true) where
    targets-from : All (λ a w. zones_at sh ≤ a) es
    targets-from = all_map {Q = λ a w. InData sh a} {Q' = λ a w. zones_at sh ≤ a} (λ a w d. d.inside.low) es (targets-data sh es t)

    parity-from : (l : List Store) → AllFrom (zones_at sh) (map parity l)
    parity-from [] = tt
    parity-from (e ∷ l) = (unfold row_at in cell-low sh g (zone sh e.at) sh.rows (off sh e.at), parity-from l)

    words-from : AllFrom (zones_at sh) (words es)
    unfolding words
    words-from = each_append _ (map store es) _ (from-stores _ es targets-from) (tt, each_append _ (map parity es) _ (parity-from es) (tt, tt))

    pub redo-in-zones : (k : ℕ) → k < 2 * length es + 2 → From (zones_at sh) (get_or (redo sh es) k barrier)
    redo-in-zones k l =
        let e = words-length es in
        subst (From (zones_at sh)) (sym (ap (λ (xs : List Step). get_or xs k barrier) (words-redo es) ∙ get_or-append (words es) _ barrier k (omega arith))) (from_at (zones_at sh) (words es) words-from k)

    redo-all : AllFrom (log_a sh) (redo sh es)
    redo-all = subst (AllFrom (log_a sh)) (sym (words-redo es)) (each_append _ (words es) _ (all-less _ (zones_at sh) (words es) (omega arith) words-from) (seals-from 0))

    pub redo-from : (k : ℕ) → From (log_a sh) (get_or (redo sh es) k barrier)
    redo-from k = from_at (log_a sh) (redo sh es) redo-all k

  pub commit-from : Good sh → (es : List Store) → good_targets sh es ≡ true → (k : ℕ) → From (log_a sh) (get_or (commit_steps sh es) k barrier)
  unfolding commit_steps
  commit-from g [] t k = tt
  commit-from g (e ∷ es) t k =
      let all : AllFrom (log_a sh) (commit_steps sh (e ∷ es)) =
      each_append _ (map store (log_stores sh 0 (e ∷ es))) _ (from-stores (log_a sh) (log_stores sh 0 (e ∷ es)) (log-from 0 (e ∷ es)))
      (tt, (omega arith, (omega arith, (tt, redo-all g (e ∷ es) t)))) in
      from_at (log_a sh) (commit_steps sh (e ∷ es)) all k

  pub clear-from : (k : ℕ) → From (log_a sh) (get_or (map store (seals sh 0) ++ barrier ∷ []) k barrier)
  clear-from k = from_at (log_a sh) (map store (seals sh 0) ++ barrier ∷ []) (seals-from 0) k
