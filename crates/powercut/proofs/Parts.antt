-- The parts of the step lists: where a part ends (`redo_barrier`, `commit_barrier`), its barrier stands, and every step before it is a store.
-- Assumes nothing.
use mathlib.Core.Path.{◌≡◌, refl, ap, ◌∙◌}
use mathlib.Core.Bool.{Bool, true, false}
use mathlib.Core.List.{List}
use Prim.Native.Nat.{ℕ, zero, suc, ◌+◌, ◌-◌, ◌*◌, ◌/◌, ◌%◌, ◌≤◌, ◌<◌}
use native.Mathlib.Omega.{arith}
use lib.Dec.{eqb, leb}
use lib.ListN.{length, get_or}
use borrow.Author.Tests.{le-leb, leb-false, leb-true, lt-leb, ne_eqb}
use Rattle.rules.specs.Shape.{Shape}
use Rattle.rules.specs.Staging.{Store}
use Rattle.rules.proofs.Bool.{split}
use Rattle.powercut.specs.Steps.{Step, barrier, commit_steps, parity, redo, store}
use Rattle.powercut.specs.Commit.{is_stored, made_answer, step_answer}
use Rattle.powercut.specs.Advance.{PartSizes, commit_barrier, redo_barrier}
use Rattle.powercut.proofs.StepCount.{commit-log, commit-redo, commit-seal, redo-barrier, redo-data, redo-parity, redo-tail}

-- ---- which part

pub data RedoPart (n k e : ℕ) : Type 0 where
  data-words : k ≤ n → e ≡ n → RedoPart n k e
  parity-words : n < k → k ≤ 2 * n + 1 → e ≡ 2 * n + 1 → RedoPart n k e
  clears : 2 * n + 1 < k → e ≡ 2 * n + 4 → RedoPart n k e

pub data CommitPart (n k e : ℕ) : Type 0 where
  entries : k ≤ 4 * n → e ≡ 4 * n → CommitPart n k e
  both-seals : 4 * n < k → k ≤ 4 * n + 3 → e ≡ 4 * n + 3 → CommitPart n k e
  redone : (j : ℕ) → k ≡ 4 * n + 4 + j → e ≡ 4 * n + 4 + redo_barrier n j → CommitPart n k e

pub redo-part : (n k : ℕ) → RedoPart n k (redo_barrier n k)
unfolding redo_barrier
redo-part n k = split (leb k n)
    (λ a. data-words (leb-true k n a) (rw a))
    (λ a. split (leb k (2 * n + 1))
    (λ b. parity-words (leb-false k n a) (leb-true k (2 * n + 1) b) (rw (a, b)))
    (λ b. clears (leb-false k (2 * n + 1) b) (rw (a, b))))

pub commit-part : (n k : ℕ) → CommitPart n k (commit_barrier n k)
unfolding commit_barrier
commit-part n k = split (leb k (4 * n))
    (λ a. entries (leb-true k (4 * n) a) (rw a))
    (λ a. split (leb k (4 * n + 3))
    (λ b. both-seals (leb-false k (4 * n) a) (leb-true k (4 * n + 3) b) (rw (a, b)))
    (λ b. redone (k - (4 * n + 4)) (let c = leb-false k (4 * n + 3) b in omega arith) (rw (a, b))))

-- ---- where the part ends

pub redo-high : (n k : ℕ) → redo_barrier n k < 2 * n + 5
redo-high n k = go (redo-part n k)
  where
    go : RedoPart n k (redo_barrier n k) → redo_barrier n k < 2 * n + 5
    go (data-words a e) = omega arith
    go (parity-words a b e) = omega arith
    go (clears a e) = omega arith

pub redo-low : (n k : ℕ) → k < 2 * n + 5 → k ≤ redo_barrier n k
redo-low n k l = go (redo-part n k)
  where
    go : RedoPart n k (redo_barrier n k) → k ≤ redo_barrier n k
    go (data-words a e) = omega arith
    go (parity-words a b e) = omega arith
    go (clears a e) = omega arith

-- up to its barrier the part is the same
pub redo-stays : (n k : ℕ) → k < redo_barrier n k → redo_barrier n (suc k) ≡ redo_barrier n k
redo-stays n k l = go (redo-part n k) (redo-part n (suc k))
  where
    go : RedoPart n k (redo_barrier n k) → RedoPart n (suc k) (redo_barrier n (suc k)) → redo_barrier n (suc k) ≡ redo_barrier n k
    go (data-words a e) (data-words b f) = omega arith
    go (data-words a e) (parity-words b c f) = omega arith
    go (data-words a e) (clears b f) = omega arith
    go (parity-words a b e) (data-words c f) = omega arith
    go (parity-words a b e) (parity-words c d f) = omega arith
    go (parity-words a b e) (clears c f) = omega arith
    go (clears a e) (data-words b f) = omega arith
    go (clears a e) (parity-words b c f) = omega arith
    go (clears a e) (clears b f) = omega arith

pub commit-high : (n k : ℕ) → commit_barrier n k < 6 * n + 9
commit-high n k = go (commit-part n k)
  where
    go : CommitPart n k (commit_barrier n k) → commit_barrier n k < 6 * n + 9
    go (entries a e) = omega arith
    go (both-seals a b e) = omega arith
    go (redone j a e) = let h = redo-high n j in omega arith

pub commit-low : (n k : ℕ) → k < 6 * n + 9 → k ≤ commit_barrier n k
commit-low n k l = go (commit-part n k)
  where
    go : CommitPart n k (commit_barrier n k) → k ≤ commit_barrier n k
    go (entries a e) = omega arith
    go (both-seals a b e) = omega arith
    go (redone j a e) = let h = redo-low n j (omega arith) in omega arith

pub commit-stays : (n k : ℕ) → k < commit_barrier n k → commit_barrier n (suc k) ≡ commit_barrier n k
commit-stays n k l = go (commit-part n k) (commit-part n (suc k))
  where
    go : CommitPart n k (commit_barrier n k) → CommitPart n (suc k) (commit_barrier n (suc k)) → commit_barrier n (suc k) ≡ commit_barrier n k
    go (entries a e) (entries b f) = omega arith
    go (entries a e) (both-seals b c f) = omega arith
    go (entries a e) (redone j b f) = omega arith
    go (both-seals a b e) (entries c f) = omega arith
    go (both-seals a b e) (both-seals c d f) = omega arith
    go (both-seals a b e) (redone j c f) = omega arith
    go (redone i a e) (entries b f) = omega arith
    go (redone i a e) (both-seals b c f) = omega arith
    go (redone i a e) (redone j b f) =
        let h : j ≡ suc i = omega arith in
        let r = redo-stays n i (omega arith) in
        let s = ap (redo_barrier n) h in
        omega arith

-- THE SIZES OF THE PARTS
pub part-sizes : (n k : ℕ) → PartSizes n k
unfolding commit_barrier redo_barrier
part-sizes n k = record {
  entries = λ l. rw (le-leb k (4 * n) l) (omega arith);
  seals = λ l m. rw (lt-leb k (4 * n) l, le-leb k (4 * n + 3) m) (omega arith);
  data-words = λ l m. rw (lt-leb k (4 * n) (omega arith), lt-leb k (4 * n + 3) l, le-leb (k - (4 * n + 4)) n (omega arith)) (omega arith);
  parity = λ l m. rw (lt-leb k (4 * n) (omega arith), lt-leb k (4 * n + 3) (omega arith), lt-leb (k - (4 * n + 4)) n (omega arith), le-leb (k - (4 * n + 4)) (2 * n + 1) (omega arith)) (omega arith);
  clears = λ l m. rw (lt-leb k (4 * n) (omega arith), lt-leb k (4 * n + 3) (omega arith), lt-leb (k - (4 * n + 4)) n (omega arith), lt-leb (k - (4 * n + 4)) (2 * n + 1) (omega arith)) (omega arith);
}

-- ---- stores and barriers

-- a step that makes a store
abbrev pub is_store : Step → Bool
is_store (store x) = true
is_store (parity e) = true
is_store barrier = false

-- a store that is not the last step answers stored; a barrier never does
pub answer-stored : (k n : ℕ) (x : Step) → suc k < n → is_store x ≡ true → is_stored (step_answer k n x) ≡ true
unfolding step_answer made_answer is_stored
answer-stored k n x l h = rw (ne_eqb (suc k) n (λ e. omega arith)) (go x h)
  where
    go : (x : Step) → is_store x ≡ true → is_stored (made_answer (suc k) x) ≡ true
    go (store y) h = refl
    go (parity e) h = refl
    go barrier h = h

pub answer-barrier : (k n : ℕ) → is_stored (step_answer k n barrier) ≡ false
unfolding step_answer made_answer is_stored
answer-barrier k n = split (eqb (suc k) n) (λ e. rw e) (λ e. rw e)

module _ (sh : Shape) (es : List Store) where
  abbrev n : ℕ
  n = length es

  -- a step by number, with the number as another says it
  redo-as : (k j : ℕ) {x : Step} → k ≡ j → get_or (redo sh es) j barrier ≡ x → get_or (redo sh es) k barrier ≡ x
  redo-as k j e h = ap (λ (i : ℕ). get_or (redo sh es) i barrier) e ∙ h

  pub redo-store : (k : ℕ) → k < redo_barrier n k → is_store (get_or (redo sh es) k barrier) ≡ true
  redo-store k l = go (redo-part n k)
    where
      clear : (j : ℕ) → j < 2 → is_store (get_or (redo sh es) (2 * n + 1 + suc j) barrier) ≡ true
      clear zero l = ap is_store (redo-tail sh es 1)
      clear (suc zero) l = ap is_store (redo-tail sh es 2)
      clear (suc (suc j)) l = absurd (omega arith)

      go : RedoPart n k (redo_barrier n k) → is_store (get_or (redo sh es) k barrier) ≡ true
      go (data-words a e) = ap is_store (redo-data sh es k (omega arith))
      go (parity-words a b e) = ap is_store (redo-as k (n + 1 + (k - (n + 1))) (omega arith) (redo-parity sh es (k - (n + 1)) (omega arith)))
      go (clears a e) =
          ap (λ (i : ℕ). is_store (get_or (redo sh es) i barrier)) {x = k} {y = 2 * n + 1 + suc (k - (2 * n + 2))} (omega arith) ∙ clear (k - (2 * n + 2)) (omega arith)

  pub redo-ends : (k : ℕ) → get_or (redo sh es) (redo_barrier n k) barrier ≡ barrier
  redo-ends k = go (redo-part n k)
    where
      go : RedoPart n k (redo_barrier n k) → get_or (redo sh es) (redo_barrier n k) barrier ≡ barrier
      go (data-words a e) = redo-as _ _ e (redo-barrier sh es)
      go (parity-words a b e) = redo-as _ (2 * n + 1 + 0) (omega arith) (redo-tail sh es 0)
      go (clears a e) = redo-as _ (2 * n + 1 + 3) (omega arith) (redo-tail sh es 3)

  module _ (some : 0 < n) where
    commit-as : (k j : ℕ) {x : Step} → k ≡ j → get_or (commit_steps sh es) j barrier ≡ x → get_or (commit_steps sh es) k barrier ≡ x
    commit-as k j e h = ap (λ (i : ℕ). get_or (commit_steps sh es) i barrier) e ∙ h

    pub commit-store : (k : ℕ) → k < commit_barrier n k → is_store (get_or (commit_steps sh es) k barrier) ≡ true
    commit-store k l = go (commit-part n k)
      where
        seal : (j : ℕ) → j < 2 → is_store (get_or (commit_steps sh es) (4 * n + suc j) barrier) ≡ true
        seal zero l = ap is_store (commit-seal sh es 1 some)
        seal (suc zero) l = ap is_store (commit-seal sh es 2 some)
        seal (suc (suc j)) l = absurd (omega arith)

        go : CommitPart n k (commit_barrier n k) → is_store (get_or (commit_steps sh es) k barrier) ≡ true
        go (entries a e) = ap is_store (commit-as k (4 * (k / 4) + k % 4) (omega arith) (commit-log sh es (k / 4) (k % 4) (omega arith) (omega arith)))
        go (both-seals a b e) =
            ap (λ (i : ℕ). is_store (get_or (commit_steps sh es) i barrier)) {x = k} {y = 4 * n + suc (k - (4 * n + 1))} (omega arith) ∙ seal (k - (4 * n + 1)) (omega arith)
        go (redone j a e) = ap is_store (commit-as k (4 * n + 4 + j) a (commit-redo sh es j some)) ∙ redo-store j (omega arith)

    pub commit-ends : (k : ℕ) → get_or (commit_steps sh es) (commit_barrier n k) barrier ≡ barrier
    commit-ends k = go (commit-part n k)
      where
        go : CommitPart n k (commit_barrier n k) → get_or (commit_steps sh es) (commit_barrier n k) barrier ≡ barrier
        go (entries a e) = commit-as _ (4 * n + 0) (omega arith) (commit-seal sh es 0 some)
        go (both-seals a b e) = commit-as _ (4 * n + 3) e (commit-seal sh es 3 some)
        go (redone j a e) = commit-as _ (4 * n + 4 + redo_barrier n j) e (commit-redo sh es (redo_barrier n j) some ∙ redo-ends j)
