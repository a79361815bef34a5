-- How many calls up to the next barrier a commit or a recovery has left: five or three at its start, and each call leaves fewer. Assumes
-- nothing.
use Prim.Native.Nat.{ℕ, suc, ◌+◌, ◌-◌, ◌*◌, ◌<◌, ◌≤◌}
use mathlib.Core.Path.{◌≡◌, ap}
use mathlib.Core.Bool.{cond}
use mathlib.Core.List.{List}
use native.Mathlib.Nat.{not-suc-le-zero}
use native.Mathlib.Omega.{arith}
use lib.Dec.{leb}
use lib.ListN.{length}
use borrow.Author.Tests.{le-leb, lt-leb}
use Rattle.rules.specs.Shape.{Shape}
use Rattle.powercut.specs.Steps.{Remedy, clear, neither, nothing, recovery_steps, replay}
use Rattle.powercut.specs.Advance.{commit_barrier, recovery_barrier, redo_barrier}
use Rattle.powercut.proofs.StepCount.{clear-count, replay-count}
use Rattle.powercut.proofs.Parts.{CommitPart, RedoPart, both-seals, clears, commit-part, data-words, entries, parity-words, redo-high, redo-part, redone}

-- with k steps made of parts 3 to 5 for n entries; of a commit; of a recovery
unfoldable pub redo_calls : ℕ → ℕ → ℕ
redo_calls n k = cond (leb k n) 3 (cond (leb k (2 * n + 1)) 2 1)

unfoldable pub commit_calls : ℕ → ℕ → ℕ
commit_calls n k = cond (leb k (4 * n)) 5 (cond (leb k (4 * n + 3)) 4 (redo_calls n (k - (4 * n + 4))))

unfoldable pub recovery_calls : Remedy → ℕ → ℕ
recovery_calls (replay l n) k = redo_calls n k
recovery_calls clear k = 1
recovery_calls nothing k = 1
recovery_calls neither k = 1

-- ---- parts 3 to 5

module _ (n k : ℕ) where
  three : k ≤ n → redo_calls n k ≡ 3
  unfolding redo_calls
  three l = rw (le-leb k n l)

  two : n < k → k ≤ 2 * n + 1 → redo_calls n k ≡ 2
  unfolding redo_calls
  two l h = rw (lt-leb k n l, le-leb k (2 * n + 1) h)

  one : 2 * n + 1 < k → redo_calls n k ≡ 1
  unfolding redo_calls
  one l = rw (lt-leb k n (omega arith), lt-leb k (2 * n + 1) l)

redo-fewer : (n k : ℕ) → suc (redo_barrier n k) < 2 * n + 5 → redo_calls n (suc (redo_barrier n k)) < redo_calls n k
redo-fewer n k h = go (redo-part n k)
  where
    go : RedoPart n k (redo_barrier n k) → redo_calls n (suc (redo_barrier n k)) < redo_calls n k
    go (data-words a e) = let i = three n k a in let j = two n (suc (redo_barrier n k)) (omega arith) (omega arith) in omega arith
    go (parity-words a b e) = let i = two n k a b in let j = one n (suc (redo_barrier n k)) (omega arith) in omega arith
    go (clears a e) = absurd (omega arith)

redo-some : (n k : ℕ) → 0 < redo_calls n k
redo-some n k = go (redo-part n k)
  where
    go : RedoPart n k (redo_barrier n k) → 0 < redo_calls n k
    go (data-words a e) = let i = three n k a in omega arith
    go (parity-words a b e) = let i = two n k a b in omega arith
    go (clears a e) = let i = one n k a in omega arith

-- ---- a commit

module _ (n k : ℕ) where
  five : k ≤ 4 * n → commit_calls n k ≡ 5
  unfolding commit_calls
  five l = rw (le-leb k (4 * n) l)

  four : 4 * n < k → k ≤ 4 * n + 3 → commit_calls n k ≡ 4
  unfolding commit_calls
  four l h = rw (lt-leb k (4 * n) l, le-leb k (4 * n + 3) h)

  rest : (j : ℕ) → k ≡ 4 * n + 4 + j → commit_calls n k ≡ redo_calls n j
  unfolding commit_calls
  rest j e = rw (lt-leb k (4 * n) (omega arith), lt-leb k (4 * n + 3) (omega arith)) (ap (redo_calls n) (omega arith))

pub commit-first : (n : ℕ) → commit_calls n 0 ≡ 5
commit-first n = five n 0 (omega arith)

pub commit-fewer : (n k : ℕ) → suc (commit_barrier n k) < 6 * n + 9 → commit_calls n (suc (commit_barrier n k)) < commit_calls n k
commit-fewer n k h = go (commit-part n k)
  where
    go : CommitPart n k (commit_barrier n k) → commit_calls n (suc (commit_barrier n k)) < commit_calls n k
    go (entries a e) = let i = five n k a in let j = four n (suc (commit_barrier n k)) (omega arith) (omega arith) in omega arith
    go (both-seals a b e) =
        let i = four n k a b in let j = rest n (suc (commit_barrier n k)) 0 (omega arith) in let t = three n 0 (omega arith) in omega arith
    go (redone j a e) =
        let i = rest n k j a in
        let m = rest n (suc (commit_barrier n k)) (suc (redo_barrier n j)) (omega arith) in
        let f = redo-fewer n j (omega arith) in
        omega arith

pub commit-some : (n k : ℕ) → 0 < commit_calls n k
commit-some n k = go (commit-part n k)
  where
    go : CommitPart n k (commit_barrier n k) → 0 < commit_calls n k
    go (entries a e) = let i = five n k a in omega arith
    go (both-seals a b e) = let i = four n k a b in omega arith
    go (redone j a e) = let i = rest n k j a in let s = redo-some n j in omega arith

-- ---- a recovery

pub recovery-first : (w : Remedy) → recovery_calls w 0 ≤ 3
unfolding recovery_calls
recovery-first (replay l n) = let i = three n 0 (omega arith) in omega arith
recovery-first clear = omega arith
recovery-first nothing = omega arith
recovery-first neither = omega arith

pub recovery-fewer : (sh : Shape) (p : List ℕ) (w : Remedy) (k : ℕ) → k < length (recovery_steps sh p w) → (suc (recovery_barrier w k) ≡ length (recovery_steps sh p w) → ⊥)
    → recovery_calls w (suc (recovery_barrier w k)) < recovery_calls w k
unfolding recovery_barrier recovery_calls
recovery-fewer sh p (replay l n) k i h = redo-fewer n k (let c = replay-count sh p l n in let b = redo-high n k in omega arith)
recovery-fewer sh p clear k i h = absurd (let c = clear-count sh p in omega arith)
recovery-fewer sh p nothing k i h = absurd (unfold recovery_steps in not-suc-le-zero i)
recovery-fewer sh p neither k i h = absurd (unfold recovery_steps in not-suc-le-zero i)

pub recovery-some : (w : Remedy) (k : ℕ) → 0 < recovery_calls w k
unfolding recovery_calls
recovery-some (replay l n) k = redo-some n k
recovery-some clear k = omega arith
recovery-some nothing k = omega arith
recovery-some neither k = omega arith
