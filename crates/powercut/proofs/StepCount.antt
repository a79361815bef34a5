-- The step lists by number: how many steps there are, and which step is number k, as code that goes by the number needs it. Assumes nothing.
use mathlib.Core.Path.{◌≡◌, refl, sym, ap, ◌∙◌, subst}
use mathlib.Core.Bool.{false}
use mathlib.Core.List.{List, [], ◌∷◌, ◌++◌, map}
use Prim.Native.Nat.{ℕ, zero, suc, ◌+◌, ◌*◌, ◌<◌, ◌≤◌}
use native.Mathlib.Nat.{not-suc-le-zero, le_of_suc-le-suc}
use native.Mathlib.Omega.{arith}
use lib.ListN.{length, get_or, length-append, length-map, get_or-append}
use lib.Seq.{get_or-append-add}
use borrow.Author.Tests.{ltb-false}
use Rattle.rules.specs.Shape.{Shape, entry_limit, log_a, log_b, log_head}
use Rattle.rules.specs.Staging.{Store, entries_at}
use Rattle.rules.proofs.Transaction.{entries-count}
use Rattle.powercut.specs.Log.{Log, log_at, seal_of}
use Rattle.powercut.specs.Steps.{Remedy, Step, barrier, clear, commit_steps, log_stores, neither, nothing, parity, recovery_steps, redo, replay, seals, store}
use Rattle.powercut.specs.Recovery.{count_above}

abbrev pub none : Store
none = record { at = 0; val = 0 }

-- element n + k of l ++ m, l of length n
pub at-add : {A : Type 0} (l m : List A) (d : A) (n k : ℕ) → length l ≡ n → get_or (l ++ m) (n + k) d ≡ get_or m k d
at-add l m d n k e = subst (λ (j : ℕ). get_or (l ++ m) (j + k) d ≡ get_or m k d) e (get_or-append-add l m k d)

map_at : (f : Store → Step) (l : List Store) (i : ℕ) → i < length l → get_or (map f l) i barrier ≡ f (get_or l i none)
map_at f [] i h = absurd (not-suc-le-zero h)
map_at f (x ∷ l) zero h = refl
map_at f (x ∷ l) (suc i) h = map_at f l i (le_of_suc-le-suc h)

-- element i of map f l ++ m
front : (f : Store → Step) (l : List Store) (m : List Step) (i : ℕ) → i < length l → get_or (map f l ++ m) i barrier ≡ f (get_or l i none)
front f l m i h = get_or-append (map f l) m barrier i (subst (λ (n : ℕ). i < n) (sym (length-map l f)) h) ∙ map_at f l i h

module _ (sh : Shape) where
  log-length : (i : ℕ) (es : List Store) → length (log_stores sh i es) ≡ 4 * length es
  log-length i [] = refl
  log-length i (e ∷ es) = let h = log-length (suc i) es in omega arith

  pub redo-count : (es : List Store) → length (redo sh es) ≡ 2 * length es + 5
  unfolding redo
  redo-count es =
      let a = length-append (map store es) (barrier ∷ (map parity es ++ barrier ∷ (map store (seals sh 0) ++ barrier ∷ []))) in
      let b = length-append (map parity es) (barrier ∷ (map store (seals sh 0) ++ barrier ∷ [])) in
      let c = length-map es store in let d = length-map es parity in
      omega arith

  -- 6n + 9 steps, none for no entries
  pub commit-count : (es : List Store) → 0 < length es → length (commit_steps sh es) ≡ 6 * length es + 9
  unfolding commit_steps
  commit-count [] h = absurd (not-suc-le-zero h)
  commit-count (e ∷ es) h = let c = log-length 1 es in let d = redo-count (e ∷ es) in simp (length-append, length-map) (omega arith)

  -- parts 3 to 5 by number
  pub redo-data : (es : List Store) (i : ℕ) → i < length es → get_or (redo sh es) i barrier ≡ store (get_or es i none)
  unfolding redo
  redo-data es i h = front store es _ i h

  redo-rest : (es : List Store) (k : ℕ)
      → get_or (redo sh es) (length es + k) barrier ≡ get_or (barrier ∷ (map parity es ++ barrier ∷ (map store (seals sh 0) ++ barrier ∷ []))) k barrier
  unfolding redo
  redo-rest es k = at-add (map store es) _ barrier (length es) k (length-map es store)

  pub redo-barrier : (es : List Store) → get_or (redo sh es) (length es) barrier ≡ barrier
  redo-barrier es = ap (λ (k : ℕ). get_or (redo sh es) k barrier) (omega arith) ∙ redo-rest es 0

  pub redo-parity : (es : List Store) (i : ℕ) → i < length es → get_or (redo sh es) (length es + 1 + i) barrier ≡ parity (get_or es i none)
  redo-parity es i h = ap (λ (k : ℕ). get_or (redo sh es) k barrier) (omega arith) ∙ redo-rest es (suc i) ∙ front parity es _ i h

  pub redo-tail : (es : List Store) (k : ℕ)
      → get_or (redo sh es) (2 * length es + 1 + k) barrier
      ≡ get_or (barrier ∷ store (record { at = log_a sh; val = 0 }) ∷ store (record { at = log_b sh; val = 0 }) ∷ barrier ∷ []) k barrier
  redo-tail es k =
      ap (λ (j : ℕ). get_or (redo sh es) j barrier) (omega arith) ∙ redo-rest es (suc (length es + k))
      ∙ at-add (map parity es) _ barrier (length es) k (length-map es parity)

  -- parts 1 and 2
  log-at : (i : ℕ) (es : List Store) (j r : ℕ) → j < length es → r < 4
      → get_or (log_stores sh i es) (4 * j + r) none
      ≡ get_or (log_stores sh (i + j) (get_or es j none ∷ [])) r none
  log-at i [] j r h l = absurd (not-suc-le-zero h)
  log-at i (e ∷ es) zero r h l =
      ap (λ (k : ℕ). get_or (log_stores sh i (e ∷ es)) k none) {x = 4 * 0 + r} {y = r} (omega arith)
      ∙ get_or-append (log_stores sh i (e ∷ [])) (log_stores sh (suc i) es) none r l
      ∙ ap (λ (k : ℕ). get_or (log_stores sh k (e ∷ [])) r none) {x = i} {y = i + 0} (omega arith)
  log-at i (e ∷ es) (suc j) r h l =
      ap (λ (k : ℕ). get_or (log_stores sh i (e ∷ es)) k none) {x = 4 * suc j + r} {y = 4 + (4 * j + r)} (omega arith)
      ∙ get_or-append-add (log_stores sh i (e ∷ [])) (log_stores sh (suc i) es) (4 * j + r) none
      ∙ log-at (suc i) es j r (le_of_suc-le-suc h) l
      ∙ ap (λ (k : ℕ). get_or (log_stores sh k (get_or es j none ∷ [])) r none) {x = suc i + j} {y = i + suc j} (omega arith)

  -- part 1: step 4j + r is the r-th of entry j's four stores
  pub commit-log : (es : List Store) (j r : ℕ) → j < length es → r < 4
      → get_or (commit_steps sh es) (4 * j + r) barrier ≡ store (get_or (log_stores sh j (get_or es j none ∷ [])) r none)
  unfolding commit_steps
  commit-log [] j r h l = absurd (not-suc-le-zero h)
  commit-log (e ∷ t) j r h l =
      let es : List Store = e ∷ t in
      front store (log_stores sh 0 es) _ (4 * j + r) (let c = log-length 0 es in omega arith)
      ∙ ap store (log-at 0 es j r h l ∙ ap (λ (k : ℕ). get_or (log_stores sh k (get_or es j none ∷ [])) r none) {x = 0 + j} {y = j} (omega arith))

  -- part 2: a barrier, the seals, a barrier; then parts 3 to 5
  pub commit-seal : (es : List Store) (k : ℕ) → 0 < length es
      → get_or (commit_steps sh es) (4 * length es + k) barrier
      ≡ get_or (barrier ∷ store (record { at = log_a sh; val = seal_of es }) ∷ store (record { at = log_b sh; val = seal_of es }) ∷ barrier ∷ redo sh es) k barrier
  unfolding commit_steps
  commit-seal [] k h = absurd (not-suc-le-zero h)
  commit-seal (e ∷ es) k h =
      at-add (map store (log_stores sh 0 (e ∷ es))) _ barrier (4 * length (e ∷ es)) k (length-map (log_stores sh 0 (e ∷ es)) store ∙ log-length 0 (e ∷ es))

  pub commit-redo : (es : List Store) (k : ℕ) → 0 < length es → get_or (commit_steps sh es) (4 * length es + 4 + k) barrier ≡ get_or (redo sh es) k barrier
  commit-redo es k h = ap (λ (j : ℕ). get_or (commit_steps sh es) j barrier) (omega arith) ∙ commit-seal es (suc (suc (suc (suc k)))) h

  -- a recovery's steps: 2n + 5, 3 or none
  pub replay-count : (p : List ℕ) (b : Log) (n : ℕ) → length (recovery_steps sh p (replay b n)) ≡ 2 * n + 5
  unfolding recovery_steps
  replay-count p b n = redo-count (entries_at p (log_at sh b + log_head) n) ∙ ap (λ (k : ℕ). 2 * k + 5) (entries-count p (log_at sh b + log_head) n)

  pub clear-count : (p : List ℕ) → length (recovery_steps sh p clear) ≡ 3
  unfolding recovery_steps
  clear-count p = refl

  pub nothing-count : (p : List ℕ) → length (recovery_steps sh p nothing) ≡ 0
  unfolding recovery_steps
  nothing-count p = refl

  -- whatever the pool
  pub recovery-length : (p q : List ℕ) (r : Remedy) → length (recovery_steps sh p r) ≡ length (recovery_steps sh q r)
  unfolding recovery_steps
  recovery-length p q (replay l n) = replay-count p l n ∙ sym (replay-count q l n)
  recovery-length p q clear = refl
  recovery-length p q nothing = refl
  recovery-length p q neither = refl

  -- at most 2 × 127 + 5
  pub recovery-few : (p : List ℕ) (w : Remedy) → count_above w ≡ false → length (recovery_steps sh p w) ≤ 259
  unfolding count_above
  recovery-few p (replay l n) e = rw (replay-count p l n) (let a = ltb-false entry_limit n e in omega arith)
  recovery-few p clear e = rw (clear-count p) (omega arith)
  recovery-few p nothing e = unfold recovery_steps in omega arith
  recovery-few p neither e = unfold recovery_steps in omega arith
