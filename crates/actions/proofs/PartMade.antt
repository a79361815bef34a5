-- The steps up to the next barrier: a loop over them round by round, a part that stands later in another list, and the ways out. Assumes nothing.
use mathlib.Core.Path.{◌≡◌, refl, sym, ap, ap₂, ◌∙◌}
use mathlib.Core.List.{List, ◌∷◌}
use Prim.Native.Nat.{ℕ, zero, suc, ◌+◌, ◌*◌, ◌-◌, ◌<◌, ◌≤◌}
use native.Mathlib.Omega.{arith}
use lib.ListN.{length, get_or}
use borrow.Author.Tests.{le-leb, lt-leb}
use Rattle.rules.specs.Words.{put, word}
use Rattle.rules.specs.Shape.{InZones, Shape as PoolShape, log_a, log_b, zones_at}
use Rattle.powercut.specs.Log.{seal_of}
use Rattle.powercut.specs.Steps.{Step, barrier, clear, commit_steps, recovery_steps, redo, step_pool, steps_made, store}
use Rattle.powercut.specs.Advance.{between, commit_barrier, redo_barrier}
use Rattle.powercut.proofs.Between.{made-here, made-next, made-past}
use Rattle.powercut.proofs.Parts.{redo-high, redo-low}
use Rattle.powercut.proofs.StepCount.{commit-count, commit-redo, commit-seal, redo-barrier, redo-count, redo-data, redo-tail}
use Rattle.words.specs.Loaded.{Loaded}
use Rattle.layout.specs.declared.Shape.{Shape}
use Rattle.layout.specs.Meaning.{shape_of}
use Rattle.pool_log.specs.Targets.{read}
use Rattle.pool_log.proofs.Logs.{length-read}
use Rattle.actions.specs.declared.Action.{Action}
use Rattle.actions.specs.declared.Action.TheVariants.{Store}
use Rattle.actions.specs.Actions.{Computed, Inside, Ready, applied, commit_action, log_action, parity_action, redo_action}
use Rattle.actions.specs.Parts.{PartMade, seal_steps}
use Rattle.actions.proofs.Actions.{commit-log-out, entry_at, redo-data-out, redo-parity-out, redo-parity-ready}
use Rattle.actions.proofs.Steps.{computed-pool}

-- ---- A LOOP OVER A PART: from step k₀ + 1, at step k + 1, up to the barrier with number e + 1

-- What is left to make of the pool p is what was left of p₀.
pub record Along (sh : PoolShape) (xs : List Step) (e k₀ : ℕ) (p₀ : List ℕ) (k : ℕ) (p : List ℕ) : Type 0 where
  pub from : k₀ ≤ k
  pub to : k ≤ e
  pub kept : length p ≡ length p₀
  pub rest : steps_made sh (between k (suc e) xs) p ≡ steps_made sh (between k₀ (suc e) xs) p₀

module _ {sh : PoolShape} {xs : List Step} {e k₀ : ℕ} {p₀ : List ℕ} where
  pub along-start : k₀ ≤ e → Along sh xs e k₀ p₀ k₀ p₀
  along-start l = record { from = omega arith; to = l; kept = refl; rest = refl }

  pub along-next : {k j : ℕ} {p q : List ℕ} → Along sh xs e k₀ p₀ k p → k < e → e < length xs → q ≡ step_pool sh (get_or xs k barrier) p → length q ≡ length p → j ≡ suc k → Along sh xs e k₀ p₀ j q
  along-next {k} {p = p} a l u f g i =
      record { from = omega arith; to = omega arith; kept = g ∙ a.kept; rest = rw (i, f) (sym (made-next sh k (suc e) xs p (omega arith) (omega arith)) ∙ a.rest) }

  pub along-end : {k r : ℕ} {p : List ℕ} → Along sh xs e k₀ p₀ k p → e ≤ k → e < length xs → get_or xs e barrier ≡ barrier → r ≡ suc e → PartMade sh xs k₀ e p₀ p r
  along-end {k} {p = p} a l u b f =
      let i : k ≡ e = omega arith in
      record {
        bytes =
            sym (made-here sh (suc e) xs p) ∙ ap (λ x. steps_made sh (between (suc e) (suc e) xs) (step_pool sh x p)) (sym b)
            ∙ sym (made-next sh e (suc e) xs p (omega arith) u) ∙ ap (λ (j : ℕ). steps_made sh (between j (suc e) xs) p) (sym i) ∙ a.rest;
        number = f;
      }

-- ---- A PART OF A LIST THAT STANDS LATER IN ANOTHER

module _ (sh : PoolShape) (xs ys : List Step) (b : ℕ) (room : b + length ys ≤ length xs) (same : (i : ℕ) → i < length ys → get_or xs (b + i) barrier ≡ get_or ys i barrier) where
  made-later : (m j : ℕ) (p : List ℕ) → j + m ≤ length ys → steps_made sh (between (b + j) (b + (j + m)) xs) p ≡ steps_made sh (between j (j + m) ys) p
  made-later zero j p l = made-past sh (b + j) (b + (j + zero)) xs p (omega arith) ∙ sym (made-past sh j (j + zero) ys p (omega arith))
  made-later (suc m) j p l =
      made-next sh (b + j) (b + (j + suc m)) xs p (omega arith) (omega arith)
      ∙ ap (λ x. steps_made sh (between (suc (b + j)) (b + (j + suc m)) xs) (step_pool sh x p)) (same j (omega arith))
      ∙ ap₂ (λ (u v : ℕ). steps_made sh (between u v xs) (step_pool sh (get_or ys j barrier) p)) {x = suc (b + j)} {y = b + suc j} {u = b + (j + suc m)} {v = b + (suc j + m)} (omega arith) (omega arith)
      ∙ made-later m (suc j) (step_pool sh (get_or ys j barrier) p) (omega arith)
      ∙ ap (λ (v : ℕ). steps_made sh (between (suc j) v ys) (step_pool sh (get_or ys j barrier) p)) {x = suc j + m} {y = j + suc m} (omega arith)
      ∙ sym (made-next sh j (j + suc m) ys p (omega arith) (omega arith))

  pub part-later : {j e r : ℕ} {p q : List ℕ} → j ≤ e → e < length ys → PartMade sh ys j e p q r → PartMade sh xs (b + j) (b + e) p q (b + r)
  part-later {j} {e} {p = p} l u h =
      let d : j + (suc e - j) ≡ suc e = omega arith in
      record {
        bytes =
            h.bytes ∙ ap (λ (v : ℕ). steps_made sh (between j v ys) p) (sym d) ∙ sym (made-later (suc e - j) j p (omega arith))
            ∙ ap (λ (v : ℕ). steps_made sh (between (b + j) v xs) p) {x = b + (j + (suc e - j))} {y = suc (b + e)} (omega arith);
        number = let n = h.number in omega arith;
      }

pub part-to : {sh : PoolShape} {xs : List Step} {k e k' e' r : ℕ} {p q : List ℕ} → k ≡ k' → e ≡ e' → PartMade sh xs k e p q r → PartMade sh xs k' e' p q r
part-to f g h = rw (← f, ← g) h

-- ---- what a part asks stays

pub ready-kept : {sh : PoolShape} {p q src : List ℕ} {at n k j : ℕ} → Ready sh p src at n k → length q ≡ length p → k ≤ j → Ready sh q src at n j
ready-kept h e l = record { whole = e ∙ h.whole; few = h.few; held = h.held; right = λ u. h.right (omega arith) }

-- ---- part 1

module _ (sh : PoolShape) (src : List ℕ) (n : ℕ) where
  abbrev commit_of : List Step
  commit_of = commit_steps sh (read src 0 n)

  commit-long : 1 ≤ n → length commit_of ≡ 6 * n + 9
  commit-long some = let l = length-read src 0 n in commit-count sh (read src 0 n) (omega arith) ∙ ap (λ (x : ℕ). 6 * x + 9) l

module _ (s : Shape) (p₀ src : List ℕ) (n k₀ : ℕ) (h : Ready (shape_of s) p₀ src 0 n 0) (some : 1 ≤ n) where
  abbrev listed : List Step
  listed = commit_of (shape_of s) src n

  module _ {i : ℕ} {p : List ℕ} (a : Along (shape_of s) listed (4 * n) k₀ p₀ i p) where
    module _ {x : Action} (l : i < 4 * n) (c : Computed (log_action (shape_of s) src i) (zones_at (shape_of s)) x) where
      log-made : Computed (commit_action (shape_of s) p src n i) (length p) x
      log-made = commit-log-out s p src n i (ready-kept h a.kept (omega arith)) some x l c

      pub log-inside : Inside x (length p)
      log-inside = log-made.inside

      pub log-next : {q : List ℕ} → q ≡ applied x p → length q ≡ length p → Along (shape_of s) listed (4 * n) k₀ p₀ (i + 1) q
      unfolding commit_action
      log-next e f = along-next a l (let m = commit-long (shape_of s) src n some in omega arith) (e ∙ computed-pool (shape_of s) p (get_or listed i barrier) _ x (length p) log-made refl) f (omega arith)

    pub log-end : 4 * n ≤ i → PartMade (shape_of s) listed k₀ (4 * n) p₀ p (4 * n + 1)
    log-end l =
        let m = commit-long (shape_of s) src n some in
        let c = length-read src 0 n in
        along-end a l (omega arith) (ap (λ (x : ℕ). get_or listed x barrier) {x = 4 * n} {y = 4 * length (read src 0 n) + 0} (omega arith) ∙ commit-seal (shape_of s) (read src 0 n) 0 (omega arith)) (omega arith)

-- ---- parts 3 and 4

module _ (sh : PoolShape) (src : List ℕ) (at n : ℕ) where
  abbrev redo_of : List Step
  redo_of = redo sh (read src at n)

  redo-long : length redo_of ≡ 2 * n + 5
  redo-long = redo-count sh (read src at n) ∙ ap (λ (x : ℕ). 2 * x + 5) (length-read src at n)

  module _ {k₀ i : ℕ} {p₀ p : List ℕ} where
    pub data-next : {x : Action} {q : List ℕ} → Along sh redo_of n k₀ p₀ i p → i < n → x ≡ Store (word src (at + 16 * i)) (word src (at + 16 * i + 8)) → q ≡ applied x p → length q ≡ length p
        → Along sh redo_of n k₀ p₀ (i + 1) q
    data-next a l w e f =
        let m = redo-long in
        let c = length-read src at n in
        along-next a l (omega arith)
        (e ∙ ap (λ y. applied y p) w ∙ ap (λ y. step_pool sh y p) (sym (redo-data sh (read src at n) i (omega arith) ∙ ap store (entry_at src at n i l)))) f (omega arith)

    pub data-end : Along sh redo_of n k₀ p₀ i p → n ≤ i → PartMade sh redo_of k₀ n p₀ p (n + 1)
    data-end a l =
        let m = redo-long in
        along-end a l (omega arith) (ap (λ (x : ℕ). get_or redo_of x barrier) (sym (length-read src at n)) ∙ redo-barrier sh (read src at n)) (omega arith)

module _ (s : Shape) (p₀ src : List ℕ) (at n k₀ : ℕ) where
  abbrev steps_of : List Step
  steps_of = redo (shape_of s) (read src at n)

  pub data-inside : {i : ℕ} {p : List ℕ} {x : Action} → Ready (shape_of s) p₀ src at n k₀ → Along (shape_of s) steps_of n k₀ p₀ i p → i < n
      → x ≡ Store (word src (at + 16 * i)) (word src (at + 16 * i + 8)) → Inside x (length p)
  data-inside {i} {p} {x} h a l e = (redo-data-out s p src at n i (ready-kept h a.kept a.from) x l e).inside

  module _ (h : Ready (shape_of s) p₀ src at n (n + 1 + k₀)) {i : ℕ} {p : List ℕ} (a : Along (shape_of s) steps_of (2 * n + 1) (n + 1 + k₀) p₀ (n + 1 + i) p) where
    pub parity-end : n ≤ i → PartMade (shape_of s) steps_of (n + 1 + k₀) (2 * n + 1) p₀ p (2 * n + 2)
    parity-end l =
        let m = redo-long (shape_of s) src at n in
        let c = length-read src at n in
        along-end a (omega arith) (omega arith)
        (ap (λ (x : ℕ). get_or steps_of x barrier) {x = 2 * n + 1} {y = 2 * length (read src at n) + 1 + 0} (omega arith) ∙ redo-tail (shape_of s) (read src at n) 0) (omega arith)

    module _ (l : i < n) {t : ℕ} (w : Loaded 8 src (at + 16 * i) t) where
      ready : Ready (shape_of s) p src at n (n + 1 + i)
      ready = ready-kept h a.kept a.from

      loaded : Loaded 8 src (at + 16 * (n + 1 + i - n - 1)) t
      loaded = let e : i ≡ n + 1 + i - n - 1 = omega arith in rw (← e) w

      pub parity-ready : InZones (shape_of s) t
      parity-ready = redo-parity-ready s p src at n (n + 1 + i) ready t (omega arith) (λ e. omega arith) (omega arith) loaded

      module _ {x : Action} (c : Computed (parity_action (shape_of s) p t) (length p) x) where
        parity-made : Computed (redo_action (shape_of s) p src at n (n + 1 + i)) (length p) x
        parity-made = redo-parity-out s p src at n (n + 1 + i) ready x t (omega arith) (λ e. omega arith) (omega arith) loaded c

        pub parity-next : {q : List ℕ} → q ≡ applied x p → length q ≡ length p → Along (shape_of s) steps_of (2 * n + 1) (n + 1 + k₀) p₀ (n + 1 + (i + 1)) q
        unfolding redo_action
        parity-next e f =
            along-next a (omega arith) (let m = redo-long (shape_of s) src at n in omega arith)
            (e ∙ computed-pool (shape_of s) p (get_or steps_of (n + 1 + i) barrier) _ x (length p) parity-made refl) f (omega arith)

-- ---- both seals

pub seals-made : (sh : PoolShape) (w j : ℕ) (p x q : List ℕ) → j < 3 → (j ≡ 0 → x ≡ put p (log_a sh) w) → ((j ≡ 0 → ⊥) → x ≡ p) → (j < 2 → q ≡ put x (log_b sh) w) → (2 ≤ j → q ≡ x)
    → PartMade sh (seal_steps sh w) j 2 p q 3
unfolding seal_steps steps_made between
seals-made sh w zero p x q l f g h i = record { bytes = h (omega arith) ∙ ap (λ y. put y (log_b sh) w) (f refl); number = refl }
seals-made sh w (suc zero) p x q l f g h i = record { bytes = h (omega arith) ∙ ap (λ y. put y (log_b sh) w) (g (λ e. omega arith)); number = refl }
seals-made sh w (suc (suc zero)) p x q l f g h i = record { bytes = i (omega arith) ∙ g (λ e. omega arith); number = refl }
seals-made sh w (suc (suc (suc j))) p x q l f g h i = absurd (omega arith)

pub clear-made : (sh : PoolShape) {j r : ℕ} {p q : List ℕ} → PartMade sh (seal_steps sh 0) j 2 p q r → PartMade sh (recovery_steps sh p clear) j 2 p q r
unfolding seal_steps recovery_steps
clear-made sh h = h

-- ---- which part

module _ (sh : PoolShape) (src : List ℕ) (at n k : ℕ) {p q : List ℕ} {r : ℕ} where
  pub redo-by-data : k ≤ n → PartMade sh (redo_of sh src at n) k n p q r → PartMade sh (redo_of sh src at n) k (redo_barrier n k) p q r
  unfolding redo_barrier
  redo-by-data l h = rw (le-leb k n l) h

  pub redo-by-parity : n < k → k ≤ 2 * n + 1 → PartMade sh (redo_of sh src at n) (n + 1 + (k - n - 1)) (2 * n + 1) p q r → PartMade sh (redo_of sh src at n) k (redo_barrier n k) p q r
  unfolding redo_barrier
  redo-by-parity l u h = rw (lt-leb k n l, le-leb k (2 * n + 1) u) (part-to {k = n + 1 + (k - n - 1)} {k' = k} (omega arith) refl h)

  pub redo-by-seals : n < k → 2 * n + 1 < k → k < 2 * n + 5 → PartMade sh (seal_steps sh 0) (k - (2 * n + 2)) 2 p q r → PartMade sh (redo_of sh src at n) k (redo_barrier n k) p q (2 * n + 2 + r)
  unfolding redo_barrier seal_steps
  redo-by-seals l u m h =
      let c = redo-long sh src at n in
      let d = length-read src at n in
      rw (lt-leb k n l, lt-leb k (2 * n + 1) u)
      (part-to {k = 2 * n + 2 + (k - (2 * n + 2))} {e = 2 * n + 2 + 2} {k' = k} {e' = 2 * n + 4} (omega arith) (omega arith)
      (part-later sh (redo_of sh src at n) (seal_steps sh 0) (2 * n + 2) (omega arith)
      (λ i v. ap (λ (x : ℕ). get_or (redo_of sh src at n) x barrier) {x = 2 * n + 2 + i} {y = 2 * length (read src at n) + 1 + suc i} (omega arith) ∙ redo-tail sh (read src at n) (suc i))
      (omega arith) (omega arith) h))

module _ (sh : PoolShape) (src : List ℕ) (n k : ℕ) (some : 1 ≤ n) {p q : List ℕ} {r : ℕ} where
  pub commit-by-log : k ≤ 4 * n → PartMade sh (commit_of sh src n) k (4 * n) p q r → PartMade sh (commit_of sh src n) k (commit_barrier n k) p q r
  unfolding commit_barrier
  commit-by-log l h = rw (le-leb k (4 * n) l) h

  pub commit-by-seals : (w : ℕ) → 4 * n < k → k ≤ 4 * n + 3 → w ≡ seal_of (read src 0 n) → PartMade sh (seal_steps sh w) (k - (4 * n + 1)) 2 p q r
      → PartMade sh (commit_of sh src n) k (commit_barrier n k) p q (4 * n + 1 + r)
  unfolding commit_barrier seal_steps
  commit-by-seals w l u e h =
      let c = commit-long sh src n some in
      let d = length-read src 0 n in
      rw (lt-leb k (4 * n) l, le-leb k (4 * n + 3) u)
      (part-to {k = 4 * n + 1 + (k - (4 * n + 1))} {e = 4 * n + 1 + 2} {k' = k} {e' = 4 * n + 3} (omega arith) (omega arith)
      (part-later sh (commit_of sh src n) (seal_steps sh w) (4 * n + 1) (omega arith)
      (λ i v. ap (λ (x : ℕ). get_or (commit_of sh src n) x barrier) {x = 4 * n + 1 + i} {y = 4 * length (read src 0 n) + suc i} (omega arith) ∙ commit-seal sh (read src 0 n) (suc i) (omega arith) ∙ sealed i v)
      (omega arith) (omega arith) h))
    where
      sealed : (i : ℕ) → i < 3
          → get_or (barrier ∷ store (record { at = log_a sh; val = seal_of (read src 0 n) }) ∷ store (record { at = log_b sh; val = seal_of (read src 0 n) }) ∷ barrier ∷ redo sh (read src 0 n)) (suc i) barrier
          ≡ get_or (seal_steps sh w) i barrier
      sealed zero v = unfold seal_steps in rw e
      sealed (suc zero) v = unfold seal_steps in rw e
      sealed (suc (suc zero)) v = unfold seal_steps in refl
      sealed (suc (suc (suc i))) v = absurd (omega arith)

  pub commit-by-redo : 4 * n < k → 4 * n + 3 < k → k < 6 * n + 9 → PartMade sh (redo_of sh src 0 n) (k - (4 * n + 4)) (redo_barrier n (k - (4 * n + 4))) p q r
      → PartMade sh (commit_of sh src n) k (commit_barrier n k) p q (4 * n + 4 + r)
  unfolding commit_barrier
  commit-by-redo l u m h =
      let c = commit-long sh src n some in
      let d = length-read src 0 n in
      let f = redo-long sh src 0 n in
      let b = redo-low n (k - (4 * n + 4)) (omega arith) in
      let t = redo-high n (k - (4 * n + 4)) in
      rw (lt-leb k (4 * n) l, lt-leb k (4 * n + 3) u)
      (part-to {k = 4 * n + 4 + (k - (4 * n + 4))} {k' = k} (omega arith) refl
      (part-later sh (commit_of sh src n) (redo_of sh src 0 n) (4 * n + 4) (omega arith)
      (λ i v. ap (λ (x : ℕ). get_or (commit_of sh src n) x barrier) {x = 4 * n + 4 + i} {y = 4 * length (read src 0 n) + 4 + i} (omega arith) ∙ commit-redo sh (read src 0 n) i (omega arith))
      b (omega arith) h))
