-- The actions by number are those of the steps of 01, way out by way out; and an action applied is the step made. Assumes nothing.
use mathlib.Core.Path.{◌≡◌, refl, sym, ap, ap₂, ◌∙◌}
use mathlib.Core.Bool.{true}
use mathlib.Core.List.{List, [], ◌∷◌}
use Prim.Native.Nat.{ℕ, zero, suc, ◌+◌, ◌*◌, ◌-◌, ◌/◌, ◌%◌, ◌<◌, ◌≤◌}
use native.Mathlib.Nat.{not-suc-le-zero, le_of_suc-le-suc}
use native.Mathlib.Omega.{arith}
use lib.ListN.{length, get_or}
use borrow.Author.Tests.{eq-eqb, le-ltb, lt-ltb, ne_eqb}
use Rattle.rules.specs.Words.{word}
use Rattle.rules.specs.Shape.{InZones, Shape as PoolShape, entry_limit, log_a, log_b, parity_at, pool_size, zones_at}
use Rattle.rules.specs.Staging.{none_at, entries_at}
use Rattle.rules.specs.Parity.{parity_word}
use Rattle.rules.proofs.Bool.{and_split}
use Rattle.rules.proofs.Shape.{fits as word_fits, row_in}
use Rattle.powercut.specs.Log.{seal_of}
use Rattle.powercut.specs.Steps.{Step, barrier, commit_steps, log_stores, parity, recovery_steps, redo, step_pool, store}
use Rattle.powercut.specs.Commit.{made_answer}
use Rattle.powercut.proofs.StepCount.{commit-log, commit-redo, commit-seal, none, redo-barrier, redo-data, redo-parity, redo-tail}
use Rattle.words.specs.Loaded.{Loaded}
use Rattle.layout.specs.declared.Shape.{Shape}
use Rattle.layout.specs.declared.opened.Pool.{Pool}
use Rattle.layout.specs.Meaning.{shape_of}
use Rattle.layout.proofs.Range.{in_range, shape-good}
use Rattle.layout.proofs.Opening.{pool-shaped, shaped-room}
use Rattle.columns.specs.Column.{Word}
use Rattle.pool_log.specs.Targets.{all_fit, fits, read}
use Rattle.pool_log.proofs.Targets.{entry, fits-row, loaded_word}
use Rattle.pool_log.proofs.Logs.{length-read}
use Rattle.actions.specs.declared.Action.{Action}
use Rattle.actions.specs.declared.Action.TheVariants.{Barrier, Store}
use Rattle.actions.specs.Actions.{Computed, Inside, Ready, action_of, answer_of, applied, clear_action, commit_action, log_action, parity_action, redo_action, seal_action}

-- ---- AN ACTION APPLIED IS THE STEP MADE, and tells its answer

pub applied-step : (sh : PoolShape) (x : Step) (p : List ℕ) → applied (action_of sh p x) p ≡ step_pool sh x p
unfolding parity_action
applied-step sh (store x) p = refl
applied-step sh (parity e) p = refl
applied-step sh barrier p = refl

pub answer-step : (sh : PoolShape) (p : List ℕ) (k : ℕ) (x : Step) → answer_of k (action_of sh p x) ≡ made_answer k x
unfolding made_answer parity_action
answer-step sh p k (store x) = refl
answer-step sh p k (parity e) = refl
answer-step sh p k barrier = refl

-- ---- entries by number

pub entry_at : (p : List ℕ) (at n j : ℕ) → j < n → get_or (read p at n) j none ≡ entry p (at + 16 * j)
unfolding read
entry_at p at zero j h = absurd (not-suc-le-zero h)
entry_at p at (suc n) zero h = ap (entry p) {x = at} {y = at + 16 * 0} (omega arith)
entry_at p at (suc n) (suc j) h = entry_at p (at + 16) n j (le_of_suc-le-suc h) ∙ ap (entry p) {x = at + 16 + 16 * j} {y = at + 16 * suc j} (omega arith)

fits-at : (sh : PoolShape) (p : List ℕ) (at n j : ℕ) → all_fit sh (read p at n) ≡ true → j < n → fits sh (word p (at + 16 * j)) ≡ true
unfolding read all_fit fits
fits-at sh p at zero j e h = absurd (not-suc-le-zero h)
fits-at sh p at (suc n) zero e h = ap (λ (a : ℕ). fits sh (word p a)) {x = at + 16 * 0} {y = at} (omega arith) ∙ (and_split (fits sh (word p at)) _ e).0
fits-at sh p at (suc n) (suc j) e h =
    ap (λ (a : ℕ). fits sh (word p a)) {x = at + 16 * suc j} {y = at + 16 + 16 * j} (omega arith)
    ∙ fits-at sh p (at + 16) n j (and_split (none_at (word p at) (entries_at p (at + 16) n)) _ (and_split (fits sh (word p at)) _ e).1).1 (le_of_suc-le-suc h)

fits_in : (sh : PoolShape) (t : ℕ) → fits sh t ≡ true → InZones sh t
fits_in sh t e = let f = fits-row sh t e in record { low = f.1; high = f.2; even = f.0 }

-- ---- part 1

module _ (s : Shape) (p src : List ℕ) (n k : ℕ) (h : k < 4 * n) where
  log-place : (r : ℕ) → r < 4 → k % 4 ≡ r
      → log_action (shape_of s) src k ≡ action_of (shape_of s) p (store (get_or (log_stores (shape_of s) (k / 4) (entry src (0 + 16 * (k / 4)) ∷ [])) r none))
  unfolding log_action
  log-place zero l e = rw (lt-ltb (k % 4) 2 (omega arith)) (ap₂ Store (omega arith) (ap (word src) (omega arith)))
  log-place (suc zero) l e = rw (lt-ltb (k % 4) 2 (omega arith)) (ap₂ Store (omega arith) (ap (word src) (omega arith)))
  log-place (suc (suc zero)) l e = rw (le-ltb (k % 4) 2 (omega arith)) (ap₂ Store (omega arith) (ap (word src) (omega arith)))
  log-place (suc (suc (suc zero))) l e = rw (le-ltb (k % 4) 2 (omega arith)) (ap₂ Store (omega arith) (ap (word src) (omega arith)))
  log-place (suc (suc (suc (suc r)))) l e = absurd (omega arith)

  log_is : log_action (shape_of s) src k ≡ commit_action (shape_of s) p src n k
  unfolding commit_action
  log_is =
      let d : k ≡ 4 * (k / 4) + k % 4 = omega arith in
      let j : k / 4 < n = omega arith in
      let l = length-read src 0 n in
      log-place (k % 4) (omega arith) refl
      ∙ ap (λ x. action_of (shape_of s) p (store (get_or (log_stores (shape_of s) (k / 4) (x ∷ [])) (k % 4) none))) (sym (entry_at src 0 n (k / 4) j))
      ∙ ap (action_of (shape_of s) p) (sym (commit-log (shape_of s) (read src 0 n) (k / 4) (k % 4) (omega arith) (omega arith)))
      ∙ ap (λ (x : ℕ). action_of (shape_of s) p (get_or (commit_steps (shape_of s) (read src 0 n)) x barrier)) (sym d)

-- ---- both seals between barriers

-- what stands behind them is not met, or is barriers
seal-list : (s : Shape) (p : List ℕ) (w k : ℕ) (rest : List Step) → ((j : ℕ) → k ≡ 4 + j → get_or rest j barrier ≡ barrier)
    → seal_action (shape_of s) w k ≡ action_of (shape_of s) p (get_or (barrier ∷ store (record { at = log_a (shape_of s); val = w }) ∷ store (record { at = log_b (shape_of s); val = w }) ∷ barrier ∷ rest) k barrier)
unfolding seal_action
seal-list s p w zero rest h = refl
seal-list s p w (suc zero) rest h = refl
seal-list s p w (suc (suc zero)) rest h = refl
seal-list s p w (suc (suc (suc zero))) rest h = refl
seal-list s p w (suc (suc (suc (suc k)))) rest h =
    rw (ne_eqb (suc (suc (suc (suc k)))) 1 (λ e. omega arith), ne_eqb (suc (suc (suc (suc k)))) 2 (λ e. omega arith), h k (omega arith))

module _ (s : Shape) (w k : ℕ) where
  pub seal-first : (a : ℕ) → k ≡ 1 → a ≡ log_a (shape_of s) → Computed (seal_action (shape_of s) w k) (zones_at (shape_of s)) (Store a w)
  unfolding seal_action
  seal-first a e f = let g = (shape-good s).page-min in record { value = rw (eq-eqb k 1 e, f); inside = omega arith }

  pub seal-second : (b : ℕ) → (k ≡ 1 → ⊥) → k ≡ 2 → b ≡ log_b (shape_of s) → Computed (seal_action (shape_of s) w k) (zones_at (shape_of s)) (Store b w)
  unfolding seal_action
  seal-second b n e f = let g = (shape-good s).page-min in record { value = rw (ne_eqb k 1 n, eq-eqb k 2 e, f); inside = omega arith }

  pub seal-barrier : (k ≡ 1 → ⊥) → (k ≡ 2 → ⊥) → Computed (seal_action (shape_of s) w k) (zones_at (shape_of s)) Barrier
  unfolding seal_action
  seal-barrier f e = record { value = rw (ne_eqb k 1 f, ne_eqb k 2 e); inside = tt }

inside-more : (r : Action) (m n : ℕ) → m ≤ n → Inside r m → Inside r n
inside-more (Store a v) m n h i = omega arith
inside-more Barrier m n h i = tt

computed_more : {a b r : Action} {m n : ℕ} → Computed a m r → a ≡ b → m ≤ n → Computed b n r
computed_more {r = r} {m = m} {n = n} c e h = record { value = c.value ∙ e; inside = inside-more r m n h c.inside }

-- ---- clearing both seals

module _ (p : Pool) (k : ℕ) where
  clear-is : seal_action (shape_of p.shape) 0 (suc k) ≡ clear_action (shape_of p.shape) p.bytes.now k
  unfolding clear_action recovery_steps
  clear-is = seal-list p.shape p.bytes.now 0 (suc k) [] (λ j e. refl)

  zones-in : zones_at (shape_of p.shape) ≤ length p.bytes.now
  zones-in = shaped-room p.bytes.now p.shape (pool-shaped p)

  pub clear-seal : {r : Action} → Computed (seal_action (shape_of p.shape) 0 (k + 1)) (zones_at (shape_of p.shape)) r
      → Computed (clear_action (shape_of p.shape) p.bytes.now k) (length p.bytes.now) r
  clear-seal c = computed_more c (ap (seal_action (shape_of p.shape) 0) (omega arith) ∙ clear-is) zones-in

  pub clear-barrier : 2 ≤ k → Computed (clear_action (shape_of p.shape) p.bytes.now k) (length p.bytes.now) Barrier
  clear-barrier l = computed_more (seal-barrier p.shape 0 (suc k) (λ e. omega arith) (λ e. omega arith)) clear-is zones-in

-- ---- words of an entry

pub data-loaded : (p : List ℕ) (a u v : ℕ) → Loaded 8 p a u → Loaded 8 p (a + 8) v → Store u v ≡ Store (word p a) (word p (a + 8))
data-loaded p a u v e f = ap₂ Store (loaded_word e) (loaded_word f)

-- of the k-th word of part 1
module _ (s : Shape) (p : List ℕ) (n k u : ℕ) (h : k < 4 * n) (f : n ≤ entry_limit) (w : Loaded 8 p (16 * (k / 4) + 8 * (k % 2)) u) where
  pub log-first : (a : ℕ) → k % 4 < 2 → a ≡ log_a (shape_of s) → Computed (log_action (shape_of s) p k) (zones_at (shape_of s)) (Store (a + 16 + (16 * (k / 4) + 8 * (k % 2))) u)
  unfolding log_action
  log-first a l e = let g = (shape-good s).page-min in record { value = rw (lt-ltb (k % 4) 2 l, e, loaded_word w); inside = omega arith }

  pub log-second : (b : ℕ) → 2 ≤ k % 4 → b ≡ log_b (shape_of s) → Computed (log_action (shape_of s) p k) (zones_at (shape_of s)) (Store (b + 16 + (16 * (k / 4) + 8 * (k % 2))) u)
  unfolding log_action
  log-second b l e = let g = (shape-good s).page-min in record { value = rw (le-ltb (k % 4) 2 l, e, loaded_word w); inside = omega arith }

-- ---- a word of the zones, and its parity

module _ (s : Shape) (p : List ℕ) (h : length p ≡ pool_size (shape_of s)) (t : ℕ) (i : InZones (shape_of s) t) where
  word_in : t + 8 ≤ length p
  word_in = let b = word_fits (shape_of s) (shape-good s) t i.even i.high in omega arith

  pub parity-worked : (a v : ℕ) → a ≡ parity_at (shape_of s) t → Word (parity_word (shape_of s) p t) v → Computed (parity_action (shape_of s) p t) (length p) (Store a v)
  unfolding parity_action
  parity-worked a v e f =
      let k = row_in (shape_of s) (shape-good s) t s.rows i (omega arith) in
      let b = word_fits (shape_of s) (shape-good s) (parity_at (shape_of s) t) k.even k.high in
      record { value = ap₂ Store e f.value; inside = omega arith }

-- ---- parts 3 to 5

module _ (s : Shape) (p src : List ℕ) (at n k : ℕ) (h : Ready (shape_of s) p src at n k) where
  pool-holds : zones_at (shape_of s) ≤ length p
  pool-holds = shaped-room p s (record { range = in_range s; size = h.whole })

  pub target-in : (j : ℕ) → j < n → k < 2 * n + 1 → InZones (shape_of s) (word src (at + 16 * j))
  target-in j l u = fits_in (shape_of s) (word src (at + 16 * j)) (fits-at (shape_of s) src at n j (h.right u) l)

  -- step j of the list is what the code made
  redo-at : (a : Action) (x : Step) (j : ℕ) → a ≡ action_of (shape_of s) p x → get_or (redo (shape_of s) (read src at n)) j barrier ≡ x → j ≡ k
      → a ≡ redo_action (shape_of s) p src at n k
  unfolding redo_action
  redo-at a x j e f g = e ∙ ap (action_of (shape_of s) p) (sym f ∙ ap (λ (i : ℕ). get_or (redo (shape_of s) (read src at n)) i barrier) g)

  pub redo-data-out : (a : Action) → k < n → a ≡ Store (word src (at + 16 * k)) (word src (at + 16 * k + 8)) → Computed (redo_action (shape_of s) p src at n k) (length p) a
  redo-data-out a l e =
      let c = length-read src at n in
      record {
        value = redo-at a _ k (e ∙ ap (λ x. action_of (shape_of s) p (store x)) (sym (entry_at src at n k l))) (redo-data (shape_of s) (read src at n) k (omega arith)) refl;
        inside = rw e (word_in s p h.whole (word src (at + 16 * k)) (target-in k l (omega arith)));
      }

  pub redo-barrier-out : k ≡ n → Computed (redo_action (shape_of s) p src at n k) (length p) Barrier
  redo-barrier-out e =
      record { value = redo-at Barrier barrier (length (read src at n)) refl (redo-barrier (shape_of s) (read src at n)) (length-read src at n ∙ sym e); inside = tt }

  pub redo-parity-ready : (t : ℕ) → n ≤ k → (k ≡ n → ⊥) → k < 2 * n + 1 → Loaded 8 src (at + 16 * (k - n - 1)) t → InZones (shape_of s) t
  redo-parity-ready t l g u e = rw (loaded_word e) (target-in (k - n - 1) (omega (arith, g)) u)

  pub redo-parity-out : (a : Action) (t : ℕ) → n ≤ k → (k ≡ n → ⊥) → k < 2 * n + 1 → Loaded 8 src (at + 16 * (k - n - 1)) t
      → Computed (parity_action (shape_of s) p t) (length p) a → Computed (redo_action (shape_of s) p src at n k) (length p) a
  redo-parity-out a t l g u e f =
      let c = length-read src at n in
      let j : k - n - 1 < n = omega (arith, g) in
      let x : length (read src at n) + 1 + (k - n - 1) ≡ k = omega (arith, g) in
      let y : length p ≤ length p = omega arith in
      let w : parity_action (shape_of s) p t ≡ action_of (shape_of s) p (parity (get_or (read src at n) (k - n - 1) none)) =
      ap (parity_action (shape_of s) p) (loaded_word e) ∙ ap (λ z. action_of (shape_of s) p (parity z)) (sym (entry_at src at n (k - n - 1) j)) in
      computed_more f (redo-at _ _ (length (read src at n) + 1 + (k - n - 1)) w (redo-parity (shape_of s) (read src at n) (k - n - 1) (omega arith)) x) y

  pub redo-seal-out : (a : Action) → 2 * n + 1 ≤ k → Computed (seal_action (shape_of s) 0 (k - (2 * n + 1))) (zones_at (shape_of s)) a → Computed (redo_action (shape_of s) p src at n k) (length p) a
  redo-seal-out a l e =
      let c = length-read src at n in
      let x : 2 * length (read src at n) + 1 + (k - (2 * n + 1)) ≡ k = omega arith in
      computed_more e (redo-at (seal_action (shape_of s) 0 (k - (2 * n + 1))) _ _ (seal-list s p 0 (k - (2 * n + 1)) [] (λ j e. refl)) (redo-tail (shape_of s) (read src at n) (k - (2 * n + 1))) x) pool-holds

-- ---- a whole commit

module _ (s : Shape) (p src : List ℕ) (n k : ℕ) (h : Ready (shape_of s) p src 0 n 0) (some : 1 ≤ n) where
  pub ready-later : (j : ℕ) → Ready (shape_of s) p src 0 n j
  ready-later j = record { whole = h.whole; few = h.few; held = h.held; right = λ u. h.right (omega arith) }

  pub commit-log-out : (a : Action) → k < 4 * n → Computed (log_action (shape_of s) src k) (zones_at (shape_of s)) a → Computed (commit_action (shape_of s) p src n k) (length p) a
  commit-log-out a l e = computed_more e (log_is s p src n k l) (pool-holds s p src 0 n 0 h)

  pub commit-seal-out : (a : Action) (w : ℕ) → 4 * n ≤ k → k - 4 * n < 4 → w ≡ seal_of (read src 0 n) → Computed (seal_action (shape_of s) w (k - 4 * n)) (zones_at (shape_of s)) a
      → Computed (commit_action (shape_of s) p src n k) (length p) a
  unfolding commit_action
  commit-seal-out a w l u v e =
      let c = length-read src 0 n in
      let x : 4 * length (read src 0 n) + (k - 4 * n) ≡ k = omega arith in
      computed_more e
      (ap (λ (y : ℕ). seal_action (shape_of s) y (k - 4 * n)) v ∙ seal-list s p (seal_of (read src 0 n)) (k - 4 * n) (redo (shape_of s) (read src 0 n)) (λ j e. absurd (omega arith))
      ∙ ap (action_of (shape_of s) p) (sym (commit-seal (shape_of s) (read src 0 n) (k - 4 * n) (omega arith)) ∙ ap (λ (y : ℕ). get_or (commit_steps (shape_of s) (read src 0 n)) y barrier) x))
      (pool-holds s p src 0 n 0 h)

  pub commit-redo-out : (a : Action) → 4 * n ≤ k → 4 ≤ k - 4 * n → Computed (redo_action (shape_of s) p src 0 n (k - 4 * n - 4)) (length p) a
      → Computed (commit_action (shape_of s) p src n k) (length p) a
  unfolding commit_action redo_action
  commit-redo-out a l u e =
      let c = length-read src 0 n in
      let x : 4 * length (read src 0 n) + 4 + (k - 4 * n - 4) ≡ k = omega arith in
      let y : length p ≤ length p = omega arith in
      computed_more e
      (ap (action_of (shape_of s) p) (sym (commit-redo (shape_of s) (read src 0 n) (k - 4 * n - 4) (omega arith)) ∙ ap (λ (y : ℕ). get_or (commit_steps (shape_of s) (read src 0 n)) y barrier) x)) y
