-- A replay reads its entries from the pool that it writes: they lie before the zones, so that they stay as they were. Assumes nothing.
use mathlib.Core.Path.{◌≡◌, refl, ap, ap₂, ◌∙◌}
use mathlib.Core.Logic.{inl}
use mathlib.Core.List.{List}
use Prim.Native.Nat.{ℕ, ◌+◌, ◌*◌, ◌<◌, ◌≤◌}
use native.Mathlib.Omega.{arith}
use lib.ListN.{length, get_or}
use Rattle.rules.specs.Words.{word}
use Rattle.rules.specs.Shape.{InZones, zones_at}
use Rattle.rules.proofs.Words.{length-put, put-out}
use Rattle.rules.proofs.Shape.{row_in}
use Rattle.powercut.proofs.Untouched.{Untouched, word-untouched}
use Rattle.words.specs.Loaded.{Loaded}
use Rattle.layout.specs.declared.Shape.{Shape}
use Rattle.layout.specs.Meaning.{shape_of}
use Rattle.layout.proofs.Range.{shape-good}
use Rattle.actions.specs.declared.Action.{Action}
use Rattle.actions.specs.declared.Action.TheVariants.{Store}
use Rattle.actions.specs.Actions.{Computed, Ready, applied, parity_action}
use Rattle.actions.proofs.Actions.{target-in}

pub untouched-first : (m : ℕ) (p : List ℕ) → Untouched m p p
untouched-first m p = record { length-is = refl; before = λ i l. refl }

-- what is lent as the entries' bytes is as those
pub untouched-lent : {m : ℕ} {x q p : List ℕ} → x ≡ q → Untouched m q p → Untouched m x p
untouched-lent e u = rw e u

-- a store behind place m
store_kept : {m : ℕ} {p₀ p q : List ℕ} {x : Action} (a v : ℕ) → Untouched m p p₀ → m ≤ a → x ≡ Store a v → q ≡ applied x p → Untouched m q p₀
store_kept {p = p} a v u l e f =
    let g = f ∙ ap (λ y. applied y p) e in
    record { length-is = ap length g ∙ length-put p a v ∙ u.length-is; before = λ i h. ap (λ y. get_or y i 0) g ∙ put-out p a v i (inl (omega arith)) ∙ u.before i h }

-- entry i of the n at `at`, read from the pool p that p₀ has become
module _ (at n : ℕ) {p₀ p : List ℕ} (u : Untouched (at + 16 * n) p p₀) {i : ℕ} (l : i < n) where
  pub entry_kept : {x : Action} → x ≡ Store (word p (at + 16 * i)) (word p (at + 16 * i + 8)) → x ≡ Store (word p₀ (at + 16 * i)) (word p₀ (at + 16 * i + 8))
  entry_kept e =
      let k = word-untouched (at + 16 * n) p p₀ u in
      e ∙ ap₂ Store (k (at + 16 * i) (omega arith)) (k (at + 16 * i + 8) (omega arith))

  pub target-kept : {t : ℕ} → Loaded 8 p (at + 16 * i) t → Loaded 8 p₀ (at + 16 * i) t
  target-kept w = record { value = w.value ∙ unfold word in (word-untouched (at + 16 * n) p p₀ u (at + 16 * i) (omega arith)); small = w.small }

-- the store of its data word, and of a parity word, leaves the entries
module _ (s : Shape) (at n : ℕ) (low : at + 16 * n ≤ zones_at (shape_of s)) {p₀ p q : List ℕ} {x : Action} (u : Untouched (at + 16 * n) p p₀) (f : q ≡ applied x p) where
  pub data-kept : {src : List ℕ} {k i : ℕ} → Ready (shape_of s) p₀ src at n k → k ≤ i → i < n → x ≡ Store (word src (at + 16 * i)) (word src (at + 16 * i + 8)) → Untouched (at + 16 * n) q p₀
  data-kept {src} {k} {i} h b l e = store_kept _ _ u (let z = (target-in s p₀ src at n k h i l (omega arith)).low in omega arith) e f

  pub parity-kept : {t : ℕ} → InZones (shape_of s) t → Computed (parity_action (shape_of s) p t) (length p) x → Untouched (at + 16 * n) q p₀
  unfolding parity_action
  parity-kept {t} h c = store_kept _ _ u (let z = (row_in (shape_of s) (shape-good s) t s.rows h (omega arith)).low in omega arith) c.value f
