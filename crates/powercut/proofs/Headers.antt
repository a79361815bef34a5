-- No step stores into the headers: at every moment of a run they are as at the start (`step-run-headers`). Of a clean pool and good
-- entries. Assumes nothing else.
use mathlib.Core.Path.{◌≡◌, refl, sym, ap, ◌∙◌}
use mathlib.Core.Logic.{◌⊎◌, inl, inr}
use mathlib.Core.Bool.{Bool, true, false}
use mathlib.Core.List.{List, [], ◌∷◌}
use Prim.Native.Nat.{ℕ, ◌+◌, ◌*◌, ◌/◌, ◌%◌, ◌≤◌, ◌<◌}
use native.Mathlib.Omega.{arith}
use lib.ListN.{length, get_or}
use Rattle.rules.specs.Words.{Bytes, word}
use Rattle.rules.specs.Shape.{Shape, log_a, pool_size, zones_at}
use Rattle.rules.specs.Staging.{Store, lay}
use Rattle.rules.proofs.Shape.{Good}
use Rattle.rules.proofs.Stores.{Covered, all_map, covered-fact}
use Rattle.powercut.specs.Log.{from_a}
use Rattle.powercut.specs.Power.{State, view}
use Rattle.powercut.proofs.StepRun.{Clean, Entries, Position, StepRun, at_commit, at_cut, at_recovery}
use Rattle.powercut.proofs.FinalPool.{Entry, Setting, final-else, final_pool, pars-low}
use Rattle.powercut.proofs.Redo.{AfterCut, Redo, pars}
use Rattle.powercut.proofs.Logs.{in-log}
use Rattle.powercut.proofs.StepRunInvariant.{after-view, run-inv}
use Rattle.powercut.proofs.ByteParity.{byte-at}
use Rattle.powercut.proofs.StepRunClaim.{InvEmpty, Unchanged, run-unchanged, setting, unchanged-view}

module _ (sh : Shape) (es : List Store) (p₀ : List ℕ) (c : Setting sh es p₀) where
  -- no target and no parity word lies in the headers
  entries-past : (a : ℕ) → a < log_a sh → Covered a es → ⊥
  entries-past a l k =
      let h = covered-fact (λ b. zones_at sh ≤ b) a es k (all_map {Q = Entry sh} {Q' = λ b w. zones_at sh ≤ b} (λ b w e. e.target.inside.low) es c.entries) in
      omega arith

  pars-past : (a : ℕ) → a < log_a sh → Covered a (pars sh es p₀) → ⊥
  pars-past a l k =
      let h = covered-fact (λ b. zones_at sh ≤ b) a (pars sh es p₀) k (pars-low sh c.good (lay p₀ es) es c.entries) in
      omega arith

  -- so their words stay in the final pool
  final-header : (a : ℕ) → a % 8 ≡ 0 → a + 8 ≤ pool_size sh → a < log_a sh → word (final_pool sh p₀ es) a ≡ word p₀ a
  final-header a ha hn l = go (final-else sh es p₀ c a ha hn) where
    go : Covered a es ⊎ (Covered a (pars sh es p₀) ⊎ (word (final_pool sh p₀ es) a ≡ word p₀ a)) → word (final_pool sh p₀ es) a ≡ word p₀ a
    go (inl k) = absurd (entries-past a l k)
    go (inr (inl k)) = absurd (pars-past a l k)
    go (inr (inr e)) = e

-- and in every pool that a cut may leave: from a clean pool; where all is to be new, of one entry or more
module _ (sh : Shape) (g : Good sh) (es : List Store) (p₀ : List ℕ) (o : Clean sh p₀) where
  cut-header : (p : List ℕ) (b : Bool) → (b ≡ true → Setting sh es p₀) → AfterCut sh es p₀ p b
      → (length p ≡ pool_size sh) × Bytes p × ((a : ℕ) → a % 8 ≡ 0 → a + 8 ≤ pool_size sh → a < log_a sh → word p a ≡ word p₀ a)
  cut-header p true c (inl q) = (q.length-is, q.bytes, λ a ha hn l. (q.every a ha hn).out (inl l) ∙ final-header sh es p₀ (c refl) a ha hn l)
  cut-header p false c (inl q) = (q.length-is, q.bytes, λ a ha hn l. (q.every a ha hn).out (inl l))
  cut-header p b c (inr (r, q)) = (q.length-is, q.bytes, λ a ha hn l. go a ha hn l ((q.every a ha hn).out (inl l))) where
    go : (a : ℕ) → a % 8 ≡ 0 → a + 8 ≤ pool_size sh → a < log_a sh → Redo sh es p₀ a (word p a) → word p a ≡ word p₀ a
    go a ha hn l (inl k) = absurd (entries-past sh es p₀ (c r) a l k)
    go a ha hn l (inr (inl k)) = absurd (pars-past sh es p₀ (c r) a l k)
    go a ha hn l (inr (inr e)) = e ∙ final-header sh es p₀ (c r) a ha hn l

  pub header-bytes : (p : List ℕ) (b : Bool) → (b ≡ true → Setting sh es p₀) → AfterCut sh es p₀ p b
      → (length p ≡ length p₀) × ((i : ℕ) → i < log_a sh → get_or p i 0 ≡ get_or p₀ i 0)
  header-bytes p b c h =
      let k = cut-header p b c h in (
        k.0 ∙ sym o.length-is,
        λ i l. byte-at p p₀ i k.1 o.bytes (k.2 (i / 8 * 8) (omega arith) (let m = in-log sh from_a g in omega arith) (omega arith)),
      )

-- THE HEADERS STAY
pub step-run-headers : (sh : Shape) → Good sh → (es : List Store) (p₀ : List ℕ) → Clean sh p₀ → Entries sh es → {f : Position} {s : State} → StepRun sh es p₀ f s
    → (length (view s) ≡ length p₀) × ((i : ℕ) → i < log_a sh → get_or (view s) i 0 ≡ get_or p₀ i 0)
step-run-headers sh g [] p₀ q h {f} {s} r =
    let e = unchanged-view sh p₀ q s (unchanged f (run-unchanged sh p₀ q r)) in
    (ap length e, λ i l. ap (λ (p : List ℕ). get_or p i 0) e)
  where
    unchanged : (f : Position) → InvEmpty sh p₀ q f s → Unchanged sh p₀ q s
    unchanged (at_commit k) h = h
    unchanged at_cut h = h
    unchanged (at_recovery r k) h = h.1
step-run-headers sh g (e ∷ es) p₀ q h {f} {s} r =
    let c = setting sh g e es p₀ q h in
    let v = after-view sh (e ∷ es) p₀ c f s (run-inv sh (e ∷ es) p₀ c r) in
    header-bytes sh g (e ∷ es) p₀ q (view s) v.0 (λ b. c) v.1
