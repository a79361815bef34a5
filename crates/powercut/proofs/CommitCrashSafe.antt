-- Parts 1 and 2 of a commit, then the whole commit: before each step, whatever a cut keeps is a pool that recovery brings to all old or all
-- new. Of one entry or more over a clean pool (`Setting`). Assumes nothing else.
use mathlib.Core.Path.{◌≡◌, refl, sym, ap, ap₂, ◌∙◌, subst}
use mathlib.Core.Logic.{◌≢◌, ◌⊎◌, inl, inr}
use mathlib.Core.Bool.{Bool, true, false, ◌||◌, ◌&&◌}
use mathlib.Core.List.{List, [], ◌∷◌, ◌++◌, map}
use Prim.Native.Nat.{ℕ, ◌+◌, ◌%◌, ◌≤◌}
use native.Mathlib.Nat.{le_refl, not-suc-le-zero}
use native.Mathlib.Decide.{ℕ_discrete}
use native.Mathlib.Omega.{arith}
use borrow.Author.Tests.{eq-eqb, ne_eqb}
use lib.Dec.{eqb}
use lib.ListN.{length}
use Rattle.rules.specs.Words.{Bytes, word}
use Rattle.rules.specs.Shape.{Shape, log_a, log_b, pool_size}
use Rattle.rules.specs.Staging.{Store, lay}
use Rattle.rules.proofs.Stores.{All, Covered, Every, Fact, Fit, Right, all_both, all_map, all-sub, bytes-lay, lay-every, lay-fact, lay-right, length-lay}
use Rattle.powercut.specs.Log.{seal_of}
use Rattle.powercut.specs.Steps.{barrier, commit_steps, redo, seals, store}
use Rattle.powercut.specs.Power.{any_seal, is_seal}
use Rattle.powercut.proofs.FinalPool.{Setting, final-else, final_pool}
use Rattle.powercut.proofs.Logs.{Inner, log-distinct, seal-lt}
use Rattle.powercut.proofs.CrashSafe.{CrashSafe, makes-stores, phase, safe-map, st}
use Rattle.powercut.proofs.Redo.{Cut, CutLog, Done, Facts, Is, AfterCut, Outside, CleanAt, Redo, ReplayAt, Source, With, even-A, even-B, in-A, in-B, lay-with, logs, logs-fit, logs-inner, pars, redo-crash-safe, seal-facts}

module _ (sh : Shape) (es : List Store) where
  -- a store elsewhere is no seal; a seal's is
  no-seal : (x : Store) → x.at ≢ log_a sh → x.at ≢ log_b sh → is_seal sh es x ≡ false
  unfolding is_seal
  no-seal x a b = rw (ne_eqb x.at (log_a sh) a, ne_eqb x.at (log_b sh) b)

  pub is-seal : (x : Store) → (x.at ≡ log_a sh) ⊎ (x.at ≡ log_b sh) → x.val ≡ seal_of es → is_seal sh es x ≡ true
  unfolding is_seal
  is-seal x (inl a) e = rw (eq-eqb x.at (log_a sh) a, eq-eqb x.val (seal_of es) e)
  is-seal x (inr b) e = rw (eq-eqb x.at (log_b sh) b, eq-eqb x.val (seal_of es) e) (or-true (eqb x.at (log_a sh))) where
    or-true : (t : Bool) → ((t || true) && true) ≡ true
    or-true true = refl
    or-true false = refl

  abbrev pub Apart : Fact
  Apart a w = (a ≢ log_a sh) × (a ≢ log_b sh)

  pub no-seals : (l : List Store) → All Apart l → any_seal sh es l ≡ false
  no-seals [] h = refl
  no-seals (x ∷ l) h = ap₂ ◌||◌ (no-seal x h.0.0 h.0.1) (no-seals l h.1)

module _ (sh : Shape) (es : List Store) (p₀ : List ℕ) (c : Setting sh es p₀) where
  old-redo : (a w : ℕ) → a % 8 ≡ 0 → a + 8 ≤ pool_size sh → w ≡ word p₀ a → Redo sh es p₀ a w
  old-redo a w ha hn e = go (final-else sh es p₀ c a ha hn) where
    go : Covered a es ⊎ (Covered a (pars sh es p₀) ⊎ (word (final_pool sh p₀ es) a ≡ word p₀ a)) → Redo sh es p₀ a w
    go (inl k) = inl k
    go (inr (inl k)) = inr (inl k)
    go (inr (inr k)) = inr (inr (e ∙ sym k))

  -- ---- part 1: the seals stay zero, the rest outside the logs old
  abbrev Q₁ : Fact
  Q₁ = Facts sh (Is 0) (Is 0) (λ a w. Unit {0}) (λ a w. w ≡ word p₀ a)

  abbrev pub R₁ : Fact
  R₁ a w = With sh Q₁ a w × ((a ≢ log_a sh) × (a ≢ log_b sh))

  old-pool : Every (pool_size sh) Q₁ p₀
  old-pool a ha hn = record { sa = λ e. ap (word p₀) e ∙ c.seal_a; sb = λ e. ap (word p₀) e ∙ c.seal_b; log = tt; out = λ o. refl }

  inner-apart : (a w : ℕ) → Inner sh 0 a → Q₁ a w × ((a ≢ log_a sh) × (a ≢ log_b sh))
  inner-apart a w i = (record { sa = λ e. absurd (n_a i e); sb = λ e. absurd (n_b i e); log = tt; out = λ o. absurd (n_o i o) }, (n_a i, n_b i)) where
    m : 256 ≤ sh.page
    m = c.good.page-min

    n_a : Inner sh 0 a → a ≢ log_a sh
    n_a (inl x) e = omega arith
    n_a (inr x) e = omega (arith, m)

    n_b : Inner sh 0 a → a ≢ log_b sh
    n_b (inl x) e = omega arith
    n_b (inr x) e = omega arith

    n_o : Inner sh 0 a → Outside sh a → ⊥
    n_o (inl x) (inl o) = omega arith
    n_o (inl x) (inr o) = omega (arith, m)
    n_o (inr x) (inl o) = omega (arith, m)
    n_o (inr x) (inr o) = omega arith

  pub logs-R₁ : All R₁ (logs sh es p₀)
  logs-R₁ =
      all_map {Q = λ a w. Fit (pool_size sh) a w × Inner sh 0 a} {Q' = R₁} (λ a w x. let y = inner-apart a w x.1 in ((x.0, y.0), y.1)) (logs sh es p₀)
      (all_both (Fit (pool_size sh)) (λ a w. Inner sh 0 a) (logs sh es p₀) (logs-fit sh es p₀ c) (logs-inner sh es p₀ c))

  pub clean-old : (kept : List Store) → All R₁ kept → CleanAt sh es p₀ (lay p₀ kept) false
  clean-old kept w = record {
    length-is = length-lay p₀ kept ∙ c.length-is;
    bytes = bytes-lay p₀ kept c.bytes;
    every = lay-with sh Q₁ p₀ kept c.length-is old-pool (all_map {Q = R₁} {Q' = With sh Q₁} (λ a w x. x.0) kept w);
  }

  cut₁ : (n : ℕ) (d : List Store) → All R₁ d → Cut sh es p₀ n (st p₀ d false)
  cut₁ n d w kept s =
      let k = all-sub R₁ s w in
      subst (λ (r : Bool). AfterCut sh es p₀ (lay p₀ kept) r) (sym (no-seals sh es kept (all_map {Q = R₁} {Q' = Apart sh es} (λ a w x. x.1) kept k)))
      (inl (clean-old kept k))

  -- ---- part 2: the logs hold the entries; a seal is zero or the commit's
  unfoldable pub p₁ : List ℕ
  p₁ = lay p₀ (logs sh es p₀)

  abbrev Q₂ : Fact
  Q₂ = Facts sh (λ w. (w ≡ 0) ⊎ (w ≡ seal_of es)) (λ w. (w ≡ 0) ⊎ (w ≡ seal_of es)) (Right (logs sh es p₀)) (Redo sh es p₀)

  abbrev pub SealStore : Fact
  SealStore a w = Fit (pool_size sh) a w × ((a ≡ log_a sh) ⊎ (a ≡ log_b sh)) × (w ≡ seal_of es)

  logged : Every (pool_size sh) Q₂ p₁
  unfolding p₁
  logged a ha hn =
      let f = (clean-old (logs sh es p₀) logs-R₁).every a ha hn in
      record {
        sa = λ e. inl (f.sa e);
        sb = λ e. inl (f.sb e);
        log = lay-right p₀ (logs sh es p₀) c.length-is (logs-fit sh es p₀ c) (log-distinct sh c.good 0 es (let k = c.few in omega arith)) a ha hn;
        out = λ o. old-redo a (word p₁ a) ha hn (f.out o);
      }

  pub l₁ : length p₁ ≡ pool_size sh
  unfolding p₁
  l₁ = length-lay p₀ (logs sh es p₀) ∙ c.length-is

  pub b₁ : Bytes p₁
  unfolding p₁
  b₁ = bytes-lay p₀ (logs sh es p₀) c.bytes

  -- once a seal is kept, there is a log to replay
  pub sealed : (x : Store) (kept : List Store) → All SealStore (x ∷ kept) → ReplayAt sh es p₀ (lay p₁ (x ∷ kept))
  sealed x kept w = record {
    length-is = length-lay p₁ (x ∷ kept) ∙ l₁;
    bytes = bytes-lay p₁ (x ∷ kept) b₁;
    pair = record {
      v_a = word q (log_a sh);
      v_b = word q (log_b sh);
      kind = kind w.0.1 ((h (log_a sh) (even-A sh es p₀ c) (in-A sh es p₀ c)).sa refl);
      other = (h (log_b sh) (even-B sh es p₀ c) (in-B sh es p₀ c)).sb refl;
    };
    every = λ a ha hn. record { sa = λ e. ap (word q) e; sb = λ e. ap (word q) e; log = (h a ha hn).log; out = (h a ha hn).out };
  }
    where
      q : List ℕ
      q = lay p₁ (x ∷ kept)

      fit : All (Fit (pool_size sh)) (x ∷ kept)
      fit = all_map {Q = SealStore} {Q' = Fit (pool_size sh)} (λ a v y. y.0) (x ∷ kept) w

      h : Every (pool_size sh) Q₂ q
      h = lay-every Q₂ p₁ (x ∷ kept) l₁ logged fit
          (all_map {Q = SealStore} {Q' = Q₂} (λ a v y. seal-facts sh es p₀ c _ _ (Redo sh es p₀) a v y.1 (inr y.2) (inr y.2)) (x ∷ kept) w)

      first : Every (pool_size sh) (λ a v. a ≡ x.at → v ≡ seal_of es) q
      first = lay-fact (λ a v. a ≡ x.at → v ≡ seal_of es) p₁ (x ∷ kept) l₁ (λ a ha hn. or a (ℕ_discrete a x.at)) fit
          (all_map {Q = SealStore} {Q' = λ a v. a ≡ x.at → v ≡ seal_of es} (λ a v y e. y.2) (x ∷ kept) w)
        where
          or : (a : ℕ) → Dec (a ≡ x.at) → Covered a (x ∷ kept) ⊎ (a ≡ x.at → word p₁ a ≡ seal_of es)
          or a (yes e) = inl (inl e)
          or a (no e) = inr (λ i. absurd (e i))

      kind : (x.at ≡ log_a sh) ⊎ (x.at ≡ log_b sh) → (word q (log_a sh) ≡ 0) ⊎ (word q (log_a sh) ≡ seal_of es)
          → (word q (log_a sh) ≡ seal_of es) ⊎ ((word q (log_a sh) ≡ 0) × (word q (log_b sh) ≡ seal_of es))
      kind (inl e) z = inl (first (log_a sh) (even-A sh es p₀ c) (in-A sh es p₀ c) (sym e))
      kind (inr e) (inl z) = inr (z, first (log_b sh) (even-B sh es p₀ c) (in-B sh es p₀ c) (sym e))
      kind (inr e) (inr z) = inl z

  cut₂ : (n : ℕ) (d : List Store) → All SealStore d → Cut sh es p₀ n (st p₁ d false)
  unfolding p₁
  cut₂ n d w kept s = go kept (all-sub SealStore s w) where
    go : (k : List Store) → All SealStore k → AfterCut sh es p₀ (lay p₁ k) (any_seal sh es k)
    go [] w = inl (clean-old (logs sh es p₀) logs-R₁)
    go (x ∷ k) w =
        subst (λ (r : Bool). AfterCut sh es p₀ (lay p₁ (x ∷ k)) (r || any_seal sh es k)) (sym (is-seal sh es x w.0.1 w.0.2)) (inr (refl, sealed x k w))

  pub seals-all : All SealStore (seals sh (seal_of es))
  seals-all = (
    (record { even = even-A sh es p₀ c; inside = in-A sh es p₀ c; small = seal-lt es c.few }, inl refl, refl),
    ((record { even = even-B sh es p₀ c; inside = in-B sh es p₀ c; small = seal-lt es c.few }, inr refl, refl), tt),
  )

  -- ---- parts 3 to 5, from 2 on, and all
  sealed-crash-safe : CrashSafe sh es (Cut sh es p₀) (Done sh es p₀) (redo sh es) (st (lay p₁ (seals sh (seal_of es))) [] true)
  sealed-crash-safe = go h.pair.kind where
    h : ReplayAt sh es p₀ (lay p₁ (seals sh (seal_of es)))
    h = sealed (record { at = log_a sh; val = seal_of es }) (record { at = log_b sh; val = seal_of es } ∷ []) seals-all

    from : (b : ℕ) → Source sh es p₀ h.pair.v_a h.pair.v_b b → CrashSafe sh es (Cut sh es p₀) (Done sh es p₀) (redo sh es) (st (lay p₁ (seals sh (seal_of es))) [] true)
    from b x = safe-map sh es (CutLog sh es p₀ b) (Cut sh es p₀) (Done sh es p₀) (λ n s h. h.0) (redo sh es) _ (redo-crash-safe sh es p₀ c _ h b x)

    go : (h.pair.v_a ≡ seal_of es) ⊎ ((h.pair.v_a ≡ 0) × (h.pair.v_b ≡ seal_of es)) → CrashSafe sh es (Cut sh es p₀) (Done sh es p₀) (redo sh es) (st (lay p₁ (seals sh (seal_of es))) [] true)
    go (inl k) = from (log_a sh) (inl (refl, k))
    go (inr k) = from (log_b sh) (inr (refl, k.1))

  seals-crash-safe : CrashSafe sh es (Cut sh es p₀) (Done sh es p₀) (map store (seals sh (seal_of es)) ++ barrier ∷ redo sh es) (st p₁ [] false)
  seals-crash-safe =
      phase sh es (Cut sh es p₀) (Done sh es p₀) SealStore p₁ false (redo sh es) 2 (λ l hn. cut₂ 0) (map store Z) Z [] (le_refl 2)
      (makes-stores sh es SealStore p₁ false Z) tt seals-all
      (rw (is-seal sh es (record { at = log_a sh; val = seal_of es }) (inl refl) refl) sealed-crash-safe)
    where
      Z : List Store
      Z = seals sh (seal_of es)

  parts-crash-safe : CrashSafe sh es (Cut sh es p₀) (Done sh es p₀)
      (map store (logs sh es p₀) ++ barrier ∷ (map store (seals sh (seal_of es)) ++ barrier ∷ redo sh es)) (st p₀ [] false)
  unfolding p₁
  parts-crash-safe =
      phase sh es (Cut sh es p₀) (Done sh es p₀) R₁ p₀ false _ (length (map store L)) (λ l hn. cut₁ 0) (map store L) L [] (le_refl _)
      (makes-stores sh es R₁ p₀ false L) tt logs-R₁
      (rw (no-seals sh es L (all_map {Q = R₁} {Q' = Apart sh es} (λ a w x. x.1) L logs-R₁)) seals-crash-safe)
    where
      L : List Store
      L = logs sh es p₀

pub commit-crash-safe : (sh : Shape) (es : List Store) (p₀ : List ℕ) → Setting sh es p₀
    → CrashSafe sh es (Cut sh es p₀) (Done sh es p₀) (commit_steps sh es) (st p₀ [] false)
unfolding commit_steps
commit-crash-safe sh [] p₀ c = absurd (not-suc-le-zero c.some)
commit-crash-safe sh (e ∷ l) p₀ c = parts-crash-safe sh (e ∷ l) p₀ c
