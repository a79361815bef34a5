-- A commit and one log: before each step, whatever a cut keeps is a pool that, but for log l, recovery brings to all old or all new, as the
-- seal of the other log says (`Spared`). Of one entry or more over a clean pool (`Setting`), and then of a run (`Input`). Assumes nothing else.
use mathlib.Core.Path.{◌≡◌, refl, sym, ap, ◌∙◌, subst}
use mathlib.Core.Logic.{◌≢◌, ◌⊎◌, inl, inr}
use mathlib.Core.Bool.{Bool, true, false, ◌||◌, false≢true}
use mathlib.Core.List.Sublistᴰ
use mathlib.Core.List.{List, [], ◌∷◌, ◌++◌, map, Sublistᴰ}
use Prim.Native.Nat.{ℕ, ◌+◌, ◌*◌, ◌≤◌, ◌<◌}
use native.Mathlib.Nat.{le_refl, not-suc-le-zero}
use native.Mathlib.Omega.{arith}
use borrow.Author.Tests.{ne_eqb}
use lib.ListN.{length, drop}
use Rattle.rules.specs.Words.{put, word}
use Rattle.rules.specs.Shape.{Shape, log_a, log_b, pool_size}
use Rattle.rules.specs.Header.{shape_in}
use Rattle.rules.specs.Staging.{Store, Transaction, lay}
use Rattle.rules.proofs.Words.{length-put, put-out}
use Rattle.rules.proofs.Shape.{Good}
use Rattle.rules.proofs.Stores.{All, Fact, Fit, all_map, all-sub, bytes-lay, lay-every, length-lay}
use Rattle.powercut.specs.Log.{Log, from_a, from_b, log_at, seal_of}
use Rattle.powercut.specs.Steps.{Step, barrier, commit_steps, redo, seals, store}
use Rattle.powercut.specs.Power.{State, act, any_seal}
use Rattle.powercut.specs.WholeRun.{Run, entries, holding}
use Rattle.powercut.specs.Scribble.{any_seal_in, is_seal_in, other, reached_in}
use Rattle.powercut.proofs.StepRun.{Clean, Entries, StepRun, at_commit}
use Rattle.powercut.proofs.FinalPool.{Setting}
use Rattle.powercut.proofs.Logs.{even-log, in-log}
use Rattle.powercut.proofs.CrashSafe.{CrashSafe, makes-stores, phase, safe-now, safe-step, st}
use Rattle.powercut.proofs.Redo.{AfterCut, CleanAt, CutLog, Done, ReplayAt, Source, clean-seal, logs, redo-crash-safe}
use Rattle.powercut.proofs.CommitCrashSafe.{Apart, R₁, SealStore, b₁, clean-old, is-seal, l₁, logs-R₁, no-seals, p₁, sealed, seals-all}
use Rattle.powercut.proofs.StepRunClaim.{setting}
use Rattle.powercut.proofs.StepPool.{along-commit, reached-act}
use Rattle.powercut.proofs.Alike.{Alike, RedoStep, SameOff, alike-act, alike-cut, lift, redo-steps, same-lay}
use Rattle.powercut.proofs.ScribbledRun.{Spared}
use Rattle.powercut.proofs.RunInput.{Input, clean, entries-good, good}
use Rattle.powercut.proofs.RunMatches.{run-matches, some-step-run}
use Rattle.powercut.proofs.SealsReached.{none_in, reached-cut, seal-in, seals-in}

module _ (sh : Shape) (es : List Store) (p₀ : List ℕ) (l : Log) where
  -- whatever a cut keeps
  abbrev pub CutSpared : ℕ → State → Type 0
  CutSpared n s = (kept : List Store) → Sublistᴰ kept s.pend → Spared sh es p₀ l (s.reached || any_seal_in sh es (other l) kept) (lay s.base kept)

-- a pool differs from itself in no byte
same-off : (sh : Shape) (l : Log) (p : List ℕ) → SameOff sh l p p
same-off sh l p = record { size = refl; same = λ i o. refl }

-- the place of a seal is that of log l or of the other
which-log : (sh : Shape) (l : Log) (a : ℕ) → (a ≡ log_a sh) ⊎ (a ≡ log_b sh) → (a ≡ log_at sh l) ⊎ (a ≡ log_at sh (other l))
unfolding other
which-log sh from_a a h = h
which-log sh from_b a (inl e) = inr e
which-log sh from_b a (inr e) = inl e

log-place : (sh : Shape) (l : Log) (a : ℕ) → a ≡ log_at sh l → (a ≡ log_a sh) ⊎ (a ≡ log_b sh)
log-place sh from_a a e = inl e
log-place sh from_b a e = inr e

module _ (sh : Shape) (es : List Store) (p₀ : List ℕ) (c : Setting sh es p₀) (l : Log) where
  logs-apart : log_at sh (other l) ≢ log_at sh l
  unfolding other
  logs-apart = go l where
    m : 256 ≤ sh.page
    m = c.good.page-min

    go : (l : Log) → log_at sh (other l) ≢ log_at sh l
    go from_a e = omega (arith, m)
    go from_b e = omega (arith, m)

  -- ---- part 1: no seal is stored, and both stay zero
  spared₁ : (n : ℕ) (d : List Store) → All (R₁ sh es p₀ c) d → CutSpared sh es p₀ l n (st p₀ d false)
  spared₁ n d w kept s =
      let k = all-sub (R₁ sh es p₀ c) s w in
      let none = no-seals sh es kept (all_map {Q = R₁ sh es p₀ c} {Q' = Apart sh es} (λ a w x. x.1) kept k) in
      let h = clean-old sh es p₀ c kept k in
      subst (λ (b : Bool). Spared sh es p₀ l b (lay p₀ kept)) (sym (none_in sh es (other l) kept none))
      (record { counterpart = lay p₀ kept; same = same-off sh l (lay p₀ kept); after = inl h; zero = clean-seal sh es p₀ c.good (lay p₀ kept) false h l })

  -- ---- part 2: of the stores kept, those of the other log's seal

  abbrev OtherSeal : Fact
  OtherSeal a w = Fit (pool_size sh) a w × (a ≡ log_at sh (other l)) × (w ≡ seal_of es)

  record Others (p q : List ℕ) (kept : List Store) : Type 0 where
    stores : List Store
    all : All OtherSeal stores
    same : SameOff sh l (lay p kept) (lay q stores)
    told : any_seal_in sh es (other l) kept ≡ any_seal_in sh es (other l) stores

  -- a store of log l's seal changes log l alone, and is no seal of the other
  own_put : (p q : List ℕ) (w : ℕ) → SameOff sh l p q → SameOff sh l (put p (log_at sh l) w) q
  own_put p q w h = record {
    size = length-put p (log_at sh l) w ∙ h.size;
    same = λ i o. put-out p (log_at sh l) w i (go i o) ∙ h.same i o;
  }
    where
      go : (i : ℕ) → (i < log_at sh l) ⊎ (log_at sh l + 8 * sh.page ≤ i) → (i < log_at sh l) ⊎ (log_at sh l + 8 ≤ i)
      go i (inl k) = inl k
      go i (inr k) = inr (let m = c.good.page-min in omega arith)

  own-seal : (x : Store) → x.at ≡ log_at sh l → is_seal_in sh es (other l) x ≡ false
  unfolding is_seal_in
  own-seal x e = rw (ne_eqb x.at (log_at sh (other l)) (λ k. logs-apart (sym k ∙ e)))

  others : (kept : List Store) → All (SealStore sh es p₀ c) kept → (p q : List ℕ) → SameOff sh l p q → length p ≡ pool_size sh → Others p q kept
  others [] w p q h e = record { stores = []; all = tt; same = h; told = refl }
  others (x ∷ kept) w p q h e = go (which-log sh l x.at w.0.1) (others kept w.1) where
    e' : length (put p x.at x.val) ≡ pool_size sh
    e' = length-put p x.at x.val ∙ e

    own : x.at ≡ log_at sh l → Others (put p x.at x.val) q kept → Others p q (x ∷ kept)
    own k o = record {
      stores = o.stores;
      all = o.all;
      same = o.same;
      told = ap (λ (b : Bool). b || any_seal_in sh es (other l) kept) (own-seal x k) ∙ o.told;
    }

    add : x.at ≡ log_at sh (other l) → Others (put p x.at x.val) (put q x.at x.val) kept → Others p q (x ∷ kept)
    add k o = record {
      stores = x ∷ o.stores;
      all = ((w.0.0, k, w.0.2), o.all);
      same = o.same;
      told = ap (λ (b : Bool). is_seal_in sh es (other l) x || b) o.told;
    }

    go : (x.at ≡ log_at sh l) ⊎ (x.at ≡ log_at sh (other l))
        → ((p q : List ℕ) → SameOff sh l p q → length p ≡ pool_size sh → Others p q kept) → Others p q (x ∷ kept)
    go (inl k) f = own k (f _ q (subst (λ (a : ℕ). SameOff sh l (put p a x.val) q) (sym k) (own_put p q x.val h)) e')
    go (inr k) f = add k (f _ _ (same-lay sh l c.good p q (x ∷ []) h e (w.0.0, tt)) e')

  -- the pool that they alone are laid in
  other-store : (ys : List Store) → All OtherSeal ys → All (SealStore sh es p₀ c) ys
  other-store ys h =
      all_map {Q = OtherSeal} {Q' = SealStore sh es p₀ c} (λ a w x. (x.0, log-place sh (other l) a x.1, x.2)) ys h

  clean₁ : CleanAt sh es p₀ (p₁ sh es p₀ c) false
  unfolding p₁
  clean₁ = clean-old sh es p₀ c (logs sh es p₀) (logs-R₁ sh es p₀ c)

  other-zero : (ys : List Store) → All OtherSeal ys → word (lay (p₁ sh es p₀ c) ys) (log_at sh l) ≡ 0
  other-zero ys h =
      lay-every (λ a w. a ≡ log_at sh l → w ≡ 0) (p₁ sh es p₀ c) ys (l₁ sh es p₀ c) (λ a ha hn e. ap (word (p₁ sh es p₀ c)) e ∙ clean-seal sh es p₀ c.good (p₁ sh es p₀ c) false clean₁ l)
      (all_map {Q = OtherSeal} {Q' = Fit (pool_size sh)} (λ a w x. x.0) ys h)
      (all_map {Q = OtherSeal} {Q' = λ a w. a ≡ log_at sh l → w ≡ 0} (λ a w x e. absurd (logs-apart (sym x.1 ∙ e))) ys h)
      (log_at sh l) (even-log sh l c.good) (in-log sh l c.good) refl

  other_after : (ys : List Store) → All OtherSeal ys → AfterCut sh es p₀ (lay (p₁ sh es p₀ c) ys) (any_seal_in sh es (other l) ys)
  other_after [] h = inl clean₁
  other_after (y ∷ ys) h =
      subst (λ (b : Bool). AfterCut sh es p₀ (lay (p₁ sh es p₀ c) (y ∷ ys)) (b || any_seal_in sh es (other l) ys)) (sym (seal-in sh es (other l) y h.0.1 h.0.2))
      (inr (refl, sealed sh es p₀ c y ys (other-store (y ∷ ys) h)))

  spared₂ : (n : ℕ) (d : List Store) → All (SealStore sh es p₀ c) d → CutSpared sh es p₀ l n (st (p₁ sh es p₀ c) d false)
  spared₂ n d w kept s =
      let o = others kept (all-sub (SealStore sh es p₀ c) s w) (p₁ sh es p₀ c) (p₁ sh es p₀ c) (same-off sh l (p₁ sh es p₀ c)) (l₁ sh es p₀ c) in
      subst (λ (b : Bool). Spared sh es p₀ l b (lay (p₁ sh es p₀ c) kept)) (sym o.told)
      (record { counterpart = lay (p₁ sh es p₀ c) o.stores; same = o.same; after = other_after o.stores o.all; zero = other-zero o.stores o.all })

  -- ---- parts 3 to 5: the same steps on the pool with the other log's seal alone

  abbrev Reached : State → State → Type 0
  Reached s s' = Alike sh l s s' × (s.reached ≡ true) × (s'.reached ≡ true)

  reached-step : (x : Step) → RedoStep sh x → (s s' : State) → Reached s s' → Reached (act sh es x s) (act sh es x s')
  reached-step x q s s' r = (alike-act sh l c.good es x q s s' r.0, reached-act sh es x s r.1, reached-act sh es x s' r.2)

  cut-spared : (b n : ℕ) (s s' : State) → Reached s s' → CutLog sh es p₀ b n s' → CutSpared sh es p₀ l n s
  cut-spared b n s s' r h kept t =
      let m = alike-cut sh l c.good s s' r.0 kept t in
      let z = h.0 kept (subst (λ (d : List Store). Sublistᴰ kept d) r.0.pend t) in
      let e : (s'.reached || any_seal sh es kept) ≡ (s.reached || any_seal_in sh es (other l) kept) =
      ap (λ (x : Bool). x || any_seal sh es kept) r.2 ∙ sym (ap (λ (x : Bool). x || any_seal_in sh es (other l) kept) r.1) in
      record { counterpart = lay s'.base kept; same = m.0; after = subst (λ (x : Bool). AfterCut sh es p₀ (lay s'.base kept) x) e z; zero = m.1 }

  abbrev Z : List Store
  Z = seals sh (seal_of es)

  redo-spared : CrashSafe sh es (CutSpared sh es p₀ l) (λ s. Unit {0}) (redo sh es) (st (lay (p₁ sh es p₀ c) Z) [] true)
  redo-spared = go o.stores o.all o.same (sym o.told ∙ seals-in sh es (other l)) where
    o : Others (p₁ sh es p₀ c) (p₁ sh es p₀ c) Z
    o = others Z (seals-all sh es p₀ c) (p₁ sh es p₀ c) (p₁ sh es p₀ c) (same-off sh l (p₁ sh es p₀ c)) (l₁ sh es p₀ c)

    go : (ys : List Store) → All OtherSeal ys → SameOff sh l (lay (p₁ sh es p₀ c) Z) (lay (p₁ sh es p₀ c) ys) → any_seal_in sh es (other l) ys ≡ true
        → CrashSafe sh es (CutSpared sh es p₀ l) (λ s. Unit {0}) (redo sh es) (st (lay (p₁ sh es p₀ c) Z) [] true)
    go [] h m e = absurd (false≢true e)
    go (y ∷ ys) h m e = which k.pair.kind where
      q : List ℕ
      q = lay (p₁ sh es p₀ c) (y ∷ ys)

      k : ReplayAt sh es p₀ q
      k = sealed sh es p₀ c y ys (other-store (y ∷ ys) h)

      alike : Alike sh l (st (lay (p₁ sh es p₀ c) Z) [] true) (st q [] true)
      alike = record {
        pend = refl;
        pool = m;
        length-is = length-lay (p₁ sh es p₀ c) Z ∙ l₁ sh es p₀ c;
        bytes = bytes-lay (p₁ sh es p₀ c) Z (b₁ sh es p₀ c);
        zero = other-zero (y ∷ ys) h;
        stores = tt;
      }

      from : (b : ℕ) → Source sh es p₀ k.pair.v_a k.pair.v_b b
          → CrashSafe sh es (CutSpared sh es p₀ l) (λ s. Unit {0}) (redo sh es) (st (lay (p₁ sh es p₀ c) Z) [] true)
      from b x =
          lift sh es Reached reached-step (CutSpared sh es p₀ l) (CutLog sh es p₀ b) (λ s. Unit {0}) (Done sh es p₀) (cut-spared b) (λ s s' r d. tt)
          (redo sh es) (redo-steps sh c.good es c.entries) _ (st q [] true) (alike, refl, refl) (redo-crash-safe sh es p₀ c q k b x)

      which : (k.pair.v_a ≡ seal_of es) ⊎ ((k.pair.v_a ≡ 0) × (k.pair.v_b ≡ seal_of es))
          → CrashSafe sh es (CutSpared sh es p₀ l) (λ s. Unit {0}) (redo sh es) (st (lay (p₁ sh es p₀ c) Z) [] true)
      which (inl v) = from (log_a sh) (inl (refl, v))
      which (inr v) = from (log_b sh) (inr (refl, v.1))

  -- ---- from 2 on, and all
  seals-spared : CrashSafe sh es (CutSpared sh es p₀ l) (λ s. Unit {0}) (map store Z ++ barrier ∷ redo sh es) (st (p₁ sh es p₀ c) [] false)
  seals-spared =
      phase sh es (CutSpared sh es p₀ l) (λ s. Unit {0}) (SealStore sh es p₀ c) (p₁ sh es p₀ c) false (redo sh es) 2 (λ m hn. spared₂ 0) (map store Z) Z [] (le_refl 2)
      (makes-stores sh es (SealStore sh es p₀ c) (p₁ sh es p₀ c) false Z) tt (seals-all sh es p₀ c)
      (rw (is-seal sh es (record { at = log_a sh; val = seal_of es }) (inl refl) refl) redo-spared)

  parts-spared : CrashSafe sh es (CutSpared sh es p₀ l) (λ s. Unit {0})
      (map store (logs sh es p₀) ++ barrier ∷ (map store Z ++ barrier ∷ redo sh es)) (st p₀ [] false)
  unfolding p₁
  parts-spared =
      phase sh es (CutSpared sh es p₀ l) (λ s. Unit {0}) (R₁ sh es p₀ c) p₀ false _ (length (map store L)) (λ m hn. spared₁ 0) (map store L) L [] (le_refl _)
      (makes-stores sh es (R₁ sh es p₀ c) p₀ false L) tt (logs-R₁ sh es p₀ c)
      (rw (no-seals sh es L (all_map {Q = R₁ sh es p₀ c} {Q' = Apart sh es} (λ a w x. x.1) L (logs-R₁ sh es p₀ c))) seals-spared)
    where
      L : List Store
      L = logs sh es p₀

pub commit-spared : (sh : Shape) (es : List Store) (p₀ : List ℕ) → Setting sh es p₀ → (l : Log)
    → CrashSafe sh es (CutSpared sh es p₀ l) (λ s. Unit {0}) (commit_steps sh es) (st p₀ [] false)
unfolding commit_steps
commit-spared sh [] p₀ c l = absurd (not-suc-le-zero c.some)
commit-spared sh (e ∷ es) p₀ c l = parts-spared sh (e ∷ es) p₀ c l

-- ---- along a run by step numbers

step-run-spared : (sh : Shape) (es : List Store) (p₀ : List ℕ) → Setting sh es p₀ → (l : Log) {k : ℕ} {s : State} → StepRun sh es p₀ (at_commit k) s → CutSpared sh es p₀ l 0 s
step-run-spared sh es p₀ c l {k} {s} r =
    safe-now sh es I (λ s. Unit {0}) (drop k (commit_steps sh es)) s
    (along-commit sh es p₀ (λ k s. CrashSafe sh es I (λ s. Unit {0}) (drop k (commit_steps sh es)) s) (commit-spared sh es p₀ c l)
    (λ k s. safe-step sh es I (λ s. Unit {0}) (commit_steps sh es) k s) r)
  where
    I : ℕ → State → Type 0
    I = CutSpared sh es p₀ l

-- no entries: the commit has no step
module _ (sh : Shape) (p₀ : List ℕ) where
  run-begun : {k : ℕ} {s : State} → StepRun sh [] p₀ (at_commit k) s → st p₀ [] false ≡ s
  unfolding commit_steps
  run-begun = along-commit sh [] p₀ (λ k s. st p₀ [] false ≡ s) refl (λ k s h e. absurd (not-suc-le-zero h))

  module _ (q : Clean sh p₀) where
    clean-empty : CleanAt sh [] p₀ p₀ false
    clean-empty = record {
      length-is = q.length-is;
      bytes = q.bytes;
      every = λ a ha hn. record { sa = λ e. ap (word p₀) e ∙ q.seal_a; sb = λ e. ap (word p₀) e ∙ q.seal_b; log = tt; out = λ o. refl };
    }

    seal-empty : (l : Log) → word p₀ (log_at sh l) ≡ 0
    seal-empty from_a = q.seal_a
    seal-empty from_b = q.seal_b

    empty-spared : (l : Log) → Spared sh [] p₀ l false p₀
    empty-spared l = record { counterpart = p₀; same = same-off sh l p₀; after = inl clean-empty; zero = seal-empty l }

-- ---- of a run

-- what a cut of a commit leaves, with whether the other log's seal is then in memory
abbrev CutLeaves : (sh : Shape) (es : List Store) (p₀ : List ℕ) (l : Log) → Bool → List ℕ → Type 0
CutLeaves sh es p₀ l b p = Spared sh es p₀ l b p × (b ≡ true → Setting sh es p₀)

cut-leaves : (sh : Shape) → Good sh → (p₀ : List ℕ) (es : List Store) → Clean sh p₀ → Entries sh es → (l : Log) {k : ℕ} {s : State} {kept : List Store}
    → StepRun sh es p₀ (at_commit k) s → Sublistᴰ kept s.pend → CutLeaves sh es p₀ l (s.reached || any_seal_in sh es (other l) kept) (lay s.base kept)
cut-leaves sh g p₀ [] q h l {s = s} {kept = kept} r t =
    let e = run-begun sh p₀ r in
    let n : kept ≡ [] = Sublistᴰ.eq-nil (subst (λ (x : State). Sublistᴰ kept x.pend) (sym e) t) in
    subst (λ (x : List Store). CutLeaves sh [] p₀ l (s.reached || any_seal_in sh [] (other l) x) (lay s.base x)) (sym n)
    (subst (λ (x : State). CutLeaves sh [] p₀ l (x.reached || false) x.base) e (empty-spared sh p₀ q l, λ z. absurd (false≢true z)))
cut-leaves sh g p₀ (e ∷ es) q h l {kept = kept} r t = let c = setting sh g e es p₀ q h in (step-run-spared sh (e ∷ es) p₀ c l r kept t, λ z. c)

module _ (inp : Input) (l : Log) where
  abbrev sh : Shape
  sh = shape_in inp.pool

  abbrev es : List Store
  es = entries inp.pool inp.staging inp.ks

  -- THE FIRST CUT: but for log l, it leaves all old, all new or what is to be replayed, as the other log's seal says
  pub first-cut : {t : Transaction} {s : State} {kept : List Store} (r : Run inp.pool inp.staging inp.ks (holding t) s) (k : Sublistᴰ kept s.pend)
      → Spared sh es inp.pool l (reached_in inp.pool inp.staging inp.ks (other l) (Run.cut {kept = kept} r k)) (lay s.base kept)
      × (reached_in inp.pool inp.staging inp.ks (other l) (Run.cut {kept = kept} r k) ≡ true → Setting sh es inp.pool)
  first-cut {t} {s} {kept} r k =
      subst (λ (b : Bool). CutLeaves sh es inp.pool l b (lay s.base kept)) (sym (reached-cut inp (other l) r k))
      (cut-leaves sh (good inp) inp.pool es (clean inp) (entries-good inp) l (some-step-run inp t.phase s (run-matches inp r).1).1 k)
