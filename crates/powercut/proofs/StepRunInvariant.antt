-- What holds at every moment of a run by step numbers, by induction on it. Of one entry or more over a clean pool (`Setting`). Assumes
-- nothing else.
use mathlib.Core.Path.{◌≡◌, refl, sym, ap, ◌∙◌, subst}
use mathlib.Core.Logic.{◌≢◌, ◌⊎◌, inl, inr, ⊎_elim}
use mathlib.Core.Bool.{Bool, true, false, ◌||◌}
use mathlib.Core.List.Sublistᴰ
use mathlib.Core.List.{List, [], Sublistᴰ}
use Prim.Native.Nat.{ℕ, suc, ◌+◌, ◌*◌, ◌<◌}
use native.Mathlib.Nat.{not-suc-le-zero}
use native.Mathlib.Omega.{arith}
use lib.ListN.{length, get_or, drop, length-drop}
use Rattle.rules.specs.Words.{word}
use Rattle.rules.specs.Shape.{Shape, log_a, log_b, log_head}
use Rattle.rules.specs.Staging.{Store, entries_at, lay}
use Rattle.rules.proofs.Stores.{All}
use Rattle.powercut.specs.Log.{Log, count_in, from_a, from_b, log_at, seal_of, valid}
use Rattle.powercut.specs.Steps.{Remedy, Step, barrier, clear, commit_steps, neither, nothing, recovery_steps, redo, remedy, replay}
use Rattle.powercut.specs.Power.{State, act, any_seal, keep, view}
use Rattle.powercut.proofs.StepRun.{StepRun, Position, again, at_commit, at_cut, at_recovery, begin, cut, cut_again, recover, step}
use Rattle.powercut.proofs.FinalPool.{Setting}
use Rattle.powercut.proofs.Logs.{log-reads, remedy-A, remedy-B, remedy-nothing, seal-count, valid-sealed}
use Rattle.powercut.proofs.CrashSafe.{CrashSafe, safe-end, safe-now, safe-step}
use Rattle.powercut.proofs.Redo.{Cut, CutLog, Done, AfterCut, CleanAt, Source, clean-seal, even-A, even-B, in-A, in-B, logs, redo-crash-safe}
use Rattle.powercut.proofs.CommitCrashSafe.{commit-crash-safe}
use Rattle.powercut.proofs.StepCount.{redo-count}

module _ (sh : Shape) (es : List Store) (p₀ : List ℕ) where
  abbrev pub Inv : Position → State → Type 0
  Inv (at_commit k) s = CrashSafe sh es (Cut sh es p₀) (Done sh es p₀) (drop k (commit_steps sh es)) s
  Inv at_cut s = (s.pend ≡ []) × AfterCut sh es p₀ s.base s.reached
  Inv (at_recovery (replay l n) k) s =
      (n ≡ length es) × CrashSafe sh es (CutLog sh es p₀ (log_at sh l)) (Done sh es p₀) (drop k (redo sh es)) s
  Inv (at_recovery clear k) s = ⊥
  Inv (at_recovery nothing k) s = (s.pend ≡ []) × CleanAt sh es p₀ s.base s.reached
  Inv (at_recovery neither k) s = ⊥

module _ (sh : Shape) (es : List Store) (p₀ : List ℕ) (c : Setting sh es p₀) where
  -- the logs hold the entries: what a recovery reads, and so its steps
  read : (p : List ℕ) (l : Log) → All (λ a w. word p a ≡ w) (logs sh es p₀) → entries_at p (log_at sh l + log_head) (length es) ≡ es
  read p l h = log-reads sh c.good l p 0 es h (log_at sh l + log_head) (omega arith)

  pub steps-redo : (s : State) (l : Log) (n k : ℕ) → Inv sh es p₀ (at_recovery (replay l n) k) s → recovery_steps sh (view s) (replay l n) ≡ redo sh es
  unfolding recovery_steps
  steps-redo s l n k h =
      ap (redo sh) (ap (entries_at (view s) (log_at sh l + log_head)) h.0
      ∙ read (view s) l (safe-now sh es (CutLog sh es p₀ (log_at sh l)) (Done sh es p₀) (drop k (redo sh es)) s h.1).1)

  -- a cut leaves what the power-off invariant says
  cut_off : (s : State) (kept : List Store) (n : ℕ) → Sublistᴰ kept s.pend → Cut sh es p₀ n s → Inv sh es p₀ at_cut (keep sh es s kept)
  unfolding keep
  cut_off s kept n t h = (refl, h kept t)

  view-is : (s : State) → s.pend ≡ [] → view s ≡ s.base
  view-is s e = ap (lay s.base) e

  -- what a recovery finds
  nothing-found : (s : State) → s.pend ≡ [] → CleanAt sh es p₀ s.base s.reached → remedy sh (view s) ≡ nothing
  nothing-found s e h =
      let z = clean-seal sh es p₀ c.good s.base s.reached h in
      ap (remedy sh) (view-is s e) ∙ remedy-nothing sh s.base (z from_a) (z from_b)

  found : (s : State) → Inv sh es p₀ at_cut s → (q : Remedy) × (remedy sh (view s) ≡ q) × Inv sh es p₀ (at_recovery q 0) s
  found s (e, h) = go h where
    p : List ℕ
    p = s.base

    go : AfterCut sh es p₀ s.base s.reached → (q : Remedy) × (remedy sh (view s) ≡ q) × Inv sh es p₀ (at_recovery q 0) s
    go (inl h) = (nothing, nothing-found s e h, (e, h))
    go (inr (r, h)) = which h.pair.kind where
      safe : (b : ℕ) → Source sh es p₀ h.pair.v_a h.pair.v_b b → CrashSafe sh es (CutLog sh es p₀ b) (Done sh es p₀) (redo sh es) s
      safe b x = subst (λ (y : State). CrashSafe sh es (CutLog sh es p₀ b) (Done sh es p₀) (redo sh es) y)
          (sym (λ i. record { base = p; pend = e i; reached = r i })) (redo-crash-safe sh es p₀ c p h b x)

      held : (b : ℕ) → Source sh es p₀ h.pair.v_a h.pair.v_b b → All (λ a w. word p a ≡ w) (logs sh es p₀)
      held b x = subst (λ (y : List ℕ). All (λ a w. word y a ≡ w) (logs sh es p₀)) (view-is s e)
          (safe-now sh es (CutLog sh es p₀ b) (Done sh es p₀) (redo sh es) s (safe b x)).1

      w_a : word p (log_a sh) ≡ h.pair.v_a
      w_a = (h.every (log_a sh) (even-A sh es p₀ c) (in-A sh es p₀ c)).sa refl

      w_b : word p (log_b sh) ≡ h.pair.v_b
      w_b = (h.every (log_b sh) (even-B sh es p₀ c) (in-B sh es p₀ c)).sb refl

      which : (h.pair.v_a ≡ seal_of es) ⊎ ((h.pair.v_a ≡ 0) × (h.pair.v_b ≡ seal_of es)) → (q : Remedy) × (remedy sh (view s) ≡ q) × Inv sh es p₀ (at_recovery q 0) s
      which (inl k) = (
        replay from_a (length es),
        ap (remedy sh) (view-is s e) ∙ remedy-A sh es c.few c.some c.targets p (w_a ∙ k) (read p from_a (held (log_a sh) (inl (refl, k)))),
        (refl, safe (log_a sh) (inl (refl, k))),
      )
      which (inr k) = (
        replay from_b (length es),
        ap (remedy sh) (view-is s e) ∙ remedy-B sh es c.few c.some c.targets p (w_a ∙ k.0) (w_b ∙ k.1) (read p from_b (held (log_b sh) (inr (refl, k.1)))),
        (refl, safe (log_b sh) (inr (refl, k.1))),
      )

  -- a step of a recovery, and a cut of one
  again-inv : (q : Remedy) (k : ℕ) (s : State) → Inv sh es p₀ (at_recovery q k) s → k < length (recovery_steps sh (view s) q)
      → Inv sh es p₀ (at_recovery q (suc k)) (act sh es (get_or (recovery_steps sh (view s) q) k barrier) s)
  unfolding recovery_steps
  again-inv (replay b n) k s h l =
      let e = steps-redo s b n k h in (
        h.0,
        subst (λ (m : List Step). CrashSafe sh es (CutLog sh es p₀ (log_at sh b)) (Done sh es p₀) (drop (suc k) (redo sh es)) (act sh es (get_or m k barrier) s)) (sym e)
            (safe-step sh es (CutLog sh es p₀ (log_at sh b)) (Done sh es p₀) (redo sh es) k s (subst (λ (m : List Step). k < length m) e l) h.1),
      )
  again-inv clear k s h l = absurd h
  again-inv nothing k s h l = absurd (not-suc-le-zero l)
  again-inv neither k s h l = absurd h

  nothing-cut : (s : State) (kept : List Store) → s.pend ≡ [] → CleanAt sh es p₀ s.base s.reached → Sublistᴰ kept s.pend
      → AfterCut sh es p₀ (lay s.base kept) (s.reached || any_seal sh es kept)
  nothing-cut s kept h i t =
      let e : kept ≡ [] = Sublistᴰ.eq-nil (subst (λ (l : List Store). Sublistᴰ kept l) h t) in
      subst (λ (l : List Store). AfterCut sh es p₀ (lay s.base l) (s.reached || any_seal sh es l)) (sym e)
      (subst (λ (r : Bool). AfterCut sh es p₀ s.base r) (or-false-right s.reached) (inl i))
    where
      or-false-right : (b : Bool) → b ≡ b || false
      or-false-right true = refl
      or-false-right false = refl

  recovering-cut : (q : Remedy) (k : ℕ) (s : State) → Inv sh es p₀ (at_recovery q k) s → Cut sh es p₀ 0 s
  recovering-cut (replay b n) k s h = (safe-now sh es (CutLog sh es p₀ (log_at sh b)) (Done sh es p₀) (drop k (redo sh es)) s h.1).0
  recovering-cut clear k s h = absurd h
  recovering-cut nothing k s h = λ kept t. nothing-cut s kept h.0 h.1 t
  recovering-cut neither k s h = absurd h

  pub run-inv : {f : Position} {s : State} → StepRun sh es p₀ f s → Inv sh es p₀ f s
  run-inv begin = commit-crash-safe sh es p₀ c
  run-inv (step {k} {s} r l) = safe-step sh es (Cut sh es p₀) (Done sh es p₀) (commit_steps sh es) k s l (run-inv r)
  run-inv (cut {k} {s} {kept} r t) =
      cut_off s kept 0 t (safe-now sh es (Cut sh es p₀) (Done sh es p₀) (drop k (commit_steps sh es)) s (run-inv r))
  run-inv (recover {s} r n) =
      let h = found s (run-inv r) in
      subst (λ (q : Remedy). Inv sh es p₀ (at_recovery q 0) s) (sym h.1) h.2
  run-inv (again {q} {k} {s} r l) = again-inv q k s (run-inv r) l
  run-inv (cut_again {q} {k} {s} {kept} r t) = cut_off s kept 0 t (recovering-cut q k s (run-inv r))

  -- ---- the ends

  -- the pool met is one that a cut may leave: with all pending stores kept
  pub after-view : (f : Position) (s : State) → Inv sh es p₀ f s → (b : Bool) × AfterCut sh es p₀ (view s) b
  after-view (at_commit k) s h =
      (s.reached || any_seal sh es s.pend, safe-now sh es (Cut sh es p₀) (Done sh es p₀) (drop k (commit_steps sh es)) s h s.pend (Sublistᴰ.refl s.pend))
  after-view at_cut s h = (s.reached, rw (view-is s h.0) h.1)
  after-view (at_recovery q k) s h = (s.reached || any_seal sh es s.pend, recovering-cut q k s h s.pend (Sublistᴰ.refl s.pend))

  pub commit-done : (s : State) → StepRun sh es p₀ (at_commit (length (commit_steps sh es))) s → Done sh es p₀ s
  commit-done s r = safe-end sh es (Cut sh es p₀) (Done sh es p₀) (commit_steps sh es) s (run-inv r)

  pub recovery-done : (s : State) (q : Remedy) (k : ℕ) → StepRun sh es p₀ (at_recovery q k) s → k ≡ length (recovery_steps sh (view s) q)
      → (s.pend ≡ []) × CleanAt sh es p₀ s.base s.reached
  recovery-done s q k r e = go q (run-inv r) e where
    go : (q : Remedy) → Inv sh es p₀ (at_recovery q k) s → k ≡ length (recovery_steps sh (view s) q) → (s.pend ≡ []) × CleanAt sh es p₀ s.base s.reached
    go (replay b n) h e =
        let i : k ≡ length (redo sh es) = e ∙ ap length (steps-redo s b n k h) in
        let d = safe-end sh es (CutLog sh es p₀ (log_at sh b)) (Done sh es p₀) (redo sh es) s
        (subst (λ (m : ℕ). CrashSafe sh es (CutLog sh es p₀ (log_at sh b)) (Done sh es p₀) (drop m (redo sh es)) s) i h.1) in
        (d.0, d.1)
    go clear h e = absurd h
    go nothing h e = h
    go neither h e = absurd h

  pub not-refused : (s : State) → StepRun sh es p₀ at_cut s → remedy sh (view s) ≢ neither
  not-refused s r e = let h = found s (run-inv r) in subst (λ (q : Remedy). Inv sh es p₀ (at_recovery q 0) s) (sym h.1 ∙ e) h.2

  pub cut-sealed : (s : State) → StepRun sh es p₀ at_cut s → (remedy sh (view s) ≡ nothing) ⊎ (s.reached ≡ true)
  cut-sealed s r = let i = run-inv r in ⊎_elim (λ h. inl (nothing-found s i.0 h)) (λ h. inr h.0) i.1

  -- while a recovery stores data or parity, its log is valid with its count: refusal 10 is not met
  pub log-kept : (s : State) (b : Log) (n k : ℕ) → StepRun sh es p₀ (at_recovery (replay b n) k) s → k < 2 * n + 2
      → (valid sh (view s) (log_at sh b) ≡ true) × (count_in (word (view s) (log_at sh b)) ≡ n)
  log-kept s b n k r l = (valid-sealed sh es c.few c.some c.targets (view s) (log_at sh b) sealed (read (view s) b now.1), ap count_in sealed ∙ seal-count es c.few ∙ sym h.0) where
    h : Inv sh es p₀ (at_recovery (replay b n) k) s
    h = run-inv r

    now : CutLog sh es p₀ (log_at sh b) (length (drop k (redo sh es))) s
    now = safe-now sh es (CutLog sh es p₀ (log_at sh b)) (Done sh es p₀) (drop k (redo sh es)) s h.1

    sealed : word (view s) (log_at sh b) ≡ seal_of es
    sealed = now.2 (let e = length-drop k (redo sh es) in let m = redo-count sh es in let z = h.0 in omega arith)
