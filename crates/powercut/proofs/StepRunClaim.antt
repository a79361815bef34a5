-- The claim of proofs/StepRun, proved for every shape with a page of whole words (`Good`): from clean pools and good entries. Assumes
-- nothing else.
use mathlib.Core.Path.{◌≡◌, refl, sym, ap, ap₂, ◌∙◌, subst}
use mathlib.Core.Logic.{◌⊎◌, inl, inr}
use mathlib.Core.Bool.{Bool, true, false}
use mathlib.Core.List.Sublistᴰ
use mathlib.Core.List.{List, [], ◌∷◌, Sublistᴰ}
use Prim.Native.Nat.{ℕ, ◌+◌, ◌*◌, ◌/◌, ◌%◌, ◌≤◌, ◌<◌}
use native.Mathlib.Nat.{zero-lt-suc, not-suc-le-zero, le_refl}
use native.Mathlib.Omega.{arith}
use lib.ListN.{length, get_or}
use Rattle.rules.specs.Words.{Bytes, word}
use Rattle.rules.specs.Shape.{Shape, parity_at, pool_size, zones_at}
use Rattle.rules.specs.Staging.{Store, lay}
use Rattle.rules.proofs.Shape.{Good, InData, fits, row_in}
use Rattle.rules.proofs.Stores.{Covered, bytes-lay}
use Rattle.powercut.specs.Log.{Log, from_a, from_b}
use Rattle.powercut.specs.Steps.{Remedy, clear, commit_steps, neither, nothing, recovery_steps, remedy, replay}
use Rattle.powercut.specs.Power.{State, keep, view}
use Rattle.powercut.specs.Claim.{SameData, staged_or_old}
use Rattle.powercut.proofs.StepRun.{Claim, StepRun, Ended, Entries, Clean, Position, again, at_commit, at_cut, at_recovery, begin, cut, cut_again, recover, step}
use Rattle.powercut.proofs.FinalPool.{ParityW, Setting, final-first, final-parity, final_pool, par-cong, pars-row, targets-all, targets-distinct}
use Rattle.powercut.proofs.Logs.{even-at, remedy-nothing}
use Rattle.powercut.proofs.Redo.{Outside, CleanAt, clean-seal, new, pars}
use Rattle.powercut.proofs.StepRunInvariant.{Inv, commit-done, cut-sealed, log-kept, not-refused, recovery-done, run-inv, steps-redo}
use Rattle.powercut.proofs.ByteParity.{byte-at, parity-bytes, parity-words, row-byte}

floor8 : (s i : ℕ) → s % 8 ≡ 0 → s ≤ i → s ≤ i / 8 * 8
floor8 s i e h = omega arith

-- ---- an end, from a clean pool; where all is new, of one entry or more

module _ (sh : Shape) (g : Good sh) (es : List Store) (p₀ : List ℕ) (o : Clean sh p₀) where
  new-right : (r : Bool) → (r ≡ true → Setting sh es p₀) → ParityW sh (new sh es p₀ r)
  new-right true c = final-parity sh es p₀ (c refl)
  new-right false c = parity-words sh g p₀ o.bytes o.right

  laid-bytes : (r : Bool) → Bytes (staged_or_old r p₀ es)
  laid-bytes true = bytes-lay p₀ es o.bytes
  laid-bytes false = o.bytes

  -- but for parity places, the new pool is the old one with the entries laid in
  laid : (r : Bool) → (r ≡ true → Setting sh es p₀) → (a : ℕ) → a % 8 ≡ 0 → a + 8 ≤ pool_size sh → (Covered a (pars sh es p₀) → ⊥)
      → word (new sh es p₀ r) a ≡ word (staged_or_old r p₀ es) a
  laid true c a ha hn h = pick (final-first sh es p₀ (c refl) a ha hn) where
    pick : Covered a (pars sh es p₀) ⊎ (word (final_pool sh p₀ es) a ≡ word (lay p₀ es) a) → word (final_pool sh p₀ es) a ≡ word (lay p₀ es) a
    pick (inl k) = absurd (h k)
    pick (inr e) = e
  laid false c a ha hn h = refl

  module _ (p : List ℕ) (r : Bool) (c : r ≡ true → Setting sh es p₀) (q : CleanAt sh es p₀ p r) where
    clean-right : ParityW sh p
    clean-right t i =
        let a = parity_at sh t in
        let j = row_in sh g t sh.rows i (le_refl sh.rows) in
        (q.every a j.even (fits sh g a j.even j.high)).out (inr j.low)
        ∙ new-right r c t i
        ∙ par-cong sh g (new sh es p₀ r) p t i
        (λ b d. sym ((q.every b d.inside.even (fits sh g b d.inside.even d.inside.high)).out (inr d.inside.low)))

    clean_of : Clean sh p
    clean_of = record {
      length-is = q.length-is;
      bytes = q.bytes;
      seal_a = clean-seal sh es p₀ g p r q from_a;
      seal_b = clean-seal sh es p₀ g p r q from_b;
      right = parity-bytes sh g p q.bytes clean-right;
    }

    -- a byte whose word is outside the logs and no parity place
    byte-same : (i : ℕ) → i / 8 * 8 + 8 ≤ pool_size sh → Outside sh (i / 8 * 8) → (Covered (i / 8 * 8) (pars sh es p₀) → ⊥)
        → get_or p i 0 ≡ get_or (staged_or_old r p₀ es) i 0
    byte-same i hn l h =
        let a = i / 8 * 8 in
        let e : a % 8 ≡ 0 = omega arith in
        byte-at p (staged_or_old r p₀ es) i q.bytes (laid-bytes r) ((q.every a e hn).out l ∙ laid r c a e hn h)

    same_of : SameData sh p (staged_or_old r p₀ es)
    same_of i l h k =
        byte-same i (fits sh g (i / 8 * 8) d.inside.even d.inside.high) (inr d.inside.low) (λ x. pars-row sh g (i / 8 * 8) (lay p₀ es) es x d)
      where
        d : InData sh (i / 8 * 8)
        d = record {
          inside = record { low = floor8 (zones_at sh) i (even-at sh g 18 0 (zones_at sh) (omega arith)) l; high = omega arith; even = omega arith };
          data-row = subst (λ (y : ℕ). y < sh.rows) (sym (row-byte sh g i)) k;
        }

  pub ended : (s : State) (r : Bool) → (r ≡ true → Setting sh es p₀) → s.pend ≡ [] → CleanAt sh es p₀ s.base r → Ended sh p₀ es s r
  ended s r c e q = record {
    behind = e;
    clean = subst (Clean sh) (sym (ap (lay s.base) e)) (clean_of s.base r c q);
    same = subst (λ (p : List ℕ). SameData sh p (staged_or_old r p₀ es)) (sym (ap (lay s.base) e)) (same_of s.base r c q);
  }

-- ---- no entries: no step changes anything

module _ (sh : Shape) (p₀ : List ℕ) (q : Clean sh p₀) where
  unfoldable pub Unchanged : State → Type 0
  Unchanged s = (s.base ≡ p₀) × (s.pend ≡ [])

  abbrev pub InvEmpty : Position → State → Type 0
  InvEmpty (at_commit k) s = Unchanged s
  InvEmpty at_cut s = Unchanged s
  InvEmpty (at_recovery r k) s = (r ≡ nothing) × Unchanged s

  pub unchanged-view : (s : State) → Unchanged s → view s ≡ p₀
  unfolding Unchanged
  unchanged-view s h = ap₂ lay h.0 h.1

  unchanged-remedy : (s : State) → Unchanged s → remedy sh (view s) ≡ nothing
  unchanged-remedy s h = ap (remedy sh) (unchanged-view s h) ∙ remedy-nothing sh p₀ q.seal_a q.seal_b

  unchanged-cut : (s : State) (kept : List Store) → Unchanged s → Sublistᴰ kept s.pend → Unchanged (keep sh [] s kept)
  unfolding Unchanged keep
  unchanged-cut s kept h t = (ap₂ lay h.0 (Sublistᴰ.eq-nil (subst (λ (l : List Store). Sublistᴰ kept l) h.1 t)), refl)

  pub run-unchanged : {f : Position} {s : State} → StepRun sh [] p₀ f s → InvEmpty f s
  unfolding Unchanged commit_steps recovery_steps
  run-unchanged begin = (refl, refl)
  run-unchanged (step {k} {s} r l) = absurd (not-suc-le-zero l)
  run-unchanged (cut {k} {s} {kept} r t) = unchanged-cut s kept (run-unchanged r) t
  run-unchanged (recover {s} r n) = (unchanged-remedy s (run-unchanged r), run-unchanged r)
  run-unchanged (again {q} {k} {s} r l) =
      absurd (not-suc-le-zero (subst (λ (x : Remedy). k < length (recovery_steps sh (view s) x)) (run-unchanged r).0 l))
  run-unchanged (cut_again {q} {k} {s} {kept} r t) = unchanged-cut s kept (run-unchanged r).1 t

  unchanged-ended : (s : State) (r : Bool) → Unchanged s → Ended sh p₀ [] s r
  unfolding Unchanged
  unchanged-ended s r h = record {
    behind = h.1;
    clean = subst (Clean sh) (sym (unchanged-view s h)) q;
    same = subst (λ (p : List ℕ). SameData sh p (staged_or_old r p₀ [])) (sym (unchanged-view s h)) (same r);
  }
    where
      same : (r : Bool) → SameData sh p₀ (staged_or_old r p₀ [])
      same true = λ i l h k. refl
      same false = λ i l h k. refl

-- ---- the claim

pub setting : (sh : Shape) → Good sh → (e : Store) (es : List Store) (p₀ : List ℕ) → Clean sh p₀ → Entries sh (e ∷ es) → Setting sh (e ∷ es) p₀
setting sh g e es p₀ q h = record {
  good = g;
  length-is = q.length-is;
  bytes = q.bytes;
  seal_a = q.seal_a;
  seal_b = q.seal_b;
  right = parity-words sh g p₀ q.bytes q.right;
  few = h.few;
  some = zero-lt-suc (length es);
  entries = targets-all sh (e ∷ es) h.good h.vals;
  distinct = targets-distinct sh (e ∷ es) h.good;
  targets = h.good;
}

remedy-of : (sh : Shape) (es : List Store) (p₀ : List ℕ) (s : State) (q : Remedy) (k : ℕ) → Inv sh es p₀ (at_recovery q k) s
    → (q ≡ nothing) ⊎ ((l : Log) × (q ≡ replay l (length es)))
remedy-of sh es p₀ s (replay l n) k i = inr (l, ap (replay l) i.0)
remedy-of sh es p₀ s clear k i = absurd i
remedy-of sh es p₀ s nothing k i = inl refl
remedy-of sh es p₀ s neither k i = absurd i

pub step-run-claim : (sh : Shape) → Good sh → (p₀ : List ℕ) (es : List Store) → Clean sh p₀ → Entries sh es → Claim sh p₀ es
step-run-claim sh g p₀ [] q h = record {
  uncut = λ s r. unchanged-ended sh p₀ q s true (run-unchanged sh p₀ q r);
  recovered = λ s x k r i. unchanged-ended sh p₀ q s s.reached (run-unchanged sh p₀ q r).1;
  never-refused = λ s r e. let a = unchanged-remedy sh p₀ q s (run-unchanged sh p₀ q r) in let z : ◌≡◌ {A = ℕ} 0 1 = cc in omega arith;
  remedies = λ s x k r. inl (run-unchanged sh p₀ q r).0;
  sealed = λ s r. inl (unchanged-remedy sh p₀ q s (run-unchanged sh p₀ q r));
  replays = λ s b n k r. let a = (run-unchanged sh p₀ q r).0 in let z : ◌≡◌ {A = ℕ} 0 1 = cc in absurd (omega arith);
  log-kept = λ s b n k r l. let a = (run-unchanged sh p₀ q r).0 in let z : ◌≡◌ {A = ℕ} 0 1 = cc in absurd (omega arith);
}
step-run-claim sh g p₀ (e ∷ es) q h =
    let c = setting sh g e es p₀ q h in
    record {
      uncut = λ s r. let d = commit-done sh (e ∷ es) p₀ c s r in ended sh g (e ∷ es) p₀ q s true (λ b. c) d.0 (subst (CleanAt sh (e ∷ es) p₀ s.base) d.2 d.1);
      recovered = λ s x k r i. let d = recovery-done sh (e ∷ es) p₀ c s x k r i in ended sh g (e ∷ es) p₀ q s s.reached (λ b. c) d.0 d.1;
      never-refused = not-refused sh (e ∷ es) p₀ c;
      remedies = λ s x k r. remedy-of sh (e ∷ es) p₀ s x k (run-inv sh (e ∷ es) p₀ c r);
      sealed = cut-sealed sh (e ∷ es) p₀ c;
      replays = λ s b n k r. steps-redo sh (e ∷ es) p₀ c s b n k (run-inv sh (e ∷ es) p₀ c r);
      log-kept = log-kept sh (e ∷ es) p₀ c;
    }
